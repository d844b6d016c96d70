use Rattle.std.proofs.Common.{◌≡◌, ◌∙◌, refl, subst, arith}
use Rattle.rollout_rules.specs.Release.{held_back}
use Rattle.order_policy.specs.Answers.{last_rank, rank_by}
use Rattle.order_policy.proofs.Ranks.{answers_by}
use Rattle.order_policy.proofs.Boxed.{boxed}
use Rattle.named_policies.specs.Policies.{critical, order, freeze, RanksBy}
use Rattle.named_policies.proofs.Boxes.{ranks_by}
use Rattle.named_policies.proofs.Frozen.{freeze-most}
use Rattle.swanroll.proofs.run.OwnLists as lists
use Rattle.swanroll.proofs.run.Goals as goal

pub new-requires-4-clause-answers : goal.new-requires-4-clause-answers
new-requires-4-clause-answers g c =
    boxed lists.own-1 lists.entry-1-1 lists.at-1-1 lists.same-1-1 c.into_dyn_box.ensures.1
    (answers_by last_rank critical (λ view small. omega arith) (λ view. ∣ (view, refl) ∣₁) (λ view other given. given.1))

pub new-requires-5-clause-answers : goal.new-requires-5-clause-answers
new-requires-5-clause-answers g c =
    boxed lists.own-1 lists.entry-1-2 lists.at-1-2 lists.same-1-2 c.into_dyn_box-in_ok-new-2.ensures.1
    (answers_by last_rank order (λ view small. omega arith) (λ view. ∣ (view, refl) ∣₁) (λ view other given. given.1))

pub holding-requires-clause-answers : goal.holding-requires-clause-answers
holding-requires-clause-answers g c =
    let ceiling = c.in_ok-new-3.field-0.value.0 in
    boxed lists.own-1 lists.entry-1-3 lists.at-1-3 lists.same-1-3 c.into_dyn_box-in_ok-new-3.ensures.1
    (answers_by held_back (freeze ceiling) (λ view small. freeze-most ceiling view) (λ view. ∣ (view, refl) ∣₁) (λ view other given. given.1))

pub policies_of-requires-clause-chain : goal.policies_of-requires-clause-chain
policies_of-requires-clause-chain g c =
    ranks_by lists.own-1 lists.entry-1-1 lists.at-1-1 lists.same-1-1 (rank_by c.new-4.result.answers) critical c.into_dyn_box.ensures.1 c.new-4.ensures.ranks (λ view. (view, refl))

pub policies_of-requires-clause-item : goal.policies_of-requires-clause-item
policies_of-requires-clause-item g c =
    ranks_by lists.own-1 lists.entry-1-2 lists.at-1-2 lists.same-1-2 (rank_by c.new-5.result.answers) order c.into_dyn_box-in_ok-new-2.ensures.1 c.new-5.ensures.ranks (λ view. (view, refl))

pub policies_of-requires-clause-frozen : goal.policies_of-requires-clause-frozen
policies_of-requires-clause-frozen g c =
    let answers = rank_by c.holding.result.answers in
    let kept = c.in_ok-new-3.field-0.value.0 in
    let same : kept ≡ c.ceiling-ceiling.result = rw c.in_ok-new-3.ensures.ok refl in
    let ranks : RanksBy answers (freeze kept) =
    ranks_by lists.own-1 lists.entry-1-3 lists.at-1-3 lists.same-1-3 answers (freeze kept) c.into_dyn_box-in_ok-new-3.ensures.1 c.holding.ensures (λ view. (view, refl)) in
    (c.ceiling-ceiling.ensures.0, subst (λ ceiling. RanksBy answers (freeze ceiling)) (same ∙ c.ceiling-ceiling.ensures.1) ranks)
