use Rattle.std.proofs.Common.{refl, arith}
use Rattle.order_policy.specs.Answers.{last_rank}
use Rattle.order_policy.proofs.Ranks.{answers_by}
use Rattle.order_policy.proofs.Boxed.{boxed}
use Rattle.edge_cases.proofs.gates.rolled_out.OwnLists as lists
use Rattle.edge_cases.proofs.gates.rolled_out.Goals as goal

pub new-policy-requires-clause-answers : goal.new-policy-requires-clause-answers
new-policy-requires-clause-answers g c =
    boxed lists.own-1 lists.entry-1-1 lists.at-1-1 lists.same-1-1 c.into_dyn_box.ensures.1
    (answers_by last_rank (λ view. view.item) (λ view small. omega (arith, small.item)) (λ view. ∣ (view, refl) ∣₁) (λ view other given. given.1))
