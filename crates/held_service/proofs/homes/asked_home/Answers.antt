use Rattle.std.proofs.Common.{◌≡◌, ℕ, ◌<◌, true, sym, ap, subst, ◌∙◌, arith}
use Rattle.rollout_rules.specs.Wan.{Problem, Rollout}
use Rattle.rollout_rules.specs.Items.{home_of, is_item, item_at, item_count}
use Rattle.rollout_rules.specs.Operations.{operations}
use Rattle.rollout_rules.proofs.Numbers.{is_item-item_at}
use Rattle.held_service.proofs.Asked.{asked-none, asked-some}
use Rattle.held_service.proofs.homes.asked_home.Goals as goal

-- what is looked up in an index of a rollout is the rollout's
count-is : (q r : Rollout) (n count : ℕ) → q ≡ r → count ≡ operations q.problem q.plan (item_at q.problem n) → count ≡ operations r.problem r.plan (item_at r.problem n)
count-is q r n count own is = is ∙ ap (λ (o : Rollout). operations o.problem o.plan (item_at o.problem n)) own

pub operations-count-requires : goal.operations-count-requires
operations-count-requires c = subst (λ (r : Rollout). c.args.number < item_count r.problem) (sym c.requires.index) c.requires.number

pub item-item-requires : goal.item-item-requires
item-item-requires c = subst (λ (r : Rollout). c.args.number < item_count r.problem) (sym c.requires.index) c.requires.number

pub home_of_item-requires : goal.home_of_item-requires
home_of_item-requires c =
    let p = c.args.plan.now.problem in
    let is = c.item-item.ensures ∙ ap (λ (o : Rollout). item_at o.problem c.args.number) c.requires.index in
    subst (λ (q : Problem). is_item q c.item-item.result ≡ true) (sym c.problem.ensures) (ap (is_item p) is ∙ is_item-item_at p c.args.number c.requires.number)

pub returns-then-count-eq0 : goal.returns-then-count-eq0
returns-then-count-eq0 c =
    let r = c.args.plan.now in
    asked-none r.problem r.plan c.args.number c.operations-count.result (count-is c.args.index.now r c.args.number c.operations-count.result c.requires.index c.operations-count.ensures) c.if-count-eq0.true

pub returns : goal.returns
returns c =
    let r = c.args.plan.now in
    let is = c.item-item.ensures ∙ ap (λ (o : Rollout). item_at o.problem c.args.number) c.requires.index in
    asked-some r.problem r.plan c.args.number c.operations-count.result c.home_of_item.result (count-is c.args.index.now r c.args.number c.operations-count.result c.requires.index c.operations-count.ensures)
    (omega (arith, c.if-count-eq0.false))
    (c.home_of_item.ensures.home ∙ ap (λ (q : Problem). home_of q c.item-item.result) c.problem.ensures ∙ ap (home_of r.problem) is)
