use Rattle.std.proofs.Common.{◌≡◌, ℕ, ◌-◌, ◌<◌, true, get_or, sym, ap, ◌∙◌, subst, arith}
use Rattle.rollout_rules.specs.Sums.{sum_below}
use Rattle.rollout_rules.specs.Items.{is_item, item_at, item_count}
use Rattle.rollout_rules.specs.Operations.{operations}
use Rattle.rollout_rules.specs.History.{settled}
use Rattle.rollout_rules.proofs.Below.{sum_below-same}
use Rattle.rollout_rules.proofs.Numbers.{is_item-item_at}
use Rattle.rollout_report.proofs.Starting.{front-all}
use Rattle.rollout_report.proofs.pass.Pass.left.Goals as goal

pub operations-requires : goal.operations-requires
operations-requires c =
    let same : c.args.plan.now ≡ c.self.inside.course.rollout = c.requires ∙ sym (ap (λ v. v.course.rollout) c.self.view_is) in
    let low : c.loop-number.number < item_count c.args.plan.now.problem = omega (arith, c.loop-number-test.true, c.item_count-number-end.ensures, ap item_count c.problem.ensures) in
    let is : c.item.result ≡ item_at c.args.plan.now.problem c.loop-number.number = c.item.ensures.value ∙ ap (λ r. item_at r.problem c.loop-number.number) (sym same) in
    subst (λ i. is_item c.args.plan.now.problem i ≡ true) (sym is) (is_item-item_at c.args.plan.now.problem c.loop-number.number low)

pub returns : goal.returns
returns c = λ h past.
    let p = c.args.plan.now.problem in
    let plan = c.args.plan.now.plan in
    let end : c.loop-number.number ≡ item_count p = omega (arith, c.loop-number-test.false, c.loop-number.auto.number-end, c.item_count-number-end.ensures, ap item_count c.problem.ensures) in
    let term : ℕ → ℕ = λ n. operations p plan (item_at p n) - get_or c.args.self.now.course.counts.settled n 0 in
    c.loop-number.invariant.sum ∙ ap (λ m. sum_below m term) end
    ∙ sum_below-same (item_count p) term (λ n. operations p plan (item_at p n) - settled h n)
    (λ n low. ap (λ s. operations p plan (item_at p n) - s) (past.counts.counts.settled n (omega (arith, past.counts.all_settled, low)) ∙ ap (λ g. settled g n) (front-all h)))
