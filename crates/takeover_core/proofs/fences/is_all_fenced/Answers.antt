use Rattle.std.proofs.Common.{◌≡◌, ◌∙◌, ◌==◌, ◌||◌, ℕ, Bool, true, sym, ap, subst, arith}
use Rattle.rollout_rules.specs.Sums.{all_below}
use Rattle.rollout_rules.specs.Items.{item_at, item_count}
use Rattle.rollout_rules.specs.Operations.{operations}
use Rattle.rollout_rules.proofs.Below.{all_below_stops}
use Rattle.takeover_rules.specs.Takeovers.{is_fenced}
use Rattle.takeover_core.proofs.fences.is_all_fenced.Goals as goal

pub returns-then-not-is_closed : goal.returns-then-not-is_closed
returns-then-not-is_closed c =
    let r = c.args.plan.now in
    let test : ℕ → Bool = λ n. (operations r.problem r.plan (item_at r.problem n) == 0) || is_fenced r.problem c.args.fenced.now n in
    let items = c.item_count-item-end.ensures ∙ ap item_count c.problem.ensures in
    sym (all_below_stops test (item_count r.problem) c.loop-item.item (omega (arith, c.loop-item-test.true, items)) (sym c.is_closed.ensures ∙ c.if-not-is_closed.true))

pub returns : goal.returns
returns c =
    let r = c.args.plan.now in
    let test : ℕ → Bool = λ n. (operations r.problem r.plan (item_at r.problem n) == 0) || is_fenced r.problem c.args.fenced.now n in
    let items = c.item_count-item-end.ensures ∙ ap item_count c.problem.ensures in
    let end : c.loop-item.item ≡ item_count r.problem = omega (arith, c.loop-item-test.false, c.loop-item.auto.item-end, items) in
    sym (subst (λ n. all_below n test ≡ true) end c.loop-item.invariant)
