use Rattle.std.proofs.Common.{◌∙◌, sym, arith}
use Rattle.retarget_plan.proofs.Copied.{empty-plain, empty-wide}
use Rattle.retarget_plan.proofs.copying.empty_like.Goals as goal

pub returns-then-format-eq1 : goal.returns-then-format-eq1
returns-then-format-eq1 c = empty-plain c.args.problem.now c.new.result c.new.ensures (sym c.format.ensures.value ∙ c.if-format-eq1.true)

pub returns : goal.returns
returns c =
    empty-wide c.args.problem.now c.new_wide.result c.new_wide.ensures c.format.ensures.network.format (λ e. omega (arith, e, c.format.ensures.value, c.if-format-eq1.false))
