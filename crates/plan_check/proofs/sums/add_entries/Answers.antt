use Rattle.std.proofs.Common.{arith, sym, ◌∙◌}
use Rattle.wan_model.proofs.Shapes.{shaped-mark_behind}
use Rattle.plan_check.proofs.Shares.{entry_grown, entry_stays}
use Rattle.plan_check.proofs.sums.add_entries.Goals as goal

pub either_mark-requires-clause-behind : goal.either_mark-requires-clause-behind
either_mark-requires-clause-behind c = shaped-mark_behind c.args.problem.now c.args.plan.now c.requires.shape c.args.s c.args.t c.requires.stage c.requires.tunnel

pub returns-else-either_mark : goal.returns-else-either_mark
returns-else-either_mark c = entry_stays c.args.problem.now c.args.plan.now c.args.s c.args.t _ (sym c.either_mark.ensures ∙ c.if-either_mark.false)

pub returns-then-either_mark : goal.returns-then-either_mark
returns-then-either_mark c =
    entry_grown c.args.problem.now c.args.plan.now c.args.s c.args.t _ _ _ _ c.path.ensures.network c.requires.tunnel (sym c.either_mark.ensures ∙ c.if-either_mark.true) c.path.ensures.list (c.from.ensures ∙ c.width.ensures.value) (omega arith) c.add_along.ensures
