use Rattle.std.proofs.Common.{arith, sym, ◌∙◌}
use Rattle.plan_texts.specs.Rows.{either_at}
use Rattle.plan_texts.proofs.Entries.{entry-grown, entry-stays}
use Rattle.plan_texts.proofs.sums.add_entries.Goals as goal

pub returns-else-either_mark : goal.returns-else-either_mark
returns-else-either_mark c = entry-stays c.args.problem.now (either_at c.args.plan.now c.args.here c.args.next) c.args.t _ (sym c.either_mark.ensures ∙ c.if-either_mark.false)

pub returns-then-either_mark : goal.returns-then-either_mark
returns-then-either_mark c =
    entry-grown c.args.problem.now (either_at c.args.plan.now c.args.here c.args.next) c.args.t _ _ _ _ c.path.ensures.network c.requires.tunnel (sym c.either_mark.ensures ∙ c.if-either_mark.true) c.path.ensures.list (c.from.ensures ∙ c.width.ensures.value) (omega arith) c.add_along.ensures
