use Rattle.std.proofs.Common.{sym, ◌∙◌}
use Rattle.scratch_plan.proofs.Entries.{entries_grown, entries_stay}
use Rattle.scratch_plan.proofs.tables.add_entries.Goals as goal

pub returns-else-has : goal.returns-else-has
returns-else-has c = entries_stay c.args.problem.now c.args.group c.args.t _ (sym c.has.ensures ∙ c.if-has.false)

pub returns-then-has : goal.returns-then-has
returns-then-has c =
    entries_grown c.args.problem.now c.args.group c.args.t _ _ _ _ c.path.ensures.network c.requires.tunnel (sym c.has.ensures ∙ c.if-has.true) c.path.ensures.list (c.from.ensures ∙ c.width.ensures.value) c.add_along.ensures
