use Rattle.std.proofs.Common.{sym, ◌∙◌}
use Rattle.scratch_plan.proofs.Causes.{some-short}
use Rattle.scratch_plan.proofs.blending.no_slack.Goals as goal

pub unreachable-requires : goal.unreachable-requires
unreachable-requires c = some-short c.args.problem.now c.requires.none (sym c.first_lack.ensures ∙ c.in-None.is)
