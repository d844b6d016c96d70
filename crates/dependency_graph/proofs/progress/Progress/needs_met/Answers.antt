use Rattle.std.proofs.Common.{◌∙◌}
use Rattle.dependency_graph.proofs.Counts.{left-stands, own-needs}
use Rattle.dependency_graph.proofs.progress.Progress.needs_met.Goals as goal

pub needs_met-requires-clause-left : goal.needs_met-requires-clause-left
needs_met-requires-clause-left c = left-stands c.args.plan.now c.args.self.now c.args.item c.requires.left

pub returns : goal.returns
returns c = λ h so. c.needs_met.ensures ∙ own-needs c.args.plan.now c.args.self.now h c.requires.own so c.checked_plan_is_valid.ensures.network c.args.item c.requires.item
