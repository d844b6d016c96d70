use Rattle.std.proofs.Common.{◌∙◌}
use Rattle.dependency_graph.proofs.Standings.{finished-counts}
use Rattle.dependency_graph.proofs.progress.Progress.is_finished.Goals as goal

pub returns : goal.returns
returns c = λ h so. c.all_settled.ensures ∙ finished-counts c.args.self.now h so
