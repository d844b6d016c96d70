use Rattle.std.proofs.Common.{◌∙◌}
use Rattle.dependency_graph.proofs.Counts.{own-stand}
use Rattle.dependency_graph.proofs.progress.Progress.stage.Goals as goal

pub returns : goal.returns
returns c = λ h so. c.stand.ensures.value ∙ own-stand c.args.plan.now c.args.self.now h c.requires.own so c.args.item c.requires.item
