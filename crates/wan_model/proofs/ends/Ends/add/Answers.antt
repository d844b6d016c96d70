use Rattle.std.proofs.Common.{◌∙◌}
use Rattle.wan_model.proofs.Positions.{insert_ends}
use Rattle.wan_model.proofs.ends.Ends.add.Goals as goal

pub returns-clause-ok : goal.returns-clause-ok
returns-clause-ok c = c.in_ok-insert.ensures.keys ∙ insert_ends c.self.inside.numbered.keys c.args.self.now c.args.from c.args.to c.self.view_is c.requires
