use Rattle.std.proofs.Common.{◌∙◌, ap, map, string_bytes}
use Rattle.wan_model.proofs.Positions.{insert_name}
use Rattle.wan_model.proofs.names.Names.add.Goals as goal

pub returns-clause-ok : goal.returns-clause-ok
returns-clause-ok c =
    ap (map string_bytes) c.in_ok-insert.ensures.keys
    ∙ insert_name string_bytes c.self.inside.numbered.keys c.args.self.now c.self.view_is c.in_ok-name.name c.args.name.now c.in_ok-name.ensures.ok c.requires
