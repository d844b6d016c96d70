use Rattle.std.proofs.Common.{◌∙◌, sym, string_bytes}
use Rattle.wan_model.proofs.Positions.{find_name-keys}
use Rattle.wan_model.proofs.names.Names.find.Goals as goal

pub returns : goal.returns
returns c = c.get_index_of.ensures.index ∙ sym (find_name-keys string_bytes c.self.inside.numbered.keys c.args.self.now c.self.view_is c.args.name.now)
