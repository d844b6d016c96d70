use Rattle.std.proofs.Common.{drop, sym, ap, ◌∙◌}
use Rattle.serde_json.specs.Find.{as_bool}
use Rattle.json_data.specs.Nodes.{entry, entries}
use Rattle.json_data.proofs.Values.{seen}
use Rattle.json_data.proofs.Spots.{value_seen}
use Rattle.json_data.proofs.Seen.{no_bool}
use Rattle.json_data.proofs.element.Element.as_bool.Goals as goal

pub returns-in-Bool : goal.returns-in-Bool
returns-in-Bool c =
    let e = c.args.self.now in
    sym (ap as_bool (value_seen e.texts.now e.nodes.now (entry c.first.result) c.first.ensures)
    ∙ ap (λ n. as_bool (seen (entry n) (entries e.texts.now (drop 1 e.nodes.now)))) c.in-Bool.is)

pub returns-in_default : goal.returns-in_default
returns-in_default c =
    let e = c.args.self.now in
    no_bool c.first.result (entries e.texts.now (drop 1 e.nodes.now)) c.in_default.not-Bool
    ∙ sym (ap as_bool (value_seen e.texts.now e.nodes.now (entry c.first.result) c.first.ensures))
