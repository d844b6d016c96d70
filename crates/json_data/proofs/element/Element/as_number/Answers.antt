use Rattle.std.proofs.Common.{drop, sym, ap, ◌∙◌}
use Rattle.serde_json.specs.Find.{as_number}
use Rattle.json_data.specs.Nodes.{entry, entries}
use Rattle.json_data.proofs.Values.{seen}
use Rattle.json_data.proofs.Spots.{value_seen}
use Rattle.json_data.proofs.Seen.{no_number}
use Rattle.json_data.proofs.element.Element.as_number.Goals as goal

pub returns-in-Number : goal.returns-in-Number
returns-in-Number c =
    let e = c.args.self.now in
    sym (ap as_number (value_seen e.texts.now e.nodes.now (entry c.first.result) c.first.ensures)
    ∙ ap (λ n. as_number (seen (entry n) (entries e.texts.now (drop 1 e.nodes.now)))) c.in-Number.is)

pub returns-in_default : goal.returns-in_default
returns-in_default c =
    let e = c.args.self.now in
    no_number c.first.result (entries e.texts.now (drop 1 e.nodes.now)) c.in_default.not-Number
    ∙ sym (ap as_number (value_seen e.texts.now e.nodes.now (entry c.first.result) c.first.ensures))
