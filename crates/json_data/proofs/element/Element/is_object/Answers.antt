use Rattle.std.proofs.Common.{drop, is_some, sym, ap, ◌∙◌}
use Rattle.serde_json.specs.Find.{as_object}
use Rattle.json_data.specs.Nodes.{entry, entries}
use Rattle.json_data.proofs.Values.{seen}
use Rattle.json_data.proofs.Spots.{value_seen}
use Rattle.json_data.proofs.Seen.{no_object}
use Rattle.json_data.proofs.element.Element.is_object.Goals as goal

pub returns-in-Object : goal.returns-in-Object
returns-in-Object c =
    let e = c.args.self.now in
    sym (ap (λ d. is_some (as_object d)) (value_seen e.texts.now e.nodes.now (entry c.first.result) c.first.ensures)
    ∙ ap (λ n. is_some (as_object (seen (entry n) (entries e.texts.now (drop 1 e.nodes.now))))) c.in-Object.is)

pub returns-in_default : goal.returns-in_default
returns-in_default c =
    let e = c.args.self.now in
    no_object c.first.result (entries e.texts.now (drop 1 e.nodes.now)) c.in_default.not-Object
    ∙ sym (ap (λ d. is_some (as_object d)) (value_seen e.texts.now e.nodes.now (entry c.first.result) c.first.ensures))
