use Rattle.std.proofs.Common.{Some, drop, sym, ap, ◌∙◌}
use Rattle.serde_json.specs.Find.{as_array}
use Rattle.json_data.specs.Nodes.{entry, entries, items_at}
use Rattle.json_data.proofs.Values.{seen}
use Rattle.json_data.proofs.Spots.{value_seen}
use Rattle.json_data.proofs.Seen.{no_array}
use Rattle.json_data.proofs.element.Element.as_array.Goals as goal

pub returns-in-Array : goal.returns-in-Array
returns-in-Array c =
    let e = c.args.self.now in
    ap Some (c.first-in-Array.ensures ∙ ap (λ ns. items_at c.in-Array.count (entries e.texts.now ns)) c.rest.ensures)
    ∙ sym (ap as_array (value_seen e.texts.now e.nodes.now (entry c.first.result) c.first.ensures)
    ∙ ap (λ n. as_array (seen (entry n) (entries e.texts.now (drop 1 e.nodes.now)))) c.in-Array.is)

pub returns-in_default : goal.returns-in_default
returns-in_default c =
    let e = c.args.self.now in
    no_array c.first.result (entries e.texts.now (drop 1 e.nodes.now)) c.in_default.not-Array
    ∙ sym (ap as_array (value_seen e.texts.now e.nodes.now (entry c.first.result) c.first.ensures))
