use Rattle.std.proofs.Common.{Some, drop, sym, ap, ◌∙◌}
use Rattle.serde_json.specs.Data.{no_members}
use Rattle.serde_json.specs.Find.{get, get_member}
use Rattle.json_data.specs.Nodes.{entry, entries, members_at}
use Rattle.json_data.proofs.Values.{seen}
use Rattle.json_data.proofs.Spots.{value_seen}
use Rattle.json_data.proofs.Seen.{no_members_in}
use Rattle.json_data.proofs.element.Element.get.Goals as goal

pub returns-in_default : goal.returns-in_default
returns-in_default c =
    let e = c.args.self.now in
    let name = c.args.name.now in
    no_members_in c.first.result (entries e.texts.now (drop 1 e.nodes.now)) name c.in_default.not-Object
    ∙ sym (ap (get name) (value_seen e.texts.now e.nodes.now (entry c.first.result) c.first.ensures))

pub returns-in-Some : goal.returns-in-Some
returns-in-Some c =
    let e = c.args.self.now in
    let name = c.args.name.now in
    ap Some c.first-in-Some.ensures ∙ c.in-Some.ensures
    ∙ ap (λ ns. get_member name (members_at c.in-Object.count (entries e.texts.now ns) no_members)) c.rest.ensures
    ∙ sym (ap (get name) (value_seen e.texts.now e.nodes.now (entry c.first.result) c.first.ensures)
    ∙ ap (λ n. get name (seen (entry n) (entries e.texts.now (drop 1 e.nodes.now)))) c.in-Object.is)

pub returns-in-None : goal.returns-in-None
returns-in-None c =
    let e = c.args.self.now in
    let name = c.args.name.now in
    c.in-None.ensures
    ∙ ap (λ ns. get_member name (members_at c.in-Object.count (entries e.texts.now ns) no_members)) c.rest.ensures
    ∙ sym (ap (get name) (value_seen e.texts.now e.nodes.now (entry c.first.result) c.first.ensures)
    ∙ ap (λ n. get name (seen (entry n) (entries e.texts.now (drop 1 e.nodes.now)))) c.in-Object.is)
