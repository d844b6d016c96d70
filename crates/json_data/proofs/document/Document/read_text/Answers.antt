use Rattle.std.proofs.Common.{◌≡◌, [], ◌++◌, map, Some, sym, ap, ◌∙◌, rules, append-nil}
use Rattle.json.specs.Lex.{tokens}
use Rattle.json.specs.Json.{value}
use Rattle.json_data.specs.Nodes.{value_at, entry}
use Rattle.json_data.proofs.Reading.{whole_read}
use Rattle.json_data.proofs.document.Document.read_text.Goals as goal

pub returns-clause-ok : goal.returns-clause-ok
returns-clause-ok c =
    let none : c.read.new.reader ≡ [] = search rules in
    let done = c.in_ok-read.ensures.ok in
    let more = done.1 in
    let same : map entry c.read.new.nodes.items ≡ more.0 ++ [] = more.1 ∙ ap (λ ns. map entry ns ++ more.0) c.new-kept.ensures.items ∙ sym (append-nil more.0) in
    whole_read (value 127 (tokens c.args.text.now)) done.0 (rw (c.in_ok-reader.ensures.ok, none) at done.2)
    ∙ ap Some (sym (ap value_at (c.in_ok-nodes.ensures.ok c.args.text.now ∙ same) ∙ more.2.value []))
