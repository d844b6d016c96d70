use Rattle.std.proofs.Common.{◌≡◌, [], ◌++◌, Some, sym, ap, ◌∙◌, arith, append-nil}
use Rattle.json.specs.Reads.{token_of}
use Rattle.json_data.specs.Nodes.{value_at, spotted}
use Rattle.json_data.proofs.PlainGrammar.{whole_plain}
use Rattle.json_data.proofs.plain_value.read_plain.Goals as goal

pub plain_value-requires : goal.plain_value-requires
plain_value-requires c = (c.in_ok-first.ensures.ahead.1, c.in_ok-first.ensures.next.placed)

pub gap_end-last-requires : goal.gap_end-last-requires
gap_end-last-requires c = c.in_ok-end.ensures.ahead.1

pub returns-then-last-text : goal.returns-then-last-text
returns-then-last-text c =
    let d = c.args.text.now in
    let first = c.in_ok-first.first in
    let done = c.in_ok-end.ensures.ok in
    let more = done.1 in
    let same : spotted d c.plain_value.new.nodes.items ≡ more.0 ++ [] = more.1 ∙ ap (λ ns. spotted d ns ++ more.0) c.new-nodes.ensures.items ∙ sym (append-nil more.0) in
    whole_plain d (token_of first.0) first.1 done.0 c.in_ok-end.end c.gap_end-last.result c.in_ok-first.ensures.next done.2 c.gap_end-last.ensures (omega arith)
    ∙ ap Some (sym (ap value_at same ∙ more.2.value []))
