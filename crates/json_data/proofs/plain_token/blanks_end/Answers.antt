use Rattle.std.proofs.Common.{◌≡◌, true, get_or, refl, arith}
use Rattle.json_data.proofs.PlainBytes.{no_gap, gap_on}
use Rattle.json_data.proofs.plain_token.blanks_end.Goals as goal

pub gap-init : goal.gap-init
gap-init c = no_gap c.args.bytes.now c.args.from c.requires

pub gap-preserved : goal.gap-preserved
gap-preserved c =
    let d = c.args.bytes.now in
    let l = c.gap in
    let blank : c.is_blank.result ≡ true = grind arith in
    gap_on d c.args.from l.end (get_or d l.end 0) l.invariant (omega arith) refl (c.is_blank.ensures blank)
