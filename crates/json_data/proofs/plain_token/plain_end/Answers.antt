use Rattle.std.proofs.Common.{◌≡◌, true, arith}
use Rattle.json_data.proofs.PlainBytes.{plain_one}
use Rattle.json_data.proofs.plain_token.plain_end.Goals as goal

pub each-preserved : goal.each-preserved
each-preserved c =
    let plain : c.is_plain.result ≡ true = grind arith in
    plain_one c.args.bytes.now c.each.end c.is_plain.result c.each.invariant (omega arith) c.is_plain.ensures plain
