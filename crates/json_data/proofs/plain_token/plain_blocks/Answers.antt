use Rattle.std.proofs.Common.{◌≡◌, true, arith}
use Rattle.json_data.proofs.PlainBytes.{plain_block}
use Rattle.json_data.proofs.plain_token.plain_blocks.Goals as goal

pub each-init : goal.each-init
each-init c = (λ k lt. absurd (omega (arith, lt)), omega arith)

pub has_plain_block-requires : goal.has_plain_block-requires
has_plain_block-requires c = c.each.invariant.1

pub each-preserved : goal.each-preserved
each-preserved c =
    let plain : c.has_plain_block.result ≡ true = grind arith in
    let more = c.has_plain_block.ensures plain in
    plain_block c.args.bytes.now c.each.end c.each.invariant more.0 more.1
