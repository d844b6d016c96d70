use Rattle.std.proofs.Common.{◌≡◌, ◌<◌, length, get_or, arith}
use Rattle.json_data.proofs.PlainBytes.{plain_front, inside}
use Rattle.json_data.proofs.plain_token.plain_bytes.Goals as goal

pub returns-then-byte_of-eq34-clause-plain : goal.returns-then-byte_of-eq34-clause-plain
returns-then-byte_of-eq34-clause-plain c =
    let d = c.args.bytes.now in
    let size = c.plain_end-size.result in
    let closing : get_or d size 32 ≡ 34 = omega (arith, c.byte_of.ensures) in
    (closing, plain_front d size c.plain_end-size.ensures, c.plain_end-size.ensures.1)

pub returns-then-byte_of-eq34-clause-within : goal.returns-then-byte_of-eq34-clause-within
returns-then-byte_of-eq34-clause-within c =
    let closing : get_or c.args.bytes.now c.plain_end-size.result 32 ≡ 34 = omega (arith, c.byte_of.ensures) in
    inside c.args.bytes.now c.plain_end-size.result 34 closing (λ e. omega (arith, e))
