use Rattle.std.proofs.Common.{◌+◌, arith}
use Rattle.json_data.proofs.PlainBytes.{string_is, key_is}
use Rattle.json_data.proofs.plain_token.string_at.Goals as goal

pub returns-then-byte_at-eq58 : goal.returns-then-byte_at-eq58
returns-then-byte_at-eq58 c =
    let d = c.args.text.now in
    let inner = c.in_ok-inner.inner in
    let content = c.in_ok-content.content in
    let size = c.in_ok-size.size in
    let text = string_is d inner.now content.now c.args.at size c.requires.quote c.in_ok-inner.ensures.back c.in_ok-size.ensures.plain c.in_ok-content.ensures.front c.in_ok-inner.ensures.cut c.in_ok-content.ensures.cut in
    key_is d content.now c.args.at (c.args.at + 1 + size + 1) text (omega (arith, c.byte_at.ensures))

pub returns : goal.returns
returns c =
    string_is c.args.text.now c.in_ok-inner.inner.now c.in_ok-content.content.now c.args.at c.in_ok-size.size c.requires.quote c.in_ok-inner.ensures.back c.in_ok-size.ensures.plain c.in_ok-content.ensures.front c.in_ok-inner.ensures.cut c.in_ok-content.ensures.cut
