use Rattle.std.proofs.Common.{sym, ◌∙◌, arith}
use Rattle.json.specs.Reads.{token_of}
use Rattle.json_data.proofs.PlainBytes.{either_comma}
use Rattle.json_data.proofs.plain_token.token_at.Goals as goal

pub returns-then-agree-clause-next : goal.returns-then-agree-clause-next
returns-then-agree-clause-next c =
    let comma = c.comma_at-comma in
    let next = c.in_ok-next.next in
    either_comma c.args.text.now c.args.from c.args.ended comma.result.0 (token_of next.0) next.1 comma.result.1 comma.ensures.comma comma.ensures.start
    (sym c.needs_comma.ensures ∙ c.agree.ensures c.if-agree.true) c.in_ok-next.ensures

pub returns-then-agree-clause-ahead : goal.returns-then-agree-clause-ahead
returns-then-agree-clause-ahead c = (omega (arith, c.in_ok-next.ensures.ahead, c.comma_at-comma.ensures.within.0), c.in_ok-next.ensures.high)
