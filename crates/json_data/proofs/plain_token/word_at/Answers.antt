use Rattle.std.proofs.Common.{arith}
use Rattle.json.specs.Reads.{token_of}
use Rattle.json_data.proofs.PlainBytes.{word_is}
use Rattle.json_data.proofs.plain_token.word_at.Goals as goal

pub returns-in-Some : goal.returns-in-Some
returns-in-Some c =
    word_is c.args.text.now c.in_ok-back.back.now c.in_ok-word.word.now c.args.at c.word_size-size.result (token_of c.in-Some.token)
    c.in_ok-back.ensures.back c.in_ok-word.ensures.front c.word_size-size.ensures (omega arith) c.in-Some.ensures
