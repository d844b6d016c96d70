use Rattle.json_data.proofs.PlainBytes.{number_word}
use Rattle.json_data.proofs.plain_token.word_token.Goals as goal

pub returns-then-is_number : goal.returns-then-is_number
returns-then-is_number c = number_word c.args.word.now (c.is_number.ensures.0 c.if-is_number.true)
