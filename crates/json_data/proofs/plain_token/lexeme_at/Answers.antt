use Rattle.std.proofs.Common.{arith}
use Rattle.json.specs.Reads.{token_of}
use Rattle.json_data.proofs.PlainBytes.{mark_is}
use Rattle.json_data.proofs.plain_token.lexeme_at.Goals as goal

pub string_at-requires-clause-quote : goal.string_at-requires-clause-quote
string_at-requires-clause-quote c = omega (arith, c.byte_at-byte.ensures)

pub returns-in-Some : goal.returns-in-Some
returns-in-Some c = mark_is c.args.text.now c.args.at c.byte_at-byte.result (token_of c.in-Some.token) c.byte_at-byte.ensures c.in-Some.ensures
