use Rattle.std.proofs.Common.{ap}
use Rattle.json.specs.Reads.{token_of}
use Rattle.json_data.proofs.plain_token.key_name.Goals as goal

pub returns-in-Key : goal.returns-in-Key
returns-in-Key c = ap token_of c.in-Key.is
