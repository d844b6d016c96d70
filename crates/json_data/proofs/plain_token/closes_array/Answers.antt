use Rattle.std.proofs.Common.{ap}
use Rattle.std.proofs.lemmas.Bool.{false≢true}
use Rattle.json.specs.Reads.{token_of}
use Rattle.json_data.proofs.plain_token.closes_array.Goals as goal

pub returns-in-EndArray : goal.returns-in-EndArray
returns-in-EndArray c truth = ap token_of c.in-EndArray.is

pub returns-in_default : goal.returns-in_default
returns-in_default c truth = absurd (false≢true truth)
