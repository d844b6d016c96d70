use Rattle.problem_json.proofs.ReadClaims.{claimed_is_read}
use Rattle.problem_json.proofs.writing.round_trip.written_claim_is_read.Goals as goal

pub returns : goal.returns
returns c = claimed_is_read
