use Rattle.problem_json.proofs.ReadWithin.{read-within}
use Rattle.problem_json.proofs.writing.round_trip.a_plan_that_is_read_is_within.Goals as goal

pub returns : goal.returns
returns c = read-within
