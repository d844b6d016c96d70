use Rattle.problem_json.proofs.ReadAgain.{problem_is_read}
use Rattle.problem_json.proofs.writing.round_trip.written_problem_is_read.Goals as goal

pub returns : goal.returns
returns c place p net = problem_is_read p net place
