use Rattle.problem_json.proofs.Events.{more}
use Rattle.problem_json.proofs.read.scripts.event_of_two.Goals as goal

pub returns-in-Some : goal.returns-in-Some
returns-in-Some c = more c.args.event _ _ _ _ _ c.in-Some.ensures
