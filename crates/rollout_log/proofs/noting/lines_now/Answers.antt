use Rattle.rollout_log.proofs.Going.{at_some_time}
use Rattle.rollout_log.proofs.noting.lines_now.Goals as goal

pub returns-in-Some : goal.returns-in-Some
returns-in-Some g c = at_some_time c.args.first c.args.found c.in-Some.ms c.args.entries.now c.text_at.result c.text_at.ensures
