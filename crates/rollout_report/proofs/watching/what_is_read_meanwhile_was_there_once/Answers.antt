use Rattle.rollout_report.proofs.Watched.{there_once}
use Rattle.rollout_report.proofs.watching.what_is_read_meanwhile_was_there_once.Goals as goal

pub returns : goal.returns
returns c = there_once
