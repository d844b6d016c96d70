use Rattle.swanroll_top.proofs.ReadyFleets.{held-not, never-used-ready, three-few, unanswered-not, untold-not}
use Rattle.swanroll_top.proofs.worked.a_fleet_is_ready_for_a_rollout.Goals as goal

pub returns-clause-ready : goal.returns-clause-ready
returns-clause-ready c = never-used-ready

pub returns-clause-few_rounds : goal.returns-clause-few_rounds
returns-clause-few_rounds c ready = three-few ready

pub returns-clause-held : goal.returns-clause-held
returns-clause-held c ready = held-not ready

pub returns-clause-untold : goal.returns-clause-untold
returns-clause-untold c ready = untold-not ready

pub returns-clause-to_come : goal.returns-clause-to_come
returns-clause-to_come c ready = unanswered-not ready
