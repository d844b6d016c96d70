use Rattle.takeover_top.proofs.ReadyExamples.{ahead-not, few-not, never-ready, unanswered-not, untold-not}
use Rattle.takeover_top.proofs.worked.a_fleet_is_ready_to_be_taken_over.Goals as goal

pub returns-clause-ready : goal.returns-clause-ready
returns-clause-ready c = never-ready

pub returns-clause-few_rounds : goal.returns-clause-few_rounds
returns-clause-few_rounds c ready = few-not ready

pub returns-clause-untold : goal.returns-clause-untold
returns-clause-untold c ready = untold-not ready

pub returns-clause-to_come : goal.returns-clause-to_come
returns-clause-to_come c ready = unanswered-not ready

pub returns-clause-later : goal.returns-clause-later
returns-clause-later c ready = ahead-not ready
