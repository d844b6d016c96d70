use Rattle.completion_laws.proofs.SmallHoldings.{may-be-lost, may-have-come}
use Rattle.completion_laws.proofs.worked_holdings.a_silent_switch_may_hold_what_was_offered_or_not.Goals as goal

pub returns-clause-came : goal.returns-clause-came
returns-clause-came c = may-have-come

pub returns-clause-lost : goal.returns-clause-lost
returns-clause-lost c = may-be-lost
