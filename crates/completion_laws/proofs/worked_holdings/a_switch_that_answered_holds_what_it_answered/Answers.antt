use Rattle.completion_laws.proofs.SmallHoldings.{has-come, not-lost}
use Rattle.completion_laws.proofs.worked_holdings.a_switch_that_answered_holds_what_it_answered.Goals as goal

pub returns-clause-came : goal.returns-clause-came
returns-clause-came c = has-come

pub returns-clause-lost : goal.returns-clause-lost
returns-clause-lost c = not-lost
