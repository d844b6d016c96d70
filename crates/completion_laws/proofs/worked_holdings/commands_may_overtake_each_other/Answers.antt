use Rattle.std.proofs.Common.{refl}
use Rattle.completion_laws.proofs.SmallHoldings.{may-overtake}
use Rattle.completion_laws.proofs.worked_holdings.commands_may_overtake_each_other.Goals as goal

pub returns-clause-may : goal.returns-clause-may
returns-clause-may c = may-overtake

pub returns-clause-is : goal.returns-clause-is
returns-clause-is c = refl
