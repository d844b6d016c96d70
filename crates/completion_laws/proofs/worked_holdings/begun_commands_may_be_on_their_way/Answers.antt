use Rattle.completion_laws.proofs.SmallHoldings.{not-on-its-way, on-its-way}
use Rattle.completion_laws.proofs.worked_holdings.begun_commands_may_be_on_their_way.Goals as goal

pub returns-clause-begun : goal.returns-clause-begun
returns-clause-begun c = on-its-way

pub returns-clause-unbegun : goal.returns-clause-unbegun
returns-clause-unbegun c = not-on-its-way
