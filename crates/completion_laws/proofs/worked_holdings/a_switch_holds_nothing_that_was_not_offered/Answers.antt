use Rattle.completion_laws.proofs.SmallHoldings.{not-moved}
use Rattle.completion_laws.proofs.worked_holdings.a_switch_holds_nothing_that_was_not_offered.Goals as goal

pub returns : goal.returns
returns c = not-moved
