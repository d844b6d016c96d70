use Rattle.std.proofs.Common.{arith}
use Rattle.std.proofs.lemmas.List.{get_or_default}
use Rattle.agent_state.proofs.last.fit_rates.Goals as goal

pub returns : goal.returns
returns c k d inside = omega (arith, c.type_inv.rates k, get_or_default c.args.rates.now k d 0 inside)
