use Rattle.std.proofs.Common.{rules, Some}
use Rattle.turn_lock.proofs.Turning.{draws, first_slot}
use Rattle.turn_lock.proofs.lock.TurnLock.take.Goals as goal

pub fetch_add-ticket-requires : goal.fetch_add-ticket-requires
fetch_add-ticket-requires g c = (search rules, search rules, draws _ _ _ _ _ (search rules))

pub exchange-requires : goal.exchange-requires
exchange-requires g c = (search rules, (Some c.wait.ensures.turned.0, first_slot _ _ _ _ _ c.wait.ensures.turned.1))
