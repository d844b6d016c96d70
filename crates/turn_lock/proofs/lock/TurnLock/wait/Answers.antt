use Rattle.std.proofs.Common.{rules}
use Rattle.turn_lock.proofs.Turning.{looks}
use Rattle.turn_lock.proofs.lock.TurnLock.wait.Goals as goal

pub load-turn-requires : goal.load-turn-requires
load-turn-requires g c = (search rules, search rules, looks _ _ _ _ _ (search rules))
