use Rattle.std.proofs.Common.{rules}
use Rattle.turn_lock.proofs.Turning.{opens}
use Rattle.turn_lock.proofs.lock.TurnLock.new.Goals as goal

pub new-requires : goal.new-requires
new-requires g c = opens _ _ c.args.value _ (search rules) c.requires
