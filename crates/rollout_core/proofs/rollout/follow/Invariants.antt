use Rattle.std.proofs.Common.{take}
use Rattle.rollout_core.proofs.Schedules.{IsAfter}
use Rattle.rollout_core.proofs.rollout.follow.Given as goal

abbrev pub invariant-loop-event : goal.invariant-loop-event
invariant-loop-event l = IsAfter l.initial.world.rollout l.initial.world.world (take l.event-index l.events) l.world
