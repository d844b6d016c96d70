use Rattle.std.proofs.Common.{take}
use Rattle.takeover_core.proofs.Schedules.{IsAfter}
use Rattle.takeover_core.proofs.takeover.follow.Given as goal

abbrev pub invariant-loop-event : goal.invariant-loop-event
invariant-loop-event l = IsAfter l.initial.worlds.rollout l.initial.worlds.takeover (take l.event-index l.events) l.worlds
