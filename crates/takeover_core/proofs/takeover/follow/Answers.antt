use Rattle.takeover_core.proofs.Schedules.{one_event_more}
use Rattle.takeover_core.proofs.takeover.follow.Goals as goal

pub loop-event-preserved : goal.loop-event-preserved
loop-event-preserved c =
    one_event_more c.args.worlds.now.rollout c.args.worlds.now.takeover c.args.events.now c.loop-event.event-index c.event-item.result c.loop-event.worlds _
    c.loop-event-test.true c.event-item.is c.loop-event.invariant c.in_ok-step.ensures.ok
