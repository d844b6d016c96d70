use Rattle.std.proofs.Common.{◌+◌, sym, subst, ap, ◌∙◌, take}
use Rattle.rollout_rules.specs.World.{happens}
use Rattle.rollout_core.proofs.Schedules.{IsAfter, is_after-happens, is_after-passes}
use Rattle.rollout_core.proofs.rollout.follow.Goals as goal
use Rattle.rollout_core.proofs.rollout.follow.Goals.{then-allows+in_ok-copied_event+in_ok-step, else-allows}

pub loop-event-preserved : goal.loop-event-preserved
loop-event-preserved c =
    let r = c.args.world.now.rollout in
    let begins = c.args.world.now.world in
    let events = c.args.events.now in
    let s = c.loop-event.world in
    let after : IsAfter r begins (take c.loop-event.event-index events) s = c.loop-event.invariant in
    elim c.if-allows.branch [
      | then-allows+in_ok-copied_event+in_ok-step w ↦
          subst (IsAfter r begins (take (c.loop-event.event-index + 1) events))
          (sym (w.world-is ∙ w.in_ok-step.ensures.ok ∙ ap (λ e. record s { world = happens s.rollout.problem s.rollout.plan s.world e }) w.in_ok-copied_event.ensures))
          (is_after-happens r begins events c.loop-event.event-index c.event-item.result c.loop-event-test.true c.event-item.is s after (sym c.allows.ensures ∙ w.if-allows.true))
      | else-allows w ↦
          subst (IsAfter r begins (take (c.loop-event.event-index + 1) events)) (sym w.world-is)
          (is_after-passes r begins events c.loop-event.event-index c.event-item.result c.loop-event-test.true c.event-item.is s after (sym c.allows.ensures ∙ w.if-allows.false))
    ]
