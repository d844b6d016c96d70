use Rattle.std.proofs.Common.{◌∙◌, arith}
use Rattle.order_policy.specs.Answers.{rank_by}
use Rattle.sim_run.proofs.Drafting.{at-first, sketch-lives, sketch-within, sketches-on}
use Rattle.sim_run.proofs.draft.draw_events.Goals as goal

pub loop-event-init : goal.loop-event-init
loop-event-init g c = at-first (rank_by c.args.policy.now.answers) c.args.rehearsal.now c.args.draws.now c.requires.first c.args.script.now c.requires.none

pub draw_next-requires-clause-live : goal.draw_next-requires-clause-live
draw_next-requires-clause-live g c =
    sketch-lives (rank_by c.args.policy.now.answers) c.args.rehearsal.now c.args.draws.now c.loop-event._event c.loop-event.rehearsal c.loop-event.script c.loop-event.draws c.loop-event.invariant
    ∙ c.requires.live

pub draw_next-requires-clause-sent : goal.draw_next-requires-clause-sent
draw_next-requires-clause-sent g c =
    omega (
      arith,
      (sketch-within (rank_by c.args.policy.now.answers) c.args.rehearsal.now c.args.draws.now c.loop-event._event c.loop-event.rehearsal c.loop-event.script c.loop-event.draws c.loop-event.invariant).sent,
      c.loop-event-test.true,
      c.ranges.events.fits,
    )

pub draw_next-requires-clause-given : goal.draw_next-requires-clause-given
draw_next-requires-clause-given g c =
    omega (
      arith,
      (sketch-within (rank_by c.args.policy.now.answers) c.args.rehearsal.now c.args.draws.now c.loop-event._event c.loop-event.rehearsal c.loop-event.script c.loop-event.draws c.loop-event.invariant).given,
      c.loop-event-test.true,
      c.ranges.events.fits,
    )

pub loop-event-preserved : goal.loop-event-preserved
loop-event-preserved g c =
    sketches-on (rank_by c.args.policy.now.answers) c.args.rehearsal.now c.args.draws.now c.loop-event._event c.loop-event.rehearsal c.loop-event.script c.loop-event.draws c.loop-event.invariant
    c.draw_next.new.rehearsal c.draw_next.new.script c.draw_next.new.draws c.in_ok-draw_next.ensures
