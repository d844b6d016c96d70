use Rattle.std.proofs.Common.{ap, ◌∙◌, arith}
use Rattle.order_policy.specs.Answers.{rank_by}
use Rattle.sim_run.specs.Rehearsing.{Rehearsing}
use Rattle.sim_run.proofs.Trying.{few-sent, tries-on}
use Rattle.sim_run.proofs.trial.do_events.Goals as goal

pub do_next-requires-clause-live : goal.do_next-requires-clause-live
do_next-requires-clause-live g c = ap (λ (r : Rehearsing). r.live) c.loop-event.invariant.rehearsal ∙ c.requires.live

pub do_next-requires-clause-sent : goal.do_next-requires-clause-sent
do_next-requires-clause-sent g c =
    omega (
      arith,
      (few-sent (rank_by c.args.policy.now.answers) c.args.rehearsal.now c.args.draws.now c.loop-event._event c.loop-event.rehearsal c.loop-event.draws c.loop-event.skipped c.loop-event.invariant).sent,
      c.loop-event-test.true,
      c.ranges.events.fits,
    )

pub do_next-requires-clause-given : goal.do_next-requires-clause-given
do_next-requires-clause-given g c =
    omega (
      arith,
      (few-sent (rank_by c.args.policy.now.answers) c.args.rehearsal.now c.args.draws.now c.loop-event._event c.loop-event.rehearsal c.loop-event.draws c.loop-event.skipped c.loop-event.invariant).given,
      c.loop-event-test.true,
      c.ranges.events.fits,
    )

pub loop-event-preserved : goal.loop-event-preserved
loop-event-preserved g c =
    tries-on (rank_by c.args.policy.now.answers) c.args.rehearsal.now c.args.draws.now c.loop-event._event c.loop-event.rehearsal c.loop-event.draws c.loop-event.skipped c.loop-event.invariant
    c.do_next.new.rehearsal c.do_next.new.draws c.in_ok-more.more c.in_ok-more.ensures
