use Rattle.order_policy.specs.Answers.{rank_by}
use Rattle.sim_run.proofs.Trying.{IsTrying}
use Rattle.sim_run.proofs.trial.do_events.Given as goal

-- the trial after the events before this one
abbrev pub invariant-loop-event : goal.invariant-loop-event
invariant-loop-event g l = IsTrying (rank_by l.policy.answers) l.fn.rehearsal l.fn.draws l._event l.rehearsal l.draws l.skipped
