use Rattle.order_policy.specs.Answers.{rank_by}
use Rattle.sim_run.specs.Drafts.{HasSketched}
use Rattle.sim_run.proofs.Drafting.{sketch_at}
use Rattle.sim_run.proofs.draft.draw_events.Given as goal

-- the draft after the events before this one
abbrev pub invariant-loop-event : goal.invariant-loop-event
invariant-loop-event g l = HasSketched l.fn.rehearsal (sketch_at (rank_by l.policy.answers) l.fn.rehearsal l.fn.draws l._event) l.rehearsal l.script l.draws
