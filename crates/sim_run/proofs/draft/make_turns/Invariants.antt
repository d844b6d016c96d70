use Rattle.order_policy.specs.Answers.{rank_by}
use Rattle.sim_run.proofs.Drafting.{IsTurning}
use Rattle.sim_run.proofs.draft.make_turns.Given as goal

-- what is left of the turns leads to where all of them do
abbrev pub invariant-loop-made : goal.invariant-loop-made
invariant-loop-made g l = IsTurning (rank_by l.policy.answers) l.most l.fn.rehearsal l.fn.script l._made l.rehearsal l.script
