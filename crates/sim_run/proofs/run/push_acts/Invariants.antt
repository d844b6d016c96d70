use Rattle.std.proofs.Common.{◌≡◌, ◌++◌, drop}
use Rattle.order_policy.specs.Answers.{rank_by}
use Rattle.sim_run.specs.Acts.{after_acts}
use Rattle.sim_run.specs.Script.{act_lines}
use Rattle.sim_run.proofs.run.push_acts.Given as goal

-- what the acts from this one on lead to, with what was said so far, is the whole
abbrev pub invariant-loop-number : goal.invariant-loop-number
invariant-loop-number g l = record {
  rollout : l.rehearsal.rollout ≡ l.fn.rehearsal.rollout;
  live : l.rehearsal.live ≡ l.fn.rehearsal.live;
  state : after_acts l.fn.rehearsal.rollout.problem l.fn.rehearsal.rollout.plan (rank_by l.policy.answers) l.rehearsal.state (drop l.number l.script) ≡ after_acts l.fn.rehearsal.rollout.problem l.fn.rehearsal.rollout.plan (rank_by l.policy.answers) l.fn.rehearsal.state l.script;
  text : l.text ++ act_lines l.fn.rehearsal.rollout.problem l.fn.rehearsal.rollout.plan (rank_by l.policy.answers) l.number l.rehearsal.state (drop l.number l.script)
      ≡ l.fn.text ++ act_lines l.fn.rehearsal.rollout.problem l.fn.rehearsal.rollout.plan (rank_by l.policy.answers) 0 l.fn.rehearsal.state l.script;
}
