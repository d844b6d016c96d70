use Rattle.std.proofs.Common.{◌≡◌, true, take}
use Rattle.rollout_rules.specs.Legal as legal
use Rattle.rollout_core.proofs.history.History.may_follow.Given as goal

abbrev pub invariant-loop-n : goal.invariant-loop-n
invariant-loop-n l = legal.may_follow l.self.rollout.problem l.self.rollout.plan l.self.history (take l.n l.batch) ≡ true
