use Rattle.std.proofs.Common.{◌≡◌, None}
use Rattle.rollout_rules.specs.Wan.{tunnel_at}
use Rattle.wan_model.specs.Sides.{rate_on}
use Rattle.plan_check.specs.FirstBroken.{stands_off}
use Rattle.plan_check.specs.First.{first_below}
use Rattle.plan_check.proofs.ends.off_side.Given as goal

abbrev pub invariant-loop-t : goal.invariant-loop-t
invariant-loop-t l = first_below l.t (λ t. stands_off l.plan l.clause l.s t (rate_on l.side (tunnel_at l.problem t))) ≡ None
