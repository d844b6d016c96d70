use Rattle.std.proofs.Common.{◌≡◌, None}
use Rattle.rollout_rules.specs.History.{places_of}
use Rattle.plan_check.specs.First.{first_below}
use Rattle.retarget_plan.specs.Leaving.{partly_at}
use Rattle.retarget_plan.proofs.leaving.first_partly.Given as goal

abbrev pub invariant-loop-tunnel : goal.invariant-loop-tunnel
invariant-loop-tunnel l = first_below l.tunnel (partly_at l.plan.problem l.plan.plan (places_of l.plan.problem l.graph.history)) ≡ None
