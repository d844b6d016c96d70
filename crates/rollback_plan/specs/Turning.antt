-- The way back: a network with its old and its new split exchanged, and a plan with its stages in reverse order.
use Rattle.std.specs.Prelude.{map, reverse}
use Rattle.rollout_rules.specs.Wan.{Tunnel, Problem, Plan, Rollout}

-- a tunnel with its old and its new rate exchanged
abbrev pub turned : Tunnel → Tunnel
turned t = record t { old = t.new; new = t.old }

abbrev pub back_problem : Problem → Problem
back_problem p = record p { tunnels = map turned p.tunnels }

-- the same stages from the last to the first, at the same scale
abbrev pub back_plan : Plan → Plan
back_plan plan = record plan { stages = reverse plan.stages }

-- the rollout back, from the new split to the old one
abbrev pub back : Rollout → Rollout
back r = record { problem = back_problem r.problem; plan = back_plan r.plan }
