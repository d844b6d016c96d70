use Rattle.std.proofs.Common.{◌≡◌}
use Rattle.rollout_rules.specs.Sums.{list_below}
use Rattle.rollout_rules.specs.Wan.{rate_at, tunnel_of}
use Rattle.wire_frames.specs.Contents.{rates_of}
use Rattle.rollout_book.proofs.contents.flow_rates.Given as goal

-- the rates of the tunnels up to here stand at the front
abbrev pub invariant-loop-j : goal.invariant-loop-j
invariant-loop-j l = l.rates ≡ rates_of (list_below l.j (λ j. rate_at l.plan.plan l.stage (tunnel_of l.plan.problem l.flow j)))
