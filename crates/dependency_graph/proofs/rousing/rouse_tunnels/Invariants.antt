use Rattle.std.proofs.Common.{ℕ, ◌<◌}
use Rattle.rollout_rules.specs.Wan.{hops, tunnel_of}
use Rattle.rollout_rules.specs.Items.{number_of}
use Rattle.rollout_rules.specs.declared.item.Item.TheVariants as item
use Rattle.dependency_graph.specs.Wakes.{Rouses}
use Rattle.dependency_graph.specs.Waiting.{IsRoused}
use Rattle.dependency_graph.proofs.rousing.rouse_tunnels.Given as goal

abbrev pub invariant-loop-j : goal.invariant-loop-j
invariant-loop-j l = Rouses l.initial.wakes l.wakes
    × ((j h : ℕ) → j < l.j → h < hops l.plan.problem (tunnel_of l.plan.problem l.flow j) → IsRoused l.course l.wakes (number_of l.plan.problem (item.Entry (tunnel_of l.plan.problem l.flow j) h)))
