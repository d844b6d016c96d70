use Rattle.std.proofs.Common.{ℕ, ◌<◌}
use Rattle.rollout_rules.specs.Items.{number_of}
use Rattle.rollout_rules.specs.declared.item.Item.TheVariants as item
use Rattle.dependency_graph.specs.Wakes.{Rouses}
use Rattle.dependency_graph.specs.Waiting.{IsRoused}
use Rattle.dependency_graph.proofs.rousing.rouse_entries.Given as goal

abbrev pub invariant-loop-hop : goal.invariant-loop-hop
invariant-loop-hop l = Rouses l.initial.wakes l.wakes × ((h : ℕ) → h < l.hop → IsRoused l.course l.wakes (number_of l.plan.problem (item.Entry l.tunnel h)))
