use Rattle.std.proofs.Common.{◌≡◌, ◌≤◌, take}
use Rattle.rollout_rules.specs.History.{dones_in}
use Rattle.dependency_graph.proofs.progress.ahead.dones.Given as goal

abbrev pub invariant-loop-entry : goal.invariant-loop-entry
invariant-loop-entry l = record {
  value : l.count ≡ dones_in (take l.entry-index l.entries) l.item;
  few : l.count ≤ l.entry-index;
}
