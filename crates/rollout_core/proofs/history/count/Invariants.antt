use Rattle.std.proofs.Common.{◌≡◌, take}
use Rattle.rollout_rules.specs.History.{History, with_entries}
use Rattle.dependency_graph.specs.Progress.{AreCountsOf}
use Rattle.rollout_core.proofs.history.count.Given as goal

abbrev pub invariant-loop-entry : goal.invariant-loop-entry
invariant-loop-entry l = record {
  rollout : l.progress.rollout ≡ l.fn.progress.rollout;
  counts : (h : History) → AreCountsOf l.fn.progress h → AreCountsOf l.progress (with_entries h (take l.entry-index l.batch));
}
