use Rattle.std.proofs.Common.{◌≡◌, ◌≤◌, slice_index}
use Rattle.rollout_rules.specs.Sums.{count_below}
use Rattle.fewest_plan.specs.Marked.{is_marked}
use Rattle.fewest_plan.proofs.marked.marked_in.Given as goal

abbrev pub invariant-loop-link : goal.invariant-loop-link
invariant-loop-link l = record {
  value : l.sum ≡ count_below l.link-index (λ h. is_marked l.marks (slice_index l.row h));
  most : l.sum ≤ l.link-index;
}
