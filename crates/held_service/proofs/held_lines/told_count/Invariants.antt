use Rattle.std.proofs.Common.{◌≡◌, ◌≤◌}
use Rattle.std.specs.Prelude.{is_some}
use Rattle.rollout_rules.specs.Sums.{count_below}
use Rattle.held_service.specs.Noting.{noted_at}
use Rattle.held_service.proofs.held_lines.told_count.Given as goal

abbrev pub invariant-loop-item : goal.invariant-loop-item
invariant-loop-item l =
    (l.count ≡ count_below l.item (λ n. is_some (noted_at l.notes n))) × (l.count ≤ l.item)
