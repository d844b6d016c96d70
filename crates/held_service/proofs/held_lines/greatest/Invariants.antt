use Rattle.std.proofs.Common.{◌≡◌}
use Rattle.held_service.specs.HeldText.{greatest_of}
use Rattle.held_service.proofs.held_lines.greatest.Given as goal

abbrev pub invariant-loop-item : goal.invariant-loop-item
invariant-loop-item l = l.most ≡ greatest_of l.notes l.item
