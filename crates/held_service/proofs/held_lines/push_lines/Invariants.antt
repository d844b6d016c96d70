use Rattle.std.proofs.Common.{◌≡◌, ◌++◌}
use Rattle.held_service.specs.HeldText.{lines_below}
use Rattle.held_service.proofs.held_lines.push_lines.Given as goal

abbrev pub invariant-loop-number : goal.invariant-loop-number
invariant-loop-number l = l.text ≡ l.fn.text ++ lines_below l.plan.problem l.plan.plan l.notes l.number
