use Rattle.std.proofs.Common.{◌≡◌, false, get_or}
use Rattle.switch_ports.specs.Homes.{passing_below}
use Rattle.switch_ports.proofs.homes.marked_numbers.Given as goal

abbrev pub invariant-loop-number : goal.invariant-loop-number
invariant-loop-number l = l.numbers ≡ passing_below l.number (λ n. get_or l.marks n false)
