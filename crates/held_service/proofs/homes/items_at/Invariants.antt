use Rattle.std.proofs.Common.{◌≡◌}
use Rattle.switch_ports.specs.Homes.{passing_below}
use Rattle.held_service.specs.Questions.{is_asked}
use Rattle.held_service.proofs.homes.items_at.Given as goal

abbrev pub invariant-loop-item : goal.invariant-loop-item
invariant-loop-item l = l.items ≡ passing_below l.item (is_asked l.homes l.switch)
