use Rattle.std.proofs.Common.{◌≡◌, take}
use Rattle.held_service.specs.Noting.{untold}
use Rattle.held_service.proofs.notes.list_untold.Given as goal

abbrev pub invariant-loop-item : goal.invariant-loop-item
invariant-loop-item l = l.left ≡ untold l.notes (take l.item-index l.items)
