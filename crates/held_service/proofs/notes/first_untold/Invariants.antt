use Rattle.std.proofs.Common.{◌≡◌, drop}
use Rattle.held_service.specs.Noting.{untold}
use Rattle.held_service.proofs.notes.first_untold.Given as goal

-- what isn't told stands from here on
abbrev pub invariant-loop-item : goal.invariant-loop-item
invariant-loop-item l = untold l.notes (drop l.item-index l.items) ≡ untold l.notes l.items
