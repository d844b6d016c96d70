use Rattle.std.proofs.Common.{◌≡◌, ◌&&◌, ◌==◌, drop}
use Rattle.std.specs.List.{list_any}
use Rattle.shared_book.specs.Notes.{asks_to_stop}
use Rattle.shared_book.proofs.stopping.has_asked.Given as goal

-- whether one of those that are left asks is whether one of all does
abbrev pub invariant-loop-note : goal.invariant-loop-note
invariant-loop-note l = list_any (λ n. (n.seat == l.seat) && asks_to_stop n.what) (drop l.note-index l.notes) ≡ list_any (λ n. (n.seat == l.seat) && asks_to_stop n.what) l.notes
