use Rattle.std.proofs.Common.{ℕ, List, sym, ap₂, ◌∙◌}
use Rattle.shared_book.specs.declared.note.Written.{Written}
use Rattle.shared_book.specs.Notes.{calls_by}
use Rattle.turn_lock.specs.Passes.{given_of, seen_of}
use Rattle.shared_book.proofs.Locked.{calls-before}
use Rattle.shared_book.proofs.seats.LockedBook+NotedBook+D+M+ref+Policy.split.Goals as goal

pub returns-clause-calls : goal.returns-clause-calls
returns-clause-calls g c =
    let by : ℕ → List Written → ℕ = λ seat ws. calls_by seat ws in
    let same = c.split-first.ensures.first in
    let new = c.split-first.ensures.second in (
      c.requires.calls ∙ sym (ap₂ by same.seat same.seen),
      sym (ap₂ by new.seat new.seen ∙ calls-before (given_of c.args.pass.pass) (seen_of c.args.pass.pass) c.split-first.ensures.made),
    )
