-- A book as it was opened.
use Rattle.std.specs.Prelude.{◌≡◌, ℕ, true, List, length, Option, None, IfSome}
use Rattle.rollout_rules.specs.History.{with_entries}
use Rattle.rollout_rules.specs.Legal.{is_legal}
use Rattle.rollout_rules.specs.declared.op.OpView.{OpView}
use Rattle.disk_model.specs.Traces.{DiskTrace}
use Rattle.rollout_book.specs.JournaledRounds.{Journaled}
use Rattle.rollout_book.specs.Lists.{IsKeptList}
use Rattle.shared_book.specs.declared.note.Written.{Written}
use Rattle.shared_book.specs.Notes.{first_stop}
use Rattle.shared_book.specs.Histories.{Opening, history_of, all_entries}

-- It is of this opening, lives, and has the list found, which is legal.
pub record IsOpened {D : Type 0} (o : Opening) (b : Journaled D) : Type 0 where
  pub rollout : b.rollout ≡ o.rollout
  pub history : b.history ≡ o.found
  pub entries : b.entries ≡ o.found.entries
  pub count : b.found ≡ length o.found.entries
  pub live : b.live ≡ true
  pub legal : is_legal o.rollout.problem o.rollout.plan o.found ≡ true

-- the opening of a book as it was opened, and its policy's answers
abbrev pub opening_of : {D : Type 0} → Journaled D → (OpView → ℕ) → Opening
opening_of b policy = record { rollout = b.rollout; policy = policy; found = b.history }

-- It was opened at this moment of its disk, with so many failures; where the disk tells its content, a crash leaves the list found.
pub record IsOpenedOn {D : Type 0} (trace : D → DiskTrace) (o : Opening) (from count : ℕ) (b : Journaled D) : Type 0 where
  pub opened : IsOpened o b
  pub moment_is : from ≡ (trace b.disk).moment
  pub count_is : count ≡ (trace b.disk).faults
  pub has : IfSome (trace b.disk).bytes (IsKeptList o.found.start o.found.entries (trace b.disk).may_leave)

-- A book as it is after a shared history: of the opening, with all segments in its list. Before the first stop it lives.
pub record IsClosed {D : Type 0} (o : Opening) (log : List Written) (b : Journaled D) : Type 0 where
  pub rollout : b.rollout ≡ o.rollout
  pub history : b.history ≡ with_entries o.found (all_entries log)
  pub entries : b.entries ≡ (history_of o log).entries
  pub count : b.found ≡ length o.found.entries
  pub live : first_stop log ≡ None → b.live ≡ true
