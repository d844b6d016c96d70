-- A shared history: what was found at first, the notes made since, and the entries that came with them. It stands for a pair,
-- the list of all entries and the list of the notes.
use Rattle.std.specs.Prelude.{ℕ, ◌+◌, List, [], ◌∷◌, ◌++◌, take, drop}
use Rattle.rollout_rules.specs.Wan.{Rollout}
use Rattle.rollout_rules.specs.History.{History, with_entries}
use Rattle.rollout_rules.specs.declared.op.OpView.{OpView}
use Rattle.rollout_rules.specs.declared.op.Entry.{Entry}
use Rattle.shared_book.specs.declared.note.What.{What}
use Rattle.shared_book.specs.declared.note.What.TheVariants as what
use Rattle.shared_book.specs.declared.note.Note.{Note}
use Rattle.shared_book.specs.declared.note.Written.{Written}

-- What all workers begin with: the rollout, the policy by which rounds release, and the start with the list found.
pub record Opening : Type 0 where
  pub rollout : Rollout
  pub policy : OpView → ℕ
  pub found : History

-- the segment that a note adds to the list: the entries of a Turned
abbrev pub segment_of : What → List Entry → List Entry
segment_of (what.Turned dones begins) es = es
segment_of (what.Alien item held begun) es = []
segment_of what.Disk es = []
segment_of what.Listed es = []
segment_of what.Work es = []
segment_of what.Finished es = []
segment_of what.Held es = []
segment_of what.Stopped es = []
segment_of (what.Stop why) es = []

-- all segments in a row
abbrev pub added : List Written → List Entry
added [] = []
added (w ∷ ws) = segment_of w.note.what w.entries ++ added ws

-- the history of the rollout after the notes: what was found, and then all segments
abbrev pub history_of : Opening → List Written → History
history_of o ws = with_entries o.found (added ws)

-- The pair for which the notes stand.
pub record NotedEntries : Type 0 where
  pub entries : List Entry
  pub notes : List Note

-- The entries that come with a note are the next so many for a Turned, and all that are left for a Disk: so the notes and
-- all their entries in a row tell which entries came with which note.
abbrev pub own_of : What → List Entry → List Entry
own_of (what.Turned dones begins) es = take (dones + begins) es
own_of (what.Alien item held begun) es = []
own_of what.Disk es = es
own_of what.Listed es = []
own_of what.Work es = []
own_of what.Finished es = []
own_of what.Held es = []
own_of what.Stopped es = []
own_of (what.Stop why) es = []

abbrev pub left_by : What → List Entry → List Entry
left_by (what.Turned dones begins) es = drop (dones + begins) es
left_by (what.Alien item held begun) es = es
left_by what.Disk es = []
left_by what.Listed es = es
left_by what.Work es = es
left_by what.Finished es = es
left_by what.Held es = es
left_by what.Stopped es = es
left_by (what.Stop why) es = es

abbrev pub written : List Entry → List Note → List Written
written es [] = []
written es (note ∷ notes) = record { note = note; entries = own_of note.what es } ∷ written (left_by note.what es) notes

-- all entries that came with notes, that of a Disk too
abbrev pub all_entries : List Written → List Entry
all_entries [] = []
all_entries (w ∷ ws) = w.entries ++ all_entries ws
