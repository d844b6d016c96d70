-- What the disk under a shared book may be left with by a crash.
use Rattle.std.specs.Prelude.{◌≡◌, ◌⊎◌, ℕ, ◌≤◌, true, List, [], ◌∷◌, ◌++◌, Option, None, IfSome}
use Rattle.rollout_rules.specs.History.{with_entries}
use Rattle.rollout_rules.specs.Legal.{is_legal}
use Rattle.rollout_rules.specs.declared.op.Entry.{Entry}
use Rattle.disk_model.specs.Traces.{DiskTrace}
use Rattle.wan_edge.specs.Streams.{Rose}
use Rattle.intent_journal.specs.Parts.{Kept}
use Rattle.intent_journal.specs.Phases.{kept_by}
use Rattle.rollout_book.specs.Lists.{HasList, HasBeforeOrAfter, HasOwner}
use Rattle.shared_book.specs.declared.note.What.{What}
use Rattle.shared_book.specs.declared.note.What.TheVariants as what
use Rattle.shared_book.specs.declared.note.Written.{Written}
use Rattle.shared_book.specs.Histories.{Opening, added, history_of}

-- The entries of which the append failed: those of a Disk.
abbrev pub lost_by : What → List Entry → List Entry
lost_by (what.Turned dones begins) es = []
lost_by (what.Alien item held begun) es = []
lost_by what.Disk es = es
lost_by what.Listed es = []
lost_by what.Work es = []
lost_by what.Finished es = []
lost_by what.Held es = []
lost_by what.Stopped es = []
lost_by (what.Stop why) es = []

abbrev pub lost : List Written → List Entry
lost [] = []
lost (w ∷ ws) = lost_by w.note.what w.entries ++ lost ws

-- whether a note says that the disk failed
abbrev pub IsDisk : What → Type 0
IsDisk (what.Turned dones begins) = ⊥
IsDisk (what.Alien item held begun) = ⊥
IsDisk what.Disk = Unit {0}
IsDisk what.Listed = ⊥
IsDisk what.Work = ⊥
IsDisk what.Finished = ⊥
IsDisk what.Held = ⊥
IsDisk what.Stopped = ⊥
IsDisk (what.Stop why) = ⊥

abbrev pub HasDisk : List Written → Type 0
HasDisk [] = ⊥
HasDisk (w ∷ ws) = IsDisk w.note.what ⊎ HasDisk ws

-- The image has the list after these notes; where the disk failed, maybe with the whole of the batch that was lost.
abbrev pub HasListBehind : Opening → List Written → List ℕ → Type 0
HasListBehind o ws image = HasBeforeOrAfter o.found.start (history_of o ws).entries (lost ws) image

-- The image has a legal list that begins with the one found: the list after a beginning of the notes.
pub record HasLegalList (o : Opening) (log : List Written) (image : List ℕ) : Type 0 where
  pub seen : List Written
  pub later : List Written
  pub is : log ≡ seen ++ later
  pub past : List Entry
  pub legal : is_legal o.rollout.problem o.rollout.plan (with_entries o.found past) ≡ true
  pub has : HasList o.found.start (o.found.entries ++ past) image
  pub behind : (past ≡ added seen) ⊎ (past ≡ added seen ++ lost seen)

-- What is known of the disk after a shared history, which began at a moment with so many failures. Of a disk that tells its
-- content: every image that a crash may have left since that moment has a legal list that begins with the one found; and each
-- that a crash now may leave has the list after all notes. Of every disk: it has failed since then where a note says so.
pub record HasImages {D : Type 0} (trace : D → DiskTrace) (o : Opening) (from count : ℕ) (disk : D) (log : List Written) : Type 0 where
  pub more : count ≤ (trace disk).faults
  pub later : IfSome (trace disk).bytes (λ _. from ≤ (trace disk).moment)
  pub since : IfSome (trace disk).bytes (λ _. (image : List ℕ) → (trace disk).left_since from image → HasLegalList o log image)
  pub now : IfSome (trace disk).bytes (λ _. (image : List ℕ) → (trace disk).may_leave image → HasListBehind o log image)
  pub failed : HasDisk log → Rose count (trace disk).faults

-- ---- from before the opening on

-- The image has a legal list that begins with the one found.
pub record HasGoneOn (o : Opening) (image : List ℕ) : Type 0 where
  pub past : List Entry
  pub legal : is_legal o.rollout.problem o.rollout.plan (with_entries o.found past) ≡ true
  pub has : HasList o.found.start (o.found.entries ++ past) image

-- So it is, and its journal is of the same digest and migration as this.
pub record GoesOnFrom (o : Opening) (kept : Kept) (image : List ℕ) : Type 0 where
  pub owner : HasOwner kept image
  pub list : HasGoneOn o image

-- What is known of a disk since it stood so, after an opening that kept this: the image that is told has the same owner; and what a crash may have
-- left since any moment up to then is what it might have left by then, or an image that goes on from there.
pub record Stays {D : Type 0} (trace : D → DiskTrace) (o : Opening) (stood : DiskTrace) (kept : Kept) (disk : D) (image : List ℕ) : Type 0 where
  pub later : stood.moment ≤ (trace disk).moment
  pub owner : HasOwner kept image
  pub each : (t : ℕ) (c : List ℕ) → t ≤ stood.moment → (trace disk).left_since t c → stood.left_since t c ⊎ GoesOnFrom o kept c

abbrev pub StaysOpened : {D : Type 0} → (D → DiskTrace) → Opening → DiskTrace → D → Type 0
StaysOpened trace o stood disk = IfSome (kept_by stood.bytes) (λ kept. IfSome (trace disk).bytes (Stays trace o stood kept disk))

-- a disk stands as one has stood
pub record StandsSo (stood now : DiskTrace) : Type 0 where
  pub bytes : now.bytes ≡ stood.bytes
  pub moment : now.moment ≡ stood.moment
  pub past : (t : ℕ) (c : List ℕ) → now.left_since t c → stood.left_since t c

-- a disk that tells nothing
abbrev pub nothing_stood : DiskTrace
nothing_stood = record { bytes = None; may_leave = λ c. ⊥; moment = 0; left_since = λ t c. ⊥; faults = 0 }
