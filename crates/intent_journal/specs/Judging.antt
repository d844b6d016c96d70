-- What was judged of a part and of an image, where it is the journal of a rollout.
use Rattle.std.specs.Prelude.{◌≡◌, ◌⊎◌, ⊤, ℕ, true, List, [], take, drop, Option, Some, None}
use Rattle.rollout_rules.specs.declared.op.Entry.{Entry}
use Rattle.rollout_rules.specs.Wan.{Problem}
use Rattle.rollout_rules.specs.History.{no_start}
use Rattle.dependency_graph.specs.Graph.{Followed}
use Rattle.intent_journal.specs.declared.digest.Digest.{Digest}
use Rattle.intent_journal.specs.declared.fault.JournalFault.{JournalFault}
use Rattle.intent_journal.specs.declared.fault.JournalFault.TheVariants.{BadStart, Disk, Illegal, Memory, NotJournal, OtherPlan}
use Rattle.intent_journal.specs.declared.found.Found.{Found}
use Rattle.intent_journal.specs.Parts.{Slot, part_rows}
use Rattle.intent_journal.specs.Images.{slot_at}
use Rattle.intent_journal.specs.Phases.{IsFound}
use Rattle.intent_journal.specs.Reading.{IsRead, live_side, nothing_read, with_rows}
use Rattle.intent_journal.specs.Verdicts.{Stands, judged_journal, judged_part, start_of, with_history}

-- The part is the rollout's, with this start and list; after the list stands this gate, and the graph was brought there.
pub record IsJudgedPart (slot : Slot) (part : List ℕ) (digest : Digest) (start : List ℕ) (list : List Entry) (gate : ℕ) (old new : Followed) : Type 0 where
  pub stands : judged_part old.rollout digest slot part ≡ Stands start list
  pub read : IsRead slot part (record { entries = list; whole = true }) gate
  pub graph : new ≡ with_history old start list

-- The image is the journal of the rollout, with this start and list; this was found of it, and the graph was brought there.
pub record IsJudged (image : List ℕ) (digest : Digest) (place : Found) (start : List ℕ) (list : List Entry) (old new : Followed) : Type 0 where
  pub stands : judged_journal old.rollout digest image ≡ Stands start list
  pub found : IsFound place image
  pub graph : new ≡ with_history old start list

-- a fault that comes before the graph is brought along the list
abbrev pub BeforeList : JournalFault → Type 0 → Type 0
BeforeList (NotJournal first) holds = holds
BeforeList (OtherPlan kept wanted) holds = holds
BeforeList BadStart holds = holds
BeforeList (Illegal place) holds = ⊤
BeforeList Disk holds = ⊤
BeforeList Memory holds = ⊤

-- a fault of the list, or lack of memory
abbrev pub IsOfList : JournalFault → Type 0
IsOfList (Illegal place) = ⊤
IsOfList Memory = ⊤
IsOfList (NotJournal first) = ⊥
IsOfList (OtherPlan kept wanted) = ⊥
IsOfList BadStart = ⊥
IsOfList Disk = ⊥

-- the start that a part has, and its entries up to the first row that is none
abbrev pub part_start : Problem → Slot → List ℕ → List ℕ
part_start p slot part = start_of p slot part

abbrev pub part_entries : Slot → List ℕ → List Entry
part_entries slot part = (with_rows nothing_read (part_rows slot part)).entries

-- the same of the live part of an image
abbrev pub start_at : Problem → List ℕ → Option ℕ → List ℕ
start_at p image None = no_start p
start_at p image (Some side) = part_start p (slot_at side image) (drop (slot_at side image).start image)

abbrev pub entries_at : List ℕ → Option ℕ → List Entry
entries_at image None = []
entries_at image (Some side) = part_entries (slot_at side image) (drop (slot_at side image).start image)

-- a graph is as it was, or was brought to a start and along some of these entries, from the first on
abbrev pub IsAlong : List ℕ → List Entry → Followed → Followed → Type 0
IsAlong start entries old new = (new ≡ old) ⊎ ((n : ℕ) × (new ≡ with_history old start (take n entries)))

-- What a refusal leaves of a graph, by the start and the entries that were read. An entry that isn't legal leaves it after those ahead of that entry;
-- what is refused before the list leaves it as it was; a failure of the disk and lack of memory leave it on the way.
abbrev pub LeavesGraph : List ℕ → List Entry → JournalFault → Followed → Followed → Type 0
LeavesGraph start entries (NotJournal first) old new = new ≡ old
LeavesGraph start entries (OtherPlan kept wanted) old new = new ≡ old
LeavesGraph start entries BadStart old new = new ≡ old
LeavesGraph start entries (Illegal place) old new = new ≡ with_history old start (take place entries)
LeavesGraph start entries Disk old new = IsAlong start entries old new
LeavesGraph start entries Memory old new = IsAlong start entries old new

-- the same by the image
abbrev pub LeavesGraphOf : List ℕ → JournalFault → Followed → Followed → Type 0
LeavesGraphOf image fault old new = LeavesGraph (start_at old.rollout.problem image (live_side image)) (entries_at image (live_side image)) fault old new
