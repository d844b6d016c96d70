-- What the opening of a rollout's journal comes to, and what is left of a disk on which none was opened.
use Rattle.std.specs.Prelude.{◌≡◌, ℕ, ◌*◌, ◌≤◌, true, List, [], length, Option, Some, None, IfSome}
use Rattle.rollout_rules.specs.Wan.{Rollout}
use Rattle.rollout_rules.specs.History.{History, from_nothing}
use Rattle.rollout_rules.specs.declared.op.Entry.{Entry}
use Rattle.disk_model.specs.Traces.{DiskTrace}
use Rattle.disk_model.specs.Crashes.{Within}
use Rattle.disk_model.specs.Moments.{LeavesOnly}
use Rattle.dependency_graph.specs.Graph.{Followed, op_total}
use Rattle.wan_edge.specs.Streams.{KeepsTelling, Rose}
use Rattle.intent_journal.specs.declared.digest.Digest.{Digest}
use Rattle.intent_journal.specs.declared.fault.JournalFault.{JournalFault}
use Rattle.intent_journal.specs.declared.fault.JournalFault.TheVariants as fault
use Rattle.intent_journal.specs.Opened.{HasRoom, IsKept, Opened}
use Rattle.intent_journal.specs.Recovered.{IsCause, KeepsNow, MayStand, OnRefusal, kept_for}
use Rattle.intent_journal.specs.Verdicts.{Fresh, NoJournal, NoStart, NotLegal, OfAnother, Stands, Verdict, verdict}

-- a rollout of which nothing is settled
abbrev pub unbegun : Rollout → Followed
unbegun r = record { rollout = r; history = from_nothing r.problem [] }

-- The history with which a rollout goes on, by what its disk's image is: one that begins where there is no journal yet, and else that of the journal.
-- An image that is refused has none.
abbrev pub found_by : Rollout → Verdict → Option History
found_by r Fresh = Some (from_nothing r.problem [])
found_by r (Stands start entries) = Some (record { start = start; entries = entries })
found_by r (NoJournal first) = None
found_by r (OfAnother bytes migration) = None
found_by r NoStart = None
found_by r (NotLegal place) = None

-- A journal of this rollout was opened on a disk.
pub record IsOpenedOn {D : Type 0} (trace : D → DiskTrace) (r : Rollout) (digest : Digest) (old new : D) : Type 0 where
  -- what the image stood for, each image that a crash leaves now keeps
  pub keeps : IfSome (trace old).bytes (λ image. KeepsNow (kept_for r digest (verdict r digest image)) (trace new).bytes (trace new).may_leave)
  -- meanwhile a crash left what it might have left at entry, or what an opening leaves
  pub meanwhile : IfSome (trace old).bytes (λ image. LeavesOnly trace old new (MayStand r digest image (verdict r digest image) (trace old).may_leave))
  -- a disk that told its bytes tells them still
  pub told : KeepsTelling (trace old).bytes (trace new).bytes
  -- no failure was taken back
  pub count : (trace old).faults ≤ (trace new).faults

-- The journal of this rollout was opened on a disk; a graph was brought to its start and list.
pub record IsOpenedFrom {D : Type 0} (trace : D → DiskTrace) (r : Rollout) (digest : Digest) (old : D) (graph : Followed) (list : List Entry) (new : D) : Type 0 where
  -- the graph is still that of the rollout
  pub rollout : graph.rollout ≡ r
  -- its history has the journal's list
  pub entries : list ≡ graph.history.entries
  -- and is the one that the image stood for
  pub found : IfSome (trace old).bytes (λ image. found_by r (verdict r digest image) ≡ Some graph.history)
  -- on the disk stands what was found
  pub on : IsOpenedOn trace r digest old new

-- A journal with this list takes appends, up to two entries of each operation.
pub record IsOpenFor {D : Type 0} (r : Rollout) (list : List Entry) (journal : Opened D) : Type 0 where
  pub live : journal.live ≡ true
  pub count : journal.entries ≡ length list
  pub most : journal.most ≡ 2 * op_total r

-- The disk is at rest after this list, and there is room for two entries of each operation.
pub record IsMadeReady (r : Rollout) (list : List Entry) (gate end entries capacity : ℕ) (told : Option (List ℕ)) (left : List ℕ → Type 0) : Type 0 where
  pub at_rest : IsKept gate end told left
  pub room : HasRoom gate end (length list) entries capacity
  pub most : entries ≡ 2 * op_total r

-- No journal of this rollout was opened, for this cause, and the disk was left so.
pub record IsLeft {D : Type 0} (trace : D → DiskTrace) (r : Rollout) (digest : Digest) (old : D) (cause : JournalFault) (new : D) : Type 0 where
  -- the cause is what the image was judged to be; a failure of the disk and lack of memory say nothing of it
  pub refusal : IfSome (trace old).bytes (λ image. IsCause cause digest (verdict r digest image))
  -- a journal that is refused was not written on
  pub unwritten : OnRefusal cause (((trace new).bytes ≡ (trace old).bytes) × Within (trace new).may_leave (trace old).may_leave)
  -- meanwhile a crash left what it might have left at entry, or what an opening leaves
  pub meanwhile : IfSome (trace old).bytes (λ image. LeavesOnly trace old new (MayStand r digest image (verdict r digest image) (trace old).may_leave))
  -- a failure of the disk is told where it failed
  pub failed : cause ≡ fault.Disk → Rose (trace old).faults (trace new).faults
  -- a disk that told its bytes tells them still
  pub told : KeepsTelling (trace old).bytes (trace new).bytes
  -- no failure was taken back
  pub count : (trace old).faults ≤ (trace new).faults
