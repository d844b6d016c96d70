-- What opening a journal comes to, and what a crash leaves meanwhile.
use Rattle.std.specs.Prelude.{◌≡◌, ◌⊎◌, ⊤, ℕ, List, [], length, Option, Some, None, IfSome}
use Rattle.rollout_rules.specs.declared.op.Entry.{Entry}
use Rattle.rollout_rules.specs.Wan.{Rollout}
use Rattle.rollout_rules.specs.History.{no_start}
use Rattle.disk_model.specs.Crashes.{Only}
use Rattle.dependency_graph.specs.Graph.{Followed}
use Rattle.intent_journal.specs.declared.digest.Digest.{Digest}
use Rattle.intent_journal.specs.declared.fault.JournalFault.{JournalFault}
use Rattle.intent_journal.specs.declared.fault.JournalFault.TheVariants.{BadStart, Disk, Illegal, Memory, NotJournal, OtherPlan}
use Rattle.intent_journal.specs.Images.{journal_in}
use Rattle.intent_journal.specs.Opened.{HasRoom, IsKept}
use Rattle.intent_journal.specs.Parts.{Kept}
use Rattle.intent_journal.specs.Phases.{IsBlankOrMade, IsFresh, IsOldOrNew, kept_of}
use Rattle.intent_journal.specs.Verdicts.{Fresh, IsRefusal, NoJournal, NoStart, NotLegal, OfAnother, Stands, Verdict, with_history}

-- the list is the one of this verdict, and the graph was brought to its start and to it
abbrev pub IsBroughtTo : Verdict → List Entry → Followed → Followed → Type 0
IsBroughtTo Fresh list old new = (list ≡ []) × (new ≡ old)
IsBroughtTo (Stands start entries) list old new = (list ≡ entries) × (new ≡ with_history old start entries)
IsBroughtTo (NoJournal first) list old new = ⊥
IsBroughtTo (OfAnother bytes migration) list old new = ⊥
IsBroughtTo NoStart list old new = ⊥
IsBroughtTo (NotLegal place) list old new = ⊥

-- the fault is that of this verdict; a failure of the disk and lack of memory say nothing of the image
abbrev pub IsCause : JournalFault → Digest → Verdict → Type 0
IsCause Disk digest v = ⊤
IsCause Memory digest v = ⊤
IsCause (NotJournal first) digest v = IsRefusal (NotJournal first) digest v
IsCause (OtherPlan kept wanted) digest v = IsRefusal (OtherPlan kept wanted) digest v
IsCause BadStart digest v = IsRefusal BadStart digest v
IsCause (Illegal place) digest v = IsRefusal (Illegal place) digest v

-- what the journal keeps that is opened by this verdict
abbrev pub kept_for : Rollout → Digest → Verdict → Option Kept
kept_for r digest Fresh = Some (kept_of digest (no_start r.problem) [])
kept_for r digest (Stands start entries) = Some (kept_of digest start entries)
kept_for r digest (NoJournal first) = None
kept_for r digest (OfAnother bytes migration) = None
kept_for r digest NoStart = None
kept_for r digest (NotLegal place) = None

-- An image that the writes after this verdict leave: where the image found was blank, a blank one or the new journal, and else one
-- that keeps what it kept or what the new part does.
abbrev pub MayBeLeft : Rollout → Digest → List ℕ → Verdict → List ℕ → Type 0
MayBeLeft r digest image Fresh c = IsBlankOrMade (kept_of digest (no_start r.problem) []) image c
MayBeLeft r digest image (Stands start entries) c = IsOldOrNew (journal_in image) (kept_of digest start entries) c
MayBeLeft r digest image (NoJournal first) c = ⊥
MayBeLeft r digest image (OfAnother bytes migration) c = ⊥
MayBeLeft r digest image NoStart c = ⊥
MayBeLeft r digest image (NotLegal place) c = ⊥

-- an image that a crash might have left at entry, or that the writes leave
abbrev pub MayStand : Rollout → Digest → List ℕ → Verdict → (List ℕ → Type 0) → List ℕ → Type 0
MayStand r digest image v left c = left c ⊎ MayBeLeft r digest image v c

-- The journal is open and at rest, and each image that a crash leaves keeps this in the count of its one open part.
pub record KeepsNow (kept : Option Kept) (told : Option (List ℕ)) (left : List ℕ → Type 0) : Type 0 where
  pub now : List ℕ
  pub what : Kept
  pub is_told : told ≡ Some now
  pub durable : Only now left
  pub is_kept : kept ≡ Some what
  pub fresh : IsFresh what now

-- a fault that comes before the first write
abbrev pub OnRefusal : JournalFault → Type 0 → Type 0
OnRefusal (NotJournal first) holds = holds
OnRefusal (OtherPlan kept wanted) holds = holds
OnRefusal BadStart holds = holds
OnRefusal (Illegal place) holds = holds
OnRefusal Disk holds = ⊤
OnRefusal Memory holds = ⊤

-- Ready for appends: the graph was brought to the list, the journal is at rest, and there is room for all that may come.
pub record IsReady (v : Verdict) (kept : Option Kept) (list : List Entry) (gate end most capacity : ℕ) (old new : Followed) (told : Option (List ℕ)) (left : List ℕ → Type 0) : Type 0 where
  pub brought : IsBroughtTo v list old new
  pub at_rest : IsKept gate end told left
  pub room : HasRoom gate end (length list) most capacity
  pub keeps : IfSome told (λ _. KeepsNow kept told left)
