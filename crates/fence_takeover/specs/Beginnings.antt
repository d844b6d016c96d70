-- What the beginning of a takeover leaves on a fleet and on a disk.
use Rattle.std.specs.Prelude.{◌≡◌, ◌⊎◌, ℕ, Bool, true, List, [], Result, Ok, Err}
use Rattle.rollout_rules.specs.History.{places_of, started}
use Rattle.rollout_rules.specs.Legal.{is_sound}
use Rattle.rollout_rules.specs.Wan.{Rollout}
use Rattle.wan_edge.specs.Ports.{PortTrace}
use Rattle.wan_edge.specs.Streams.{Rose}
use Rattle.disk_mirror.specs.Openings.{IsTold, Opens, OpensWithin}
use Rattle.disk_model.specs.Traces.{DiskTrace}
use Rattle.dependency_graph.specs.FirstFault.{IsFirstFault, TellsSound}
use Rattle.dependency_graph.specs.declared.start_fault.StartFault.{StartFault}
use Rattle.intent_journal.specs.declared.fault.JournalFault.{JournalFault}
use Rattle.intent_journal.specs.declared.fault.JournalFault.TheVariants as fault
use Rattle.intent_journal.specs.Parts.{Kept}
use Rattle.intent_journal.specs.Phases.{kept_of}
use Rattle.switch_ports.specs.Berths.{FleetPorts}
use Rattle.rollout_report.specs.Journals.{digest_for}
use Rattle.rollback_service.specs.Placings.{HasPlaced, IsNotPlaced, MayPlace}
use Rattle.fence_takeover.specs.Fences.{Fences, IsFencedOff}
use Rattle.fence_takeover.specs.declared.end.FenceEnd.{FenceEnd}
use Rattle.fence_takeover.specs.declared.begun.NotBegun.{NotBegun}
use Rattle.fence_takeover.specs.declared.begun.NotBegun.TheVariants as why

-- What the journal of a rollout from a start keeps: it knows the rollout as this migration, begins there, and its list is empty.
abbrev pub taken_kept : Rollout → ℕ → List ℕ → Kept
taken_kept r migration start = kept_of (digest_for r migration) start []

-- a start at which a rollout may begin
abbrev pub MayBegin : Rollout → List ℕ → Type 0
MayBegin r start = is_sound r.problem r.plan start ≡ true

-- ---- the disk

-- The journal was placed, and the rollout and its start are given.
pub record Places {D : Type 0} (trace : D → DiskTrace) (r : Rollout) (migration : ℕ) (start : List ℕ) (taken : Rollout × List ℕ) (old new : D) : Type 0 where
  pub same : taken.0 ≡ r
  pub own : taken.1 ≡ start
  pub may : MayPlace trace (taken_kept r migration start) old new
  pub placed : HasPlaced trace (taken_kept r migration start) new

-- It wasn't placed.
pub record PlacesNone {D : Type 0} (trace : D → DiskTrace) (r : Rollout) (migration : ℕ) (start : List ℕ) (cause : JournalFault) (old new : D) : Type 0 where
  pub may : MayPlace trace (taken_kept r migration start) old new
  pub cause_is : IsNotPlaced trace cause old new

abbrev pub PlacesAt : {D : Type 0} → Result (Rollout × List ℕ) NotBegun → (D → DiskTrace) → Rollout → ℕ → List ℕ → D → D → Type 0
PlacesAt (Ok taken) trace r migration start old new = Places trace r migration start taken old new
PlacesAt (Err (why.Fence there end)) trace r migration start old new = ⊥
PlacesAt (Err (why.Start there fault)) trace r migration start old new = ⊥
PlacesAt (Err (why.Journal cause)) trace r migration start old new = PlacesNone trace r migration start cause old new

-- ---- the disk from its opening on

-- It couldn't be opened, which it counted.
pub record IsUnopened {D : Type 0} (trace : D → DiskTrace) (cause : JournalFault) (old new : D) : Type 0 where
  pub cause_is : cause ≡ fault.Disk
  pub opens : Opens (trace old) (trace new)
  pub failed : Rose (trace old).faults (trace new).faults

-- It was opened, tells its bytes since, no more than there is room for, and this came of placing.
pub record OpensAndPlaces {D : Type 0} (answer : Result (Rollout × List ℕ) NotBegun) (trace : D → DiskTrace) (r : Rollout) (migration : ℕ) (start : List ℕ) (room : ℕ) (old new : D) : Type 0 where
  pub opened : D
  pub opens : Opens (trace old) (trace opened)
  pub told : IsTold (trace opened).bytes
  pub within : OpensWithin room (trace old) (trace opened)
  pub places : PlacesAt answer trace r migration start opened new

abbrev pub OpensAt : {D : Type 0} → Result (Rollout × List ℕ) NotBegun → (D → DiskTrace) → Rollout → ℕ → List ℕ → ℕ → D → D → Type 0
OpensAt (Ok taken) trace r migration start room old new = OpensAndPlaces (Ok taken) trace r migration start room old new
OpensAt (Err (why.Fence there end)) trace r migration start room old new = ⊥
OpensAt (Err (why.Start there fault)) trace r migration start room old new = ⊥
OpensAt (Err (why.Journal cause)) trace r migration start room old new = IsUnopened trace cause old new ⊎ OpensAndPlaces (Err (why.Journal cause)) trace r migration start room old new

-- ---- from a start on

-- The start is none at which one may begin, where memory didn't run out, and this is what it breaks first. The disk is as it was.
pub record IsRefused {D : Type 0} (r : Rollout) (start : List ℕ) (there : Rollout) (fault : StartFault) (old new : D) : Type 0 where
  pub same : there ≡ r
  pub unsound : TellsSound {A = ℕ} (Err fault) (is_sound r.problem r.plan start)
  pub first : IsFirstFault r.problem r.plan (places_of r.problem (started start)) fault
  pub as_it_was : new ≡ old

-- One may begin there, and this came of the disk.
pub record IsTried {D : Type 0} (answer : Result (Rollout × List ℕ) NotBegun) (trace : D → DiskTrace) (r : Rollout) (migration : ℕ) (start : List ℕ) (room : ℕ) (old new : D) : Type 0 where
  pub sound : MayBegin r start
  pub tries : OpensAt answer trace r migration start room old new

abbrev pub BeginsAt : {D : Type 0} → Result (Rollout × List ℕ) NotBegun → (D → DiskTrace) → Rollout → ℕ → List ℕ → ℕ → D → D → Type 0
BeginsAt (Ok taken) trace r migration start room old new = IsTried (Ok taken) trace r migration start room old new
BeginsAt (Err (why.Fence there end)) trace r migration start room old new = ⊥
BeginsAt (Err (why.Start there fault)) trace r migration start room old new = IsRefused r start there fault old new
BeginsAt (Err (why.Journal cause)) trace r migration start room old new = IsTried (Err (why.Journal cause)) trace r migration start room old new

-- ---- all of it

-- The switches told what they hold, and this came of the start that follows.
pub record HasBegun {P D : Type 0} (answer : Result (Rollout × List ℕ) NotBegun) (tell : P → PortTrace) (trace : D → DiskTrace) (r : Rollout) (migration limit room : ℕ) (before now : FleetPorts P) (old new : D) : Type 0 where
  pub start : List ℕ
  pub fenced : IsFencedOff tell r.problem r.plan migration limit before now start
  pub begins : BeginsAt answer trace r migration start room old new

-- They didn't, and the disk is as it was.
pub record HasNotBegun {P D : Type 0} (there : Rollout) (end : FenceEnd) (tell : P → PortTrace) (r : Rollout) (migration limit : ℕ) (before now : FleetPorts P) (old new : D) : Type 0 where
  pub same : there ≡ r
  pub fences : Fences {P = P} (Err end) tell r.problem r.plan migration limit before now
  pub as_it_was : new ≡ old

abbrev pub Begins : {P D : Type 0} → Result (Rollout × List ℕ) NotBegun → (P → PortTrace) → (D → DiskTrace) → Rollout → ℕ → ℕ → ℕ → FleetPorts P → FleetPorts P → D → D → Type 0
Begins (Ok taken) tell trace r migration limit room before now old new = HasBegun (Ok taken) tell trace r migration limit room before now old new
Begins (Err (why.Fence there end)) tell trace r migration limit room before now old new = HasNotBegun there end tell r migration limit before now old new
Begins (Err (why.Start there fault)) tell trace r migration limit room before now old new = HasBegun (Err (why.Start there fault)) tell trace r migration limit room before now old new
Begins (Err (why.Journal cause)) tell trace r migration limit room before now old new = HasBegun (Err (why.Journal cause)) tell trace r migration limit room before now old new

-- what came of placing, said of a takeover's start
abbrev pub AnswerOf : Result Rollout JournalFault → List ℕ → Result (Rollout × List ℕ) NotBegun → Type 0
AnswerOf (Ok r) start answer = answer ≡ Ok (r, start)
AnswerOf (Err cause) start answer = answer ≡ Err (why.Journal cause)
