-- What `retarget` does of a rollout with an aim, from the disk on: each step, and how it ends.
use Rattle.std.specs.Prelude.{◌≡◌, ◌⊎◌, ◌+◌, ℕ, List, [], ◌∷◌, ◌++◌, Result, Ok, Err, IfErr, IfOk, IfSome}
use Rattle.rollout_rules.specs.Wan.{Problem, Rollout}
use Rattle.rollout_rules.specs.Network.{IsNetwork}
use Rattle.disk_model.specs.Whole.{IsQuiet}
use Rattle.disk_model.specs.Traces.{DiskTrace}
use Rattle.disk_mirror.specs.Openings.{IsTold, Opens, OpensWithin}
use Rattle.intent_journal.specs.Openings.{unbegun}
use Rattle.intent_journal.specs.Parts.{Kept}
use Rattle.intent_journal.specs.Placements.{placed_kept}
use Rattle.intent_journal.specs.Whole.{Causes}
use Rattle.intent_journal.specs.declared.fault.JournalFault.{JournalFault}
use Rattle.fewest_plan.specs.declared.cause.NotFound.{NotFound}
use Rattle.plan_choose.specs.declared.chosen.Chosen.{Chosen}
use Rattle.problem_json.specs.Writing.{document_text}
use Rattle.retarget_service.specs.Aimed.{MakesBy}
use Rattle.retarget_service.specs.declared.unwritten.Unwritten.{Unwritten}
use Rattle.rollback_service.specs.Placings.{HasPlaced, IsNotPlaced, MayPlace}
use Rattle.rollout_report.specs.Journals.{digest_for}
use Rattle.rollout_report.specs.declared.known.KnownPlan.{KnownPlan}
use Rattle.wan_edge.specs.Streams.{Appends, AppendsPart, Rose, SinkTrace}
use Rattle.text_commands.specs.Answers.{IsChosenBy}
use Rattle.text_commands.specs.CommandEnds.{ending_of_journal, ending_without}
use Rattle.text_commands.specs.Safety.{IsValid}
use Rattle.text_commands.specs.declared.command_end.CommandEnd.{CommandEnd}
use Rattle.text_commands.specs.declared.command_end.CommandEnd.TheVariants.{DiskFault, Done, OutOfMemory, WriteFault}
use Rattle.text_commands.specs.declared.words.Planner.{Planner}
use Rattle.retarget_top.specs.Endings.{ending_of_unwritten}
use Rattle.retarget_service.specs.JournalRoom.{journal_room}
use Rattle.retarget_top.specs.declared.ending.RetargetEnding.{RetargetEnding}
use Rattle.retarget_top.specs.declared.ending.RetargetEnding.TheVariants.{Ended}
use Rattle.retarget_top.specs.declared.ending.Wanted.{Wanted}

-- the document of a rollout, and a line feed
abbrev pub next_text : Rollout → List ℕ
next_text r = document_text r.problem r.plan ++ 10 ∷ []

-- what the journal keeps that is placed: it knows the rollout as the next migration, nothing is settled, and its list is empty
abbrev pub kept_next : Rollout → ℕ → Kept
kept_next r migration = placed_kept (digest_for r (migration + 1)) (unbegun r)

-- what is placed of a rollout that is known as this
abbrev pub kept_known : KnownPlan → Kept
kept_known known = placed_kept known.digest known.graph

-- neither the disk nor the sink was written on
pub record LeavesBoth {D : Type 0} (disk disk_now : D) (sink sink_now : SinkTrace) : Type 0 where
  pub disk_is : disk_now ≡ disk
  pub sink_is : sink_now ≡ sink

-- ---- writing and placing

-- a text wasn't written, or a part of it alone
abbrev pub IsUnwritten : List ℕ → CommandEnd → SinkTrace → SinkTrace → Type 0
IsUnwritten text ending sink sink_now =
    ((ending ≡ WriteFault) × AppendsPart sink.written text sink_now.written × Rose sink.faults sink_now.faults) ⊎ ((ending ≡ OutOfMemory) × (sink_now.written ≡ sink.written))

-- It was placed: each image that a crash leaves now is this journal. Or it wasn't, for this cause.
abbrev pub IsPlacedOrNot : {D : Type 0} → (D → DiskTrace) → Kept → D → D → RetargetEnding → Type 0
IsPlacedOrNot trace kept disk disk_now ending =
    ((ending ≡ Ended Done) × HasPlaced trace kept disk_now)
    ⊎ ((cause : JournalFault) × (ending ≡ Ended (ending_of_journal cause)) × IsNotPlaced trace cause disk disk_now)

-- Placing a journal that keeps this was tried: a crash meanwhile leaves what stood or the new one.
pub record Places {D : Type 0} (trace : D → DiskTrace) (kept : Kept) (disk disk_now : D) (ending : RetargetEnding) : Type 0 where
  pub may : MayPlace trace kept disk disk_now
  pub ends : IsPlacedOrNot trace kept disk disk_now ending

abbrev pub PlacesNext : {D : Type 0} → (D → DiskTrace) → KnownPlan → D → D → RetargetEnding → Type 0
PlacesNext trace known disk disk_now ending = Places trace (kept_known known) disk disk_now ending

-- All of the text was written, and then placing was tried; or it wasn't, and the disk is as it was.
abbrev pub WritesAndPlaces : {D : Type 0} → (D → DiskTrace) → List ℕ → Kept → D → D → RetargetEnding → SinkTrace → SinkTrace → Type 0
WritesAndPlaces trace text kept disk disk_now ending sink sink_now =
    (Appends sink.written text sink_now.written × Places trace kept disk disk_now ending)
    ⊎ ((why : CommandEnd) × (ending ≡ Ended why) × IsUnwritten text why sink sink_now × (disk_now ≡ disk))

abbrev pub WritesNext : {D : Type 0} → (D → DiskTrace) → KnownPlan → D → D → RetargetEnding → SinkTrace → SinkTrace → Type 0
WritesNext trace known disk disk_now ending sink sink_now = WritesAndPlaces trace (next_text known.graph.rollout) (kept_known known) disk disk_now ending sink sink_now

-- The document of a valid plan, and a journal of it as the next migration.
pub record Replaces {D : Type 0} (trace : D → DiskTrace) (r : Rollout) (migration : ℕ) (disk disk_now : D) (ending : RetargetEnding) (sink sink_now : SinkTrace) : Type 0 where
  pub network : IsNetwork r.problem
  pub valid : IsValid r.problem r.plan
  pub writes : WritesAndPlaces trace (next_text r) (kept_next r migration) disk disk_now ending sink sink_now

-- ---- from the bytes of the journal on

-- what a planner chose decides, or that there is no plan
abbrev pub ByChosen : {D : Type 0} → (D → DiskTrace) → ℕ → Result Chosen NotFound → D → D → RetargetEnding → SinkTrace → SinkTrace → Type 0
ByChosen trace migration (Ok chosen) disk disk_now ending sink sink_now = Replaces trace chosen.plan migration disk disk_now ending sink sink_now
ByChosen trace migration (Err missed) disk disk_now ending sink sink_now = (ending ≡ Ended (ending_without missed.problem missed.cause)) × LeavesBoth disk disk_now sink sink_now

pub record Chooses {D : Type 0} (trace : D → DiskTrace) (planner : Planner) (migration : ℕ) (problem : Problem) (disk disk_now : D) (ending : RetargetEnding) (sink sink_now : SinkTrace) : Type 0 where
  pub chosen : Result Chosen NotFound
  pub is : IsChosenBy planner problem chosen
  pub ends : ByChosen trace migration chosen disk disk_now ending sink sink_now

-- the problem from where the rollout stands decides, or that there is none
abbrev pub ByMade : {D : Type 0} → (D → DiskTrace) → Planner → ℕ → Result Problem Unwritten → D → D → RetargetEnding → SinkTrace → SinkTrace → Type 0
ByMade trace planner migration (Ok problem) disk disk_now ending sink sink_now = Chooses trace planner migration problem disk disk_now ending sink sink_now
ByMade trace planner migration (Err why) disk disk_now ending sink sink_now = (ending ≡ ending_of_unwritten why) × LeavesBoth disk disk_now sink sink_now

pub record Makes {D : Type 0} (trace : D → DiskTrace) (planner : Planner) (migration : ℕ) (w : Wanted) (image : List ℕ) (disk disk_now : D) (ending : RetargetEnding) (sink sink_now : SinkTrace) : Type 0 where
  pub made : Result Problem Unwritten
  pub makes : MakesBy w.plan (digest_for w.plan migration) image w.aim made
  pub ends : ByMade trace planner migration made disk disk_now ending sink sink_now

-- what was read decides, or that it wasn't read
abbrev pub ByImage : {D : Type 0} → (D → DiskTrace) → Planner → ℕ → Wanted → Result (List ℕ) JournalFault → D → D → RetargetEnding → SinkTrace → SinkTrace → Type 0
ByImage trace planner migration w (Ok image) disk disk_now ending sink sink_now = Makes trace planner migration w image disk disk_now ending sink sink_now
ByImage trace planner migration w (Err cause) disk disk_now ending sink sink_now = (ending ≡ Ended (ending_of_journal cause)) × LeavesBoth disk disk_now sink sink_now

-- ---- from the disk on

-- All bytes of the disk were read, and none was written; or it failed.
pub record ReadsImage {D : Type 0} (trace : D → DiskTrace) (disk : D) (image : Result (List ℕ) JournalFault) (read : D) : Type 0 where
  pub all : IfOk image (λ bytes. IfSome (trace disk).bytes (λ told. bytes ≡ told))
  pub quiet : IsQuiet trace disk read
  pub failed : IfErr image (λ cause. Causes cause (trace disk).faults (trace read).faults)

-- So its bytes decide.
pub record ReadsThere {D : Type 0} (trace : D → DiskTrace) (planner : Planner) (migration : ℕ) (w : Wanted) (disk disk_now : D) (ending : RetargetEnding) (sink sink_now : SinkTrace) : Type 0 where
  pub image : Result (List ℕ) JournalFault
  pub read : D
  pub reads : ReadsImage trace disk image read
  pub ends : ByImage trace planner migration w image read disk_now ending sink sink_now

-- The disk was opened, tells its bytes since, no more than there is room for a journal of this rollout, and they decide.
pub record RetargetsOpened {D : Type 0} (trace : D → DiskTrace) (planner : Planner) (migration : ℕ) (w : Wanted) (disk disk_now : D) (ending : RetargetEnding) (sink sink_now : SinkTrace) : Type 0 where
  pub opened : D
  pub opens : Opens (trace disk) (trace opened)
  pub told : IsTold (trace opened).bytes
  pub within : OpensWithin (journal_room w.plan) (trace disk) (trace opened)
  pub reads : ReadsThere trace planner migration w opened disk_now ending sink sink_now

-- It couldn't be opened.
pub record FailsToOpen {D : Type 0} (trace : D → DiskTrace) (disk disk_now : D) (ending : RetargetEnding) (sink sink_now : SinkTrace) : Type 0 where
  pub opens : Opens (trace disk) (trace disk_now)
  pub is : ending ≡ Ended DiskFault
  pub failed : Rose (trace disk).faults (trace disk_now).faults
  pub silent : sink_now ≡ sink

abbrev pub OpensAndRetargets : {D : Type 0} → (D → DiskTrace) → Planner → ℕ → Wanted → D → D → RetargetEnding → SinkTrace → SinkTrace → Type 0
OpensAndRetargets trace planner migration w disk disk_now ending sink sink_now =
    FailsToOpen trace disk disk_now ending sink sink_now ⊎ RetargetsOpened trace planner migration w disk disk_now ending sink sink_now
