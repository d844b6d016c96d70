-- What `report --live --follow` brings about: the journal's file is looked at again and again, and each report that is another one than the one before is written.
use Rattle.std.specs.Prelude.{◌≡◌, ◌⊎◌, ⊤, ℕ, ◌-◌, Bool, true, false, List, [], ◌∷◌, ◌++◌, length, drop, codes, bytes_eq, nat_lt, Option, Result, Ok, Err, if◌then◌else◌}
use Rattle.rollout_rules.specs.Wan.{Rollout}
use Rattle.wan_edge.specs.Streams.{Appends, AppendsPart, Rose, SinkTrace, SourceTrace}
use Rattle.intent_journal.specs.declared.fault.JournalFault.{JournalFault}
use Rattle.rollout_report.specs.Journals.{journal_report}
use Rattle.text_commands.specs.CommandEnds.{ending_of_journal}
use Rattle.swanroll_top.specs.Live.{FailsToSee, LiveTold, Sees, in_memory}
use Rattle.text_commands.specs.Reading.{IsShortInput, IsCut}
use Rattle.text_commands.specs.Answers.{rollout_in}
use Rattle.text_commands.specs.declared.command_end.CommandEnd.{CommandEnd}
use Rattle.text_commands.specs.declared.command_end.CommandEnd.TheVariants.{Done, DiskFault, OutOfMemory, ReadFault, Refused, WriteFault}
use Rattle.swanroll_top.specs.declared.live.LiveEnd.{LiveEnd}
use Rattle.swanroll_top.specs.declared.live.LiveEnd.TheVariants.{Ended, InUse}
use Rattle.swanroll_top.specs.declared.turning.Turn.{Turn}
use Rattle.swanroll_top.specs.declared.turning.Turn.TheVariants.{Goes, Ends}

-- ---- one look

-- This text is the report of what was seen in a look at the file, for the rollout of the input.
pub record IsReported {W : Type 0} (trace : W → SourceTrace) (migration : ℕ) (rollout : Result Rollout CommandEnd) (text : List ℕ) : Type 0 where
  pub o : Rollout
  pub is : rollout ≡ Ok o
  pub before : W
  pub now : W
  pub image : List ℕ
  pub sees : Sees trace before now image
  pub text_is : journal_report o migration image ≡ Ok text

-- What was seen in a look is no journal of the rollout, for this cause.
pub record IsRefused {W : Type 0} (trace : W → SourceTrace) (migration : ℕ) (rollout : Result Rollout CommandEnd) (why : JournalFault) : Type 0 where
  pub o : Rollout
  pub is : rollout ≡ Ok o
  pub before : W
  pub now : W
  pub image : List ℕ
  pub sees : Sees trace before now image
  pub refused : journal_report o migration image ≡ Err why

-- The file couldn't be seen in a look.
pub record IsNotSeen {W : Type 0} (trace : W → SourceTrace) : Type 0 where
  pub before : W
  pub now : W
  pub fails : FailsToSee trace before now

-- why there is no text
abbrev pub HasNoText : {W : Type 0} → (W → SourceTrace) → ℕ → Result Rollout CommandEnd → CommandEnd → Type 0
HasNoText trace migration rollout Done = ⊥
HasNoText trace migration rollout WriteFault = ⊥
HasNoText trace migration rollout OutOfMemory = ⊤
HasNoText trace migration rollout DiskFault = IsNotSeen trace
HasNoText trace migration rollout (Refused why) = IsRefused trace migration rollout why
HasNoText trace migration rollout ending = rollout ≡ Err ending

abbrev pub TextOr : {W : Type 0} → (W → SourceTrace) → ℕ → Result Rollout CommandEnd → Result (List ℕ) LiveEnd → Type 0
TextOr trace migration rollout (Ok text) = IsReported trace migration rollout text
TextOr trace migration rollout (Err InUse) = ⊤
TextOr trace migration rollout (Err (Ended ending)) = HasNoText trace migration rollout ending

-- the same of the report of an image, by a disk in memory
abbrev pub or_live : Result (List ℕ) JournalFault → Result (List ℕ) LiveEnd
or_live (Ok text) = Ok text
or_live (Err cause) = Err (Ended (in_memory (ending_of_journal cause)))

abbrev pub ImageText : Result (List ℕ) JournalFault → Result (List ℕ) LiveEnd → Type 0
ImageText report (Ok text) = report ≡ Ok text
ImageText report (Err InUse) = ⊥
ImageText report (Err (Ended OutOfMemory)) = ⊤
ImageText report (Err (Ended (Refused why))) = report ≡ Err why
ImageText report (Err (Ended ending)) = ⊥

-- ---- whether it goes on

-- whether the last line of a report says that the rollout is finished
abbrev pub last_bytes : List ℕ → List ℕ
last_bytes text = if nat_lt 10 (length text) then drop (length text - 10) text else text

abbrev pub ends_finished : List ℕ → Bool
ends_finished text = bytes_eq (last_bytes text) (codes "\nfinished\n")

abbrev pub turn_behind : List ℕ → Turn
turn_behind text = if ends_finished text then Ends (Ended Done) else Goes text

abbrev pub turn_after : CommandEnd → List ℕ → Turn
turn_after Done text = turn_behind text
turn_after ending text = Ends (Ended ending)

abbrev pub turn_of : LiveEnd → List ℕ → Turn
turn_of InUse last = Goes last
turn_of (Ended ending) last = Ends (Ended ending)

-- what comes of the writing of a text
abbrev pub Writes : List ℕ → Option (List ℕ) → Turn → Option (List ℕ) → Type 0
Writes text out (Goes last) now = (last ≡ text) × Appends out text now
Writes text out (Ends InUse) now = ⊥
Writes text out (Ends (Ended Done)) now = (ends_finished text ≡ true) × Appends out text now
Writes text out (Ends (Ended WriteFault)) now = AppendsPart out text now
Writes text out (Ends (Ended ending)) now = ⊥

-- the same where it is written only if it is another one than the last
abbrev pub WritesAnew : List ℕ → List ℕ → Option (List ℕ) → Turn → Option (List ℕ) → Type 0
WritesAnew text last out turn now = ((turn ≡ Goes last) × (now ≡ out)) ⊎ ((bytes_eq text last ≡ false) × Writes text out turn now)

-- how a row of looks ends: with the report of a finished rollout, with a part of a report, or without a text
abbrev pub EndsLooking : {W : Type 0} → (W → SourceTrace) → ℕ → Result Rollout CommandEnd → Option (List ℕ) → LiveEnd → Option (List ℕ) → Type 0
EndsLooking trace migration rollout out InUse now = ⊥
EndsLooking trace migration rollout out (Ended Done) now = (text : List ℕ) × IsReported trace migration rollout text × (ends_finished text ≡ true) × Appends out text now
EndsLooking trace migration rollout out (Ended WriteFault) now = (text : List ℕ) × IsReported trace migration rollout text × AppendsPart out text now
EndsLooking trace migration rollout out (Ended ending) now = HasNoText trace migration rollout ending × (now ≡ out)

-- what came of one look after which this text was written last
abbrev pub TurnOf : {W : Type 0} → (W → SourceTrace) → ℕ → Result Rollout CommandEnd → List ℕ → Option (List ℕ) → Turn → Option (List ℕ) → Type 0
TurnOf trace migration rollout last out (Goes text) now =
    ((text ≡ last) × (now ≡ out)) ⊎ (IsReported trace migration rollout text × (bytes_eq text last ≡ false) × Appends out text now)
TurnOf trace migration rollout last out (Ends ending) now = EndsLooking trace migration rollout out ending now

-- ---- a row of looks

abbrev pub AreReported : {W : Type 0} → (W → SourceTrace) → ℕ → Result Rollout CommandEnd → List (List ℕ) → Type 0
AreReported trace migration rollout [] = ⊤
AreReported trace migration rollout (text ∷ later) = IsReported trace migration rollout text × AreReported trace migration rollout later

-- each text is another one than the one before it
abbrev pub Differ : List ℕ → List (List ℕ) → Type 0
Differ last [] = ⊤
Differ last (text ∷ later) = (bytes_eq text last ≡ false) × Differ text later

abbrev pub last_of : List ℕ → List (List ℕ) → List ℕ
last_of last [] = last
last_of last (text ∷ later) = last_of text later

abbrev pub all_of : List (List ℕ) → List ℕ
all_of [] = []
all_of (text ∷ later) = text ++ all_of later

-- These texts were written so far, one after the other, and this one last.
pub record Wrote {W : Type 0} (trace : W → SourceTrace) (migration : ℕ) (rollout : Result Rollout CommandEnd) (out : Option (List ℕ)) (last : List ℕ) (now : Option (List ℕ)) : Type 0 where
  pub texts : List (List ℕ)
  pub reported : AreReported trace migration rollout texts
  pub differ : Differ [] texts
  pub is_last : last_of [] texts ≡ last
  pub written : Appends out (all_of texts) now

pub record WatchesRollout {W : Type 0} (trace : W → SourceTrace) (migration : ℕ) (rollout : Result Rollout CommandEnd) (out : Option (List ℕ)) (ending : LiveEnd) (now : Option (List ℕ)) : Type 0 where
  pub last : List ℕ
  pub until : Option (List ℕ)
  pub wrote : Wrote trace migration rollout out last until
  pub ends : EndsLooking trace migration rollout until ending now

-- the source wasn't read to its end, and nothing was written
pub record IsUnwatched (source source_now : SourceTrace) (out : Option (List ℕ)) (ending : LiveEnd) (now : Option (List ℕ)) : Type 0 where
  pub why : CommandEnd
  pub is : ending ≡ Ended why
  pub cut : IsCut source why source_now
  pub cause : why ≡ ReadFault → Rose source.faults source_now.faults
  pub silent : now ≡ out

-- the same by what the source told and tells
abbrev pub WatchesInput : {W : Type 0} → (W → SourceTrace) → ℕ → SourceTrace → SourceTrace → Option (List ℕ) → LiveEnd → Option (List ℕ) → Type 0
WatchesInput trace migration source source_now out ending now =
    ((input : List ℕ) × IsShortInput source source_now input × WatchesRollout trace migration (rollout_in input) out ending now) ⊎ IsUnwatched source source_now out ending now

-- What a row of looks promises, by the source, the sink and the notes before and now.
pub record WatchPromise {W : Type 0} (trace : W → SourceTrace) (migration : ℕ) (source source_now : SourceTrace) (out out_now : Option (List ℕ)) (notes notes_now : SinkTrace) (status : ℕ) : Type 0 where
  pub ending : LiveEnd
  -- all that was written are reports of what was seen in looks, each another one than the one before, and how it ended
  pub does : WatchesInput trace migration source source_now out ending out_now
  -- the status and the line of the notes are those of the ending
  pub told : LiveTold ending status notes notes_now
