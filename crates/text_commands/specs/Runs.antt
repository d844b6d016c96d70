-- What a run reads, writes and notes.
use Rattle.std.specs.Prelude.{◌≡◌, ◌⊎◌, ◌↔◌, ℕ, List, ◌++◌, Option, Some, Result, Ok, Err, IfSome}
use Rattle.rollout_rules.specs.declared.limits.TheConstants.{MOST_INPUT}
use Rattle.wan_edge.specs.Streams.{Appends, AppendsPart, IsAtEnd, Rose, SourceTrace}
use Rattle.wan_edge.specs.ReadAll.{GoesBeyond}
use Rattle.text_commands.specs.CommandEnds.{status_of, line_of}
use Rattle.text_commands.specs.Lines.{IsToldAs}
use Rattle.text_commands.specs.Answers.{answer_to}
use Rattle.text_commands.specs.Safety.{DoesSafely}
use Rattle.text_commands.specs.Taken.{IsTaken}
use Rattle.text_commands.specs.declared.command_end.CommandEnd.{CommandEnd}
use Rattle.text_commands.specs.declared.command_end.CommandEnd.TheVariants.{Done, ReadFault, WriteFault, OutOfMemory}
use Rattle.text_commands.specs.Words.{TextAsked}

-- these bytes were read, and with them the source to its end
pub record IsReadToEnd (before now : SourceTrace) (input : List ℕ) : Type 0 where
  pub at_end : IsAtEnd now.left
  pub taken : Appends before.taken input now.taken

-- more bytes than the limit were read, and these begin with them
pub record IsReadBeyond (before now : SourceTrace) (input : List ℕ) : Type 0 where
  pub goes : GoesBeyond MOST_INPUT before now
  pub behind : List ℕ
  pub parts : input ≡ goes.bytes ++ behind

-- The bytes are the input. Where the source tells what is left, they are all that was left at entry. Where it tells what was taken, they are what
-- was taken since; of an input above the limit that is the front.
pub record IsInput (before now : SourceTrace) (input : List ℕ) : Type 0 where
  pub whole : IfSome before.left (λ left. left ≡ input)
  pub read : IsReadToEnd before now input ⊎ IsReadBeyond before now input

-- these bytes were taken since
pub record TellsTaken (before now : SourceTrace) (bytes : List ℕ) : Type 0 where
  pub earlier : List ℕ
  pub before_is : before.taken ≡ Some earlier
  pub now_is : now.taken ≡ Some (earlier ++ bytes)

-- The source tells its input, by what it had left or by what was taken of it.
abbrev pub TellsInput : SourceTrace → SourceTrace → List ℕ → Type 0
TellsInput before now input = (before.left ≡ Some input) ⊎ TellsTaken before now input

-- What a call answers is what the definition says; lack of memory says nothing.
abbrev pub Gives : {A : Type 0} → Result A CommandEnd → Result A CommandEnd → Type 0
Gives (Ok a) answer = answer ≡ Ok a
Gives (Err OutOfMemory) answer = Unit {0}
Gives (Err e) answer = answer ≡ Err e

-- The run ends as the answer to its input says: with the text written, or a part of it and a write fault, or with
-- nothing written and the ending that the answer names.
abbrev pub EndsWith : Result (List ℕ) CommandEnd → CommandEnd → Option (List ℕ) → Option (List ℕ) → Type 0
EndsWith (Ok text) ending before now = ((ending ≡ Done) × Appends before text now) ⊎ ((ending ≡ WriteFault) × AppendsPart before text now)
EndsWith (Err e) ending before now = (ending ≡ e) × (now ≡ before)

-- the same, where memory may have run out: then nothing was written
abbrev pub Follows : Result (List ℕ) CommandEnd → CommandEnd → Option (List ℕ) → Option (List ℕ) → Type 0
Follows answer OutOfMemory before now = now ≡ before
Follows answer ending before now = EndsWith answer ending before now

-- The input of a run, and how the run follows from it. It is refused exactly where the command doesn't take it;
-- where the text was written, its rollout is safe.
pub record FollowsInput (asked : TextAsked) (source source_now : SourceTrace) (ending : CommandEnd) (out out_now : Option (List ℕ)) : Type 0 where
  pub input : List ℕ
  pub read : IsInput source source_now input
  pub answer : EndsWith (answer_to asked input) ending out out_now
  pub refused : (status_of ending ≡ 3) ↔ (IsTaken asked input → ⊥)
  pub safe : ending ≡ Done → DoesSafely asked input

-- what an ending of a run says: after a fault of the source, and for lack of memory, that nothing was written
abbrev pub Runs : TextAsked → SourceTrace → SourceTrace → CommandEnd → Option (List ℕ) → Option (List ℕ) → Type 0
Runs asked source source_now ReadFault out out_now = out_now ≡ out
Runs asked source source_now OutOfMemory out out_now = out_now ≡ out
Runs asked source source_now ending out out_now = FollowsInput asked source source_now ending out out_now

-- the line of an ending was written, or a part of it where the notes failed
abbrev pub Notes : CommandEnd → Option (List ℕ) → Option (List ℕ) → ℕ → ℕ → Type 0
Notes ending before now faults faults_now = Appends before (line_of ending) now ⊎ (AppendsPart before (line_of ending) now × Rose faults faults_now)

-- the status and the line are those of the ending, or of lack of memory for its line
pub record IsTold (ending : CommandEnd) (status : ℕ) (before now : Option (List ℕ)) (faults faults_now : ℕ) : Type 0 where
  pub told : CommandEnd
  pub is : IsToldAs ending told
  pub is_status : status ≡ status_of told
  pub line : Notes told before now faults faults_now
