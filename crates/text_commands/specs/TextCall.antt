-- What a call promises that knows the commands which make a text of their input, and no other.
use Rattle.std.specs.Prelude.{◌≡◌, ℕ, List, drop, String, Option, None, Result, IfErr, IfOk, IfSome}
use Rattle.std.specs.declared.alloc.Global.{Global}
use Rattle.rollout_rules.specs.declared.op.OpView.{OpView}
use Rattle.wan_edge.specs.Streams.{SinkTrace, SourceTrace}
use Rattle.text_commands.specs.CommandEnds.{ending_of_unread}
use Rattle.text_commands.specs.Program.{IsEnded, IsRun, Streams}
use Rattle.text_commands.specs.TextPromise.{TextPromise}
use Rattle.text_commands.specs.Uses.{text_uses}
use Rattle.text_commands.specs.Words.{TextAsked, text_asked_by}
use Rattle.text_commands.specs.declared.arguments.Unread.{Unread}
use Rattle.text_commands.specs.declared.command_end.CommandEnd.{CommandEnd}

-- the streams that such a call is lent
pub record Lent (S K : Type 0) : Type 0 where
  pub source : S
  pub sink : K
  pub notes : K

abbrev pub lent : {S K : Type 0} → S → K → K → Lent S K
lent source sink notes = record { source = source; sink = sink; notes = notes }

-- what they tell; there is no disk and no fleet
abbrev pub streams_of : {S K : Type 0} → (S → SourceTrace) → (K → SinkTrace) → Lent S K → Streams
streams_of told written l = record {
  source = told l.source;
  sink = written l.sink;
  notes = written l.notes;
  stored = None;
  disk_faults = 0;
  fleet_faults = 0;
}

-- The promise by what the words ask for. Each field says what that of the whole program says of such a command.
pub record TextsPromise {S K : Type 0} (told : S → SourceTrace) (written : K → SinkTrace) (asked : Option TextAsked) (before : Lent S K) (status : ℕ) (after : Lent S K) : Type 0 where
  -- which statuses there are, that no object is said to have failed that didn't, and that the notes have the line of the status
  pub run : IsRun (text_uses asked) asked (streams_of told written before) (streams_of told written after) status
  -- words that are no command line leave the source as it was
  pub untouched : status ≡ 2 → after.source ≡ before.source
  -- where the text was written nothing is noted
  pub quiet : status ≡ 0 → after.notes ≡ before.notes
  -- what the command promises of the rest
  pub command : IfSome asked (λ what. TextPromise what (streams_of told written before) (streams_of told written after) status)

-- ---- from the arguments on

-- The program ended before any word was read: all but the notes is as it was.
pub record EndsTextUnread {S K : Type 0} (told : S → SourceTrace) (written : K → SinkTrace) (ending : CommandEnd) (before : Lent S K) (status : ℕ) (after : Lent S K) : Type 0 where
  pub ended : IsEnded ending (streams_of told written before) (streams_of told written after) status
  pub unread : after.source ≡ before.source
  pub unwritten : after.sink ≡ before.sink

-- The promise by the arguments, seen as this list, with these policies: the program's own name is passed over.
pub record TextsStart {A S K : Type 0} (told : S → SourceTrace) (written : K → SinkTrace) (policies : List (List ℕ × (OpView → ℕ))) (arguments : Result A Unread) (list : A → List (String Global))
    (before : Lent S K) (status : ℕ) (after : Lent S K) : Type 0 where
  pub read : IfOk arguments (λ all. TextsPromise told written (text_asked_by policies (drop 1 (list all))) before status after)
  pub unread : IfErr arguments (λ why. EndsTextUnread told written (ending_of_unread why) before status after)
