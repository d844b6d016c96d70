-- What a run makes of a port.
use Rattle.std.specs.Prelude.{◌≡◌, ◌≤◌, ℕ, List, All, Option, Some}
use Rattle.std.specs.List.{Contains}
use Rattle.rollout_rules.specs.declared.op.Op.{Op}
use Rattle.rollout_rules.specs.declared.op.Entry.TheVariants as entry
use Rattle.wan_edge.specs.Frames.{Answer, Command}
use Rattle.wan_edge.specs.Ports.{PortTrace}
use Rattle.port_session.specs.Sessions.{SessionView}
use Rattle.switch_ports.specs.Outboxes.{home_at}
use Rattle.switch_ports.specs.Stories.{LastStory}
use Rattle.switch_ports.specs.Views.{SessionTrace, view}
use Rattle.shared_book.specs.declared.note.Written.{Written}
use Rattle.shared_book.specs.Histories.{Opening, all_entries, history_of}
use Rattle.controller_run.specs.Promises.{WasTold}
use Rattle.controller_run.specs.Keeping.{IsBegun}

-- An answer that covers an operation was told by this port.
pub record Covers (migration : ℕ) (op : Op) (first now : SessionTrace) : Type 0 where
  pub answer : Answer
  pub item : answer.item ≡ op.item
  pub number : op.number ≤ answer.held
  pub told : WasTold migration first.switch answer first now

-- After what had gone out before, a front of the frames of commands went out: of commands that bring operations which the history begins, and whose
-- items' home is the port's switch. And each operation of such an item that is done since the history was found was answered here.
pub record IsPortRun (o : Opening) (migration : ℕ) (homes : List (Option ℕ)) (log : List Written) (first now : SessionTrace) : Type 0 where
  pub sent : List Command
  pub begun : All (IsBegun o (history_of o log)) sent
  pub story : LastStory migration homes sent first now
  pub answered : (op : Op) → Contains (all_entries log) (entry.Done op) → home_at homes op.item ≡ Some first.switch → Covers migration op first now

-- the port of a switch is back, and a run has made this of it
pub record IsBack {P : Type 0} (tell : P → PortTrace) (o : Opening) (migration : ℕ) (homes : List (Option ℕ)) (log : List Written) (kept : ℕ → Option P) (first : SessionView P) : Type 0 where
  pub now : SessionView P
  pub run : IsPortRun o migration homes log (view tell first) (view tell now)
  pub is_kept : kept first.switch ≡ Some now.port

-- Each operation that is done since the history was found has a home among these switches.
abbrev pub AreAtHome : List (Option ℕ) → List Written → List ℕ → Type 0
AreAtHome homes log switches = (op : Op) → Contains (all_entries log) (entry.Done op) → (switch : ℕ) × (home_at homes op.item ≡ Some switch) × Contains switches switch
