-- What the rounds of a worker come to in the end, said of its notes and of its ports. No row of rounds stands in it.
use Rattle.std.specs.Prelude.{◌≡◌, ◌⊎◌, ◌≤◌, ⊤, ℕ, ◌+◌, Bool, true, false, ◌&&◌, List, [], ◌∷◌, ◌++◌, map, ◌==◌, Option, Some, None, All, if◌then◌else◌}
use Rattle.std.specs.List.{Contains}
use Rattle.rollout_rules.specs.Items.{home_of, item_at}
use Rattle.rollout_rules.specs.History.{History}
use Rattle.rollout_rules.specs.Legal.{is_finished}
use Rattle.rollout_rules.specs.declared.op.Op.{Op}
use Rattle.rollout_rules.specs.declared.op.Entry.{Entry}
use Rattle.rollout_rules.specs.declared.op.Entry.TheVariants.{Begin, Done}
use Rattle.wan_edge.specs.Frames.{Answer, Command}
use Rattle.wan_edge.specs.Ports.{GoesOn, PortTrace}
use Rattle.wan_edge.specs.Streams.{Rose}
use Rattle.rollout_book.specs.Commands.{command_of}
use Rattle.port_session.specs.Sessions.{SessionView}
use Rattle.shared_book.specs.declared.note.Cause.{Cause}
use Rattle.shared_book.specs.declared.note.Cause.TheVariants as cause
use Rattle.shared_book.specs.declared.note.What.{What}
use Rattle.shared_book.specs.declared.note.What.TheVariants as what
use Rattle.shared_book.specs.declared.note.Written.{Written}
use Rattle.shared_book.specs.declared.call_reply.Halt.{Halt}
use Rattle.shared_book.specs.declared.call_reply.Wake.{Wake}
use Rattle.shared_book.specs.declared.call_reply.Wake.TheVariants as wake
use Rattle.shared_book.specs.Notes.{cause_of, first_stop}
use Rattle.shared_book.specs.Histories.{Opening, history_of}
use Rattle.shared_book.specs.Knows.{next_note}
use Rattle.shared_book.specs.Legal.{begun_of, is_alien, is_legal_shared, is_still}
use Rattle.shared_book.specs.Replies.{asked_at}
use Rattle.shared_book.specs.Told.{commands_at}
use Rattle.switch_ports.specs.Outboxes.{home_at}
use Rattle.switch_ports.specs.Rows.{AtOne}
use Rattle.switch_ports.specs.Stories.{LastStoryEach, StoryEach, ToldAt}
use Rattle.switch_ports.specs.Views.{SessionTrace, view}
use Rattle.controller_run.specs.Exchanging.{StopsInHear}
use Rattle.controller_run.specs.Working.{Standing, is_some_command}

-- ---- what was listed
-- whether a note says that commands were listed
abbrev pub says_listed : What → Bool
says_listed (what.Turned dones begins) = false
says_listed (what.Alien item held begun) = false
says_listed what.Disk = false
says_listed what.Listed = true
says_listed what.Work = false
says_listed what.Finished = false
says_listed what.Held = false
says_listed what.Stopped = false
says_listed (what.Stop why) = false

-- what a seat had listed of these switches in a note after a history; nothing where the note is another's, or says something else
abbrev pub listed_at : Opening → ℕ → List ℕ → List Written → Written → List Command
listed_at o seat switches log w = if (w.note.seat == seat) && says_listed w.note.what then commands_at o log switches else []

-- each of the switches asked for is among these
abbrev pub AreSome : List ℕ → List ℕ → Type 0
AreSome asked switches = All (Contains switches) asked

-- what it had listed there of some of these switches: of those that it asked for, since they were due
pub record IsListedAt (o : Opening) (seat : ℕ) (switches : List ℕ) (log : List Written) (w : Written) (commands : List Command) : Type 0 where
  pub asked : List ℕ
  pub some : AreSome asked switches
  pub is : commands ≡ listed_at o seat asked log w

-- These commands it had listed in all notes that come after a history, in order, and in so many of them some command was.
abbrev pub AreListed : Opening → ℕ → List ℕ → List Written → List Written → List Command → ℕ → Type 0
AreListed o seat switches log [] commands rounds = (commands ≡ []) × (rounds ≡ 0)
AreListed o seat switches log (w ∷ later) commands rounds =
    (mine : List Command) × (rest : List Command) × (used : ℕ) × IsListedAt o seat switches log w mine × (commands ≡ mine ++ rest) × (rounds ≡ (if is_some_command mine then 1 else 0) + used)
    × AreListed o seat switches (log ++ w ∷ []) later rest used

-- A note of the seat says that commands were listed, and this is one of those of some of these switches at the history before the note.
pub record IsListedIn (o : Opening) (seat : ℕ) (switches : List ℕ) (seen : List Written) (c : Command) : Type 0 where
  pub log : List Written
  pub note : Written
  pub later : List Written
  pub is : seen ≡ log ++ note ∷ later
  pub own : note.note.seat ≡ seat
  pub says : note.note.what ≡ what.Listed
  pub asked : List ℕ
  pub some : AreSome asked switches
  pub among : Contains (commands_at o log asked) c

-- The command of an operation that a history begins, whose item's home is one of these switches.
pub record IsOfBegun (o : Opening) (switches : List ℕ) (h : History) (c : Command) : Type 0 where
  pub op : Op
  pub is : c ≡ command_of o.rollout op
  pub begun : Contains h.entries (Begin op)
  pub switch : ℕ
  pub home : home_of o.rollout.problem (item_at o.rollout.problem op.item) ≡ Some switch
  pub among : Contains switches switch

-- ---- what was told
-- An answer was told by the port of a switch, at some time from which the port went on.
pub record WasTold (migration switch : ℕ) (answer : Answer) (before now : SessionTrace) : Type 0 where
  pub at : SessionTrace
  pub told : ToldAt migration switch answer before at
  pub later : GoesOn at.port now.port

abbrev pub WasToldEach : {P : Type 0} → (P → PortTrace) → ℕ → ℕ → Answer → List (SessionView P) → List (SessionView P) → Type 0
WasToldEach tell migration switch answer = AtOne (λ before now. WasTold migration switch answer (view tell before) (view tell now))

-- the port of the item's home told this answer
pub record IsToldAtHome {P : Type 0} (tell : P → PortTrace) (migration : ℕ) (homes : List (Option ℕ)) (before : List (SessionView P)) (answer : Answer) (now : List (SessionView P)) : Type 0 where
  pub switch : ℕ
  pub home : home_at homes answer.item ≡ Some switch
  pub told : WasToldEach tell migration switch answer before now

-- the port of an operation's item told an answer that covers the operation
pub record IsAnswered {P : Type 0} (tell : P → PortTrace) (migration : ℕ) (homes : List (Option ℕ)) (before : List (SessionView P)) (op : Op) (now : List (SessionView P)) : Type 0 where
  pub answer : Answer
  pub item : answer.item ≡ op.item
  pub covers : op.number ≤ answer.held
  pub told : IsToldAtHome tell migration homes before answer now

-- so it is with each operation that is done among entries
abbrev pub AreAnswered : {P : Type 0} → (P → PortTrace) → ℕ → List (Option ℕ) → List (SessionView P) → List Entry → List (SessionView P) → Type 0
AreAnswered tell migration homes before es now = (op : Op) → Contains es (Done op) → IsAnswered tell migration homes before op now

-- no entry says that an operation is done
abbrev pub EndNothing : List Entry → Type 0
EndNothing es = (op : Op) → Contains es (Done op) → ⊥

-- After what was seen no note of the seat says that an operation is done.
pub record BeginsAlone (seat : ℕ) (seen after : List Written) : Type 0 where
  pub more : List Written
  pub goes_on : after ≡ seen ++ more
  pub ends_nothing : All (λ w. w.note.seat ≡ seat → EndNothing w.entries) more

-- ---- who stops
-- no note of a seat stops the history
abbrev pub StopsNothing : ℕ → List Written → Type 0
StopsNothing seat ws = All (λ w. w.note.seat ≡ seat → cause_of w.note.what ≡ None) ws

-- what a port, its answers, or lack of memory may be the cause of
abbrev pub IsBreak : Cause → Type 0
IsBreak (cause.Spent rounds item number) = ⊥
IsBreak (cause.Port switch) = ⊤
IsBreak (cause.Above item held begun) = ⊥
IsBreak (cause.NotMine switch item) = ⊤
IsBreak (cause.NoAnswer switch byte) = ⊤
IsBreak cause.Disk = ⊥
IsBreak cause.Memory = ⊤

-- The last note is the seat's, and asks for such a cause that all stop.
pub record BreaksOff (seat : ℕ) (seen : List Written) : Type 0 where
  pub why : Cause
  pub breaks : IsBreak why
  pub log : List Written
  pub is : seen ≡ log ++ next_note seat log (what.Stop why) [] ∷ []

-- what holds where a worker isn't told that all stop, and else, or the other
abbrev pub UnlessStopped : Wake → Type 0 → Type 0 → Type 0
UnlessStopped (wake.Work op) holds other = ⊥
UnlessStopped wake.Finished holds other = holds
UnlessStopped wake.Held holds other = holds
UnlessStopped (wake.Stopped halt) holds other = holds ⊎ other
UnlessStopped wake.Memory holds other = ⊥

-- ---- the end
-- what the history says where a worker ends so
abbrev pub IsEndAt : Opening → List Written → Wake → Type 0
IsEndAt o seen (wake.Work op) = ⊥
IsEndAt o seen wake.Finished = (first_stop seen ≡ None) × (is_finished o.rollout.problem o.rollout.plan (history_of o seen) ≡ true)
IsEndAt o seen wake.Held =
    (first_stop seen ≡ None) × (is_still o.rollout.problem (history_of o seen) ≡ true)
    × (is_finished o.rollout.problem o.rollout.plan (history_of o seen) ≡ false)
IsEndAt o seen (wake.Stopped halt) = first_stop seen ≡ Some halt
IsEndAt o seen wake.Memory = ⊥

-- ---- the promises
abbrev pub switches_of : {P : Type 0} → List (SessionView P) → List ℕ
switches_of ports = map (λ t. t.switch) ports

-- From where a worker began it has come here, and ended so. What it has seen goes on from what it had, and is legal. These commands it had listed, of the
-- switches for which it asked. At each port its own of them went out, in order, or a front of them; all of them, unless the worker broke off. In no more
-- rounds than were given some command was listed. Each operation that its notes say is done was answered by the port of its item's home. And
-- the end is what the history says.
pub record Promises {P : Type 0} (tell : P → PortTrace) (o : Opening) (seat migration : ℕ) (homes : List (Option ℕ)) (rounds : ℕ) (before : Standing P) (end : Wake) (now : Standing P) : Type 0 where
  pub more : List Written
  pub goes_on : now.seen ≡ before.seen ++ more
  pub legal : is_legal_shared o now.seen ≡ true
  pub listed : List Command
  pub used : ℕ
  pub lists : AreListed o seat (switches_of before.ports) before.seen more listed used
  pub sent : LastStoryEach tell migration homes listed before.ports now.ports
  pub all_sent : UnlessStopped end (StoryEach tell migration homes listed before.ports now.ports) (BreaksOff seat now.seen)
  pub few : used ≤ rounds
  pub answered : All (λ w. w.note.seat ≡ seat → AreAnswered tell migration homes before.ports w.entries now.ports) more
  pub ends : IsEndAt o now.seen end
