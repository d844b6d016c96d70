-- Why the first stop of a run stands in its history: what its cause says of ports that were opened and are kept, of the history, and of the disk.
use Rattle.std.specs.Prelude.{◌≡◌, ◌≤◌, ⊤, ℕ, true, List, ◌++◌, length, All, Option, Some}
use Rattle.std.specs.List.{AllZip, Contains}
use Rattle.rollout_rules.specs.declared.op.Op.{Op}
use Rattle.wan_edge.specs.Frames.{Answer, Command}
use Rattle.wan_edge.specs.Ports.{PortTrace}
use Rattle.port_session.specs.Sessions.{SessionView}
use Rattle.switch_ports.specs.Stories.{StoryEach}
use Rattle.shared_book.specs.declared.note.Cause.{Cause}
use Rattle.shared_book.specs.declared.note.Cause.TheVariants as cause
use Rattle.shared_book.specs.declared.note.Written.{Written}
use Rattle.shared_book.specs.declared.call_reply.Halt.{Halt}
use Rattle.shared_book.specs.Histories.{Opening, history_of}
use Rattle.shared_book.specs.Legal.{begun_of, is_alien}
use Rattle.shared_book.specs.Replies.{asked_at}
use Rattle.shared_book.specs.Homes.{homes_of}
use Rattle.controller_run.specs.Promises.{IsOfBegun, IsToldAtHome, switches_of}
use Rattle.controller_run.specs.Reasons.{AreHeardOut, HasCome, HasFailed, HeardAmiss, IsShortOf}
use Rattle.controller_run.specs.declared.end.RunEnd.{RunEnd}
use Rattle.controller_run.specs.declared.end.RunEnd.TheVariants as run

-- All rounds that were given were spent. At least as many commands went out whole, each at the port of its home: commands of operations that the history
-- begins, with homes among the switches of these ports; in exactly so many rounds, in each of which a port that awaited answers ended one, was quiet once, or
-- wasn't ready. And at a beginning of the history the operation of such a home is in flight, and no answer that was told in these rounds covers it.
-- Whole answers and quiet hears together are at least the rounds, over the homes of the problem.
pub record IsSpent {P : Type 0} (tell : P → PortTrace) (o : Opening) (migration : ℕ) (homes : List (Option ℕ)) (rounds : ℕ) (log : List Written) (first : List (SessionView P)) (given : ℕ) (op : Op) (now : List (SessionView P)) : Type 0 where
  pub given_is : given ≡ rounds
  pub commands : List Command
  pub begun : All (IsOfBegun o (switches_of first) (history_of o log)) commands
  pub many : rounds ≤ length commands
  pub sent : StoryEach tell migration homes commands first now
  pub rows : List (List (SessionView P))
  pub told : List Answer
  pub heard_out : AreHeardOut tell migration homes rows rounds told first now
  pub uncovered : All (IsShortOf op) told
  pub come : homes ≡ homes_of o.rollout.problem → HasCome tell rounds first now
  pub front : List Written
  pub later : List Written
  pub is : log ≡ front ++ later
  pub flies : Contains (asked_at o.rollout.problem (history_of o front) (switches_of first)) op

-- The port of an item's home told that the item is at a number which, at a beginning of the history, is above what was begun of it, or of an item
-- that doesn't exist.
pub record IsAbove {P : Type 0} (tell : P → PortTrace) (o : Opening) (migration : ℕ) (homes : List (Option ℕ)) (log : List Written) (first : List (SessionView P)) (item held begun : ℕ) (now : List (SessionView P)) : Type 0 where
  pub front : List Written
  pub later : List Written
  pub is : log ≡ front ++ later
  pub alien : is_alien o.rollout.problem (history_of o front) (record { item = item; number = held }) ≡ true
  pub begun_is : begun ≡ begun_of o.rollout.problem (history_of o front) item
  pub told : IsToldAtHome tell migration homes first (record { item = item; held = held }) now

-- What a cause says of ports, from where they were opened to where they are now, where this says that the disk failed. Of lack of memory it says nothing.
abbrev pub IsCause : {P : Type 0} → (P → PortTrace) → Opening → ℕ → List (Option ℕ) → ℕ → Type 0 → List Written → List (SessionView P) → Cause → List (SessionView P) → Type 0
IsCause tell o migration homes rounds failed log first (cause.Spent given item number) now = IsSpent tell o migration homes rounds log first given (record { item = item; number = number }) now
IsCause tell o migration homes rounds failed log first (cause.Port switch) now = HasFailed tell switch first now
IsCause tell o migration homes rounds failed log first (cause.Above item held begun) now = IsAbove tell o migration homes log first item held begun now
IsCause tell o migration homes rounds failed log first (cause.NotMine switch item) now = HeardAmiss tell migration homes (cause.NotMine switch item) first now
IsCause tell o migration homes rounds failed log first (cause.NoAnswer switch byte) now = HeardAmiss tell migration homes (cause.NoAnswer switch byte) first now
IsCause tell o migration homes rounds failed log first cause.Disk now = failed
IsCause tell o migration homes rounds failed log first cause.Memory now = ⊤

-- Some of the ports that were opened, as they are kept now, and the cause holds of these.
pub record HasCause {P : Type 0} (tell : P → PortTrace) (o : Opening) (migration : ℕ) (homes : List (Option ℕ)) (rounds : ℕ) (failed : Type 0) (log : List Written) (opened : List (SessionView P)) (kept : ℕ → Option P) (why : Cause) : Type 0 where
  pub first : List (SessionView P)
  pub now : List (SessionView P)
  pub among : (t : SessionView P) → Contains first t → Contains opened t
  pub back : AllZip (λ before after. kept before.switch ≡ Some after.port) first now
  pub holds : IsCause tell o migration homes rounds failed log first why now

-- what holds of the first stop where a run ended with it
abbrev pub IfStopped : RunEnd → (Halt → Type 0) → Type 0
IfStopped run.Finished holds = ⊤
IfStopped run.Held holds = ⊤
IfStopped (run.Stopped halt) holds = holds halt
IfStopped (run.NoPort switch) holds = ⊤
IfStopped run.Memory holds = ⊤
