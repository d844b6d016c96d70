-- Why a worker was the first that stopped all.
use Rattle.std.specs.Prelude.{◌≡◌, ⊤, ℕ, ◌+◌, ◌-◌, ◌<◌, ◌≤◌, true, false, List, [], ◌∷◌, ◌++◌, length, All, Option, Some, IfSome, if◌then◌else◌}
use Rattle.std.specs.List.{Contains}
use Rattle.rollout_rules.specs.declared.op.Op.{Op}
use Rattle.rollout_rules.specs.declared.op.Entry.{Entry}
use Rattle.wan_edge.specs.Frames.{Answer, AnswerFrame, Command, IsAnswer, Splits, answer_bytes}
use Rattle.wan_edge.specs.Ports.{PortTrace}
use Rattle.wan_edge.specs.Streams.{Appends, Rose}
use Rattle.port_session.specs.Sessions.{SessionView}
use Rattle.shared_book.specs.declared.note.Cause.{Cause}
use Rattle.shared_book.specs.declared.note.Cause.TheVariants as cause
use Rattle.shared_book.specs.declared.note.What.TheVariants as what
use Rattle.shared_book.specs.declared.note.Written.{Written}
use Rattle.shared_book.specs.Histories.{Opening, history_of}
use Rattle.shared_book.specs.Knows.{next_note}
use Rattle.shared_book.specs.Legal.{begun_of, is_alien}
use Rattle.shared_book.specs.Replies.{asked_at}
use Rattle.shared_book.specs.Homes.{homes_of}
use Rattle.switch_ports.specs.Due.{any_late}
use Rattle.switch_ports.specs.Rows.{AtOne}
use Rattle.switch_ports.specs.Stories.{StoryEach}
use Rattle.switch_ports.specs.Views.{SessionTrace, view}
use Rattle.controller_run.specs.Exchanging.{Exchanges, StopsInHear}
use Rattle.controller_run.specs.Promises.{AreListed, IsToldAtHome, switches_of}
use Rattle.controller_run.specs.Working.{Standing, is_some_command}

-- how many rounds it makes that these commands are offered
abbrev pub offered_in : List Command → ℕ
offered_in commands = if is_some_command commands then 1 else 0

-- Whole rounds between the ports, one after the other: from these ports to the first of the row, and so on. In each the commands went out, and each port was
-- heard, so that one which awaited answers ended one, was quiet once, or wasn't ready and is late (`over` and `comes` of HearsOut). In exactly so many of them
-- some command was offered, and these are the answers that were told in all of them, in order.
abbrev pub AreHeardOut : {P : Type 0} → (P → PortTrace) → ℕ → List (Option ℕ) → List (List (SessionView P)) → ℕ → List Answer → List (SessionView P) → List (SessionView P) → Type 0
AreHeardOut tell migration homes [] count told before now = (count ≡ 0) × (told ≡ []) × (now ≡ before)
AreHeardOut tell migration homes (at ∷ later) count told before now =
    (commands : List Command) × (mine : List Answer) × (rest : ℕ) × (behind : List Answer) × Exchanges tell migration homes before commands mine at
    × (count ≡ rest + offered_in commands) × (told ≡ mine ++ behind) × AreHeardOut tell migration homes later rest behind at now

-- so many more than were told before, where the count is told still
abbrev pub IsMoreBy : ℕ → Option ℕ → Option ℕ → Type 0
IsMoreBy count before now = IfSome now (λ after. (count ≤ after) × (before ≡ Some (after - count)))

-- What came from a port, as far as it tells: so many whole answers, after what was kept, and quiet hears.
pub record Comes (count : ℕ) (before now : SessionTrace) : Type 0 where
  pub answers : List AnswerFrame
  pub quiets : ℕ
  pub count_is : count ≡ length answers + quiets
  pub bytes : List ℕ
  pub appended : Appends before.port.heard bytes now.port.heard
  pub whole : Splits answer_bytes IsAnswer (before.stream.kept ++ bytes) answers now.stream.kept
  pub quieter : IsMoreBy quiets before.port.quiet now.port.quiet

-- and so many from all ports together
abbrev pub ComesEach : {P : Type 0} → (P → PortTrace) → ℕ → List (SessionView P) → List (SessionView P) → Type 0
ComesEach tell count [] [] = count ≡ 0
ComesEach tell count [] (n ∷ ns) = ⊥
ComesEach tell count (b ∷ bs) [] = ⊥
ComesEach tell count (b ∷ bs) (n ∷ ns) = (mine : ℕ) × (rest : ℕ) × (count ≡ mine + rest) × Comes mine (view tell b) (view tell n) × ComesEach tell rest bs ns

-- at least so many
pub record HasCome {P : Type 0} (tell : P → PortTrace) (least : ℕ) (before now : List (SessionView P)) : Type 0 where
  pub count : ℕ
  pub each : ComesEach tell count before now
  pub enough : least ≤ count

-- an answer doesn't cover an operation: it is of another item, or its number is below the operation's
abbrev pub IsShortOf : Op → Answer → Type 0
IsShortOf op a = a.item ≡ op.item → a.held < op.number

-- Its rounds were spent: as many as were given, and in each some command had been listed. All went out, in exactly so many rounds, and after that no switch is
-- late, and an operation of its switches was in flight, which no answer covers that was told in them. Whole answers and quiet hears together are at least the
-- rounds, over the homes of the problem.
pub record Spends {P : Type 0} (tell : P → PortTrace) (o : Opening) (seat migration : ℕ) (homes : List (Option ℕ)) (rounds : ℕ) (before : Standing P) (given : ℕ) (op : Op) (now : Standing P) : Type 0 where
  pub given_is : given ≡ rounds
  pub more : List Written
  pub goes_on : now.seen ≡ before.seen ++ more
  pub listed : List Command
  pub lists : AreListed o seat (switches_of before.ports) before.seen more listed rounds
  pub sent : StoryEach tell migration homes listed before.ports now.ports
  pub due : any_late now.ports ≡ false
  pub rows : List (List (SessionView P))
  pub told : List Answer
  pub heard_out : AreHeardOut tell migration homes rows rounds told before.ports now.ports
  pub uncovered : All (IsShortOf op) told
  pub come : homes ≡ homes_of o.rollout.problem → HasCome tell rounds before.ports now.ports
  pub log : List Written
  pub later : List Written
  pub is : now.seen ≡ log ++ later
  pub flies : Contains (asked_at o.rollout.problem (history_of o log) (switches_of before.ports)) op

-- the port of a switch failed, and its count rose
abbrev pub FailedAt : ℕ → SessionTrace → SessionTrace → Type 0
FailedAt switch before now = (before.switch ≡ switch) × Rose before.port.faults now.port.faults

abbrev pub HasFailed : {P : Type 0} → (P → PortTrace) → ℕ → List (SessionView P) → List (SessionView P) → Type 0
HasFailed tell switch = AtOne (λ before now. FailedAt switch (view tell before) (view tell now))

-- After rounds that were heard out it stopped in the middle of hearing.
pub record HeardAmiss {P : Type 0} (tell : P → PortTrace) (migration : ℕ) (homes : List (Option ℕ)) (why : Cause) (before now : List (SessionView P)) : Type 0 where
  pub earlier : List Command
  pub at : List (SessionView P)
  pub story : StoryEach tell migration homes earlier before at
  pub commands : List Command
  pub stops : StopsInHear tell migration homes why at commands now

-- The port of an item's home told of an item that doesn't exist, or of an operation that wasn't begun at the history before the note of it.
pub record HeardAbove {P : Type 0} (tell : P → PortTrace) (o : Opening) (migration : ℕ) (homes : List (Option ℕ)) (before : Standing P) (item held begun : ℕ) (now : Standing P) : Type 0 where
  pub log : List Written
  pub later : List Written
  pub is : now.seen ≡ log ++ later
  pub alien : is_alien o.rollout.problem (history_of o log) (record { item = item; number = held }) ≡ true
  pub begun_is : begun ≡ begun_of o.rollout.problem (history_of o log) item
  pub told : IsToldAtHome tell migration homes before.ports (record { item = item; held = held }) now.ports

-- a note of the seat says that the disk failed
pub record SaysFailed (seat : ℕ) (seen : List Written) : Type 0 where
  pub log : List Written
  pub entries : List Entry
  pub later : List Written
  pub is : seen ≡ log ++ next_note seat log what.Disk entries ∷ later

-- why the first stop is this worker's
abbrev pub IsReason : {P : Type 0} → (P → PortTrace) → Opening → ℕ → ℕ → List (Option ℕ) → ℕ → Standing P → Cause → Standing P → Type 0
IsReason tell o seat migration homes rounds before (cause.Spent given item number) now = Spends tell o seat migration homes rounds before given (record { item = item; number = number }) now
IsReason tell o seat migration homes rounds before (cause.Port switch) now = HasFailed tell switch before.ports now.ports
IsReason tell o seat migration homes rounds before (cause.Above item held begun) now = HeardAbove tell o migration homes before item held begun now
IsReason tell o seat migration homes rounds before (cause.NotMine switch item) now = HeardAmiss tell migration homes (cause.NotMine switch item) before.ports now.ports
IsReason tell o seat migration homes rounds before (cause.NoAnswer switch byte) now = HeardAmiss tell migration homes (cause.NoAnswer switch byte) before.ports now.ports
IsReason tell o seat migration homes rounds before cause.Disk now = SaysFailed seat now.seen
IsReason tell o seat migration homes rounds before cause.Memory now = ⊤
