-- A session with a port, and what hearing in a round comes to.
use Rattle.std.specs.Prelude.{◌≡◌, ◌⊎◌, ℕ, ◌*◌, ◌-◌, ◌<◌, ◌≤◌, ◌==◌, false, if◌then◌else◌, List, ◌++◌, length, Option, None, IsTrue}
use Rattle.std.specs.Bool.{OnTrue}
use Rattle.wan_edge.specs.Frames.{Answer, AnswerFrame, IsAnswer, Splits, answer_bytes}
use Rattle.wan_edge.specs.Ports.{IsOneMore, NothingToCome, PortTrace}
use Rattle.wan_edge.specs.Streams.{Appends}
use Rattle.port_session.specs.Reading.{ReadsAnswers, Reckoning, Stream, fresh_stream, reckoned}
use Rattle.port_session.specs.declared.fault.SessionFault.{SessionFault}

-- the switch, its port, and where one stands in the port's answers
pub record SessionView (P : Type 0) : Type 0 where
  pub switch : ℕ
  pub port : P
  pub stream : Stream

-- before the first round
abbrev pub first_session : {P : Type 0} → ℕ → P → SessionView P
first_session switch port = record { switch = switch; port = port; stream = fresh_stream }

-- where so many answers are awaited
abbrev pub awaiting : {P : Type 0} → SessionView P → P → ℕ → SessionView P
awaiting talk port count = record { switch = talk.switch; port = port; stream = record { kept = talk.stream.kept; live = talk.stream.live; awaited = count } }

-- How many answers are awaited after an offer of so many commands. Where none went out, what was awaited is awaited still.
abbrev pub awaited_behind : ℕ → ℕ → ℕ
awaited_behind before count = if count == 0 then before else count

-- the bytes that were heard, where they are told, and what is made of them
pub record Listening : Type 0 where
  pub heard : Option (List ℕ)
  pub reckoning : Reckoning

abbrev pub listening : Option (List ℕ) → Stream → List Answer → Listening
listening heard stream told = record { heard = heard; reckoning = reckoned stream told }

-- the same apart from how many answers are awaited
abbrev pub uncounted : Option (List ℕ) → Stream → List Answer → Listening
uncounted heard stream told = record { heard = heard; reckoning = record { kept = stream.kept; awaited = 0; told = told } }

-- these bytes were newly heard, and the answers that end in them read
pub record HearsAnswers (migration : ℕ) (before : Listening) (fault : Option SessionFault) (now : Listening) : Type 0 where
  pub bytes : List ℕ
  pub appended : Appends before.heard bytes now.heard
  pub reads : ReadsAnswers migration before.reckoning bytes fault now.reckoning

-- All answers that were awaited were read, of which there may be more, and the port was never quiet.
pub record IsAllRead (read awaited left : ℕ) (before now : PortTrace) : Type 0 where
  pub none_left : left ≡ 0
  pub enough : awaited ≤ read
  pub as_quiet : now.quiet ≡ before.quiet

-- The port was quiet once: its time limit has passed, and no answer is awaited any more.
pub record WasQuiet (left : ℕ) (before now : PortTrace) : Type 0 where
  pub none_left : left ≡ 0
  pub quieter : IsOneMore before.quiet now.quiet

-- The port wasn't ready, and was never quiet. The answers that weren't read are awaited still: the switch is late. No prompt port is so.
pub record StaysLate (read awaited left : ℕ) (before now : PortTrace) : Type 0 where
  pub some_left : 0 < left
  pub left_is : left ≡ awaited - read
  pub as_quiet : now.quiet ≡ before.quiet
  pub waits : IsOneMore before.waits now.waits
  pub unprompt : before.prompt ≡ false

-- How hearing ended, where so many answers were read of those awaited, and so many are awaited after it.
abbrev pub IsOver : ℕ → ℕ → ℕ → PortTrace → PortTrace → Type 0
IsOver read awaited left before now = IsAllRead read awaited left before now ⊎ (WasQuiet left before now ⊎ StaysLate read awaited left before now)

-- in the bytes newly heard, after what was kept, at least one whole answer ends
pub record EndsAnswer (kept : List ℕ) (before now : Option (List ℕ)) : Type 0 where
  pub bytes : List ℕ
  pub appended : Appends before bytes now
  pub answers : List AnswerFrame
  pub rest : List ℕ
  pub whole : Splits answer_bytes IsAnswer (kept ++ bytes) answers rest
  pub some : 0 < length answers

-- Hearing ended without a fault, and the answers that end in what came were read. Where answers were awaited, and none is any more, one ended or the
-- port was quiet; more may be heard; and a prompt port has given all that were awaited, or all that it had.
pub record IsHeard (migration : ℕ) (before : PortTrace) (stream : Stream) (earlier : List Answer) (now : PortTrace) (stream_now : Stream) (all : List Answer) : Type 0 where
  pub hears : HearsAnswers migration (uncounted before.heard stream earlier) None (uncounted now.heard stream_now all)
  pub over : IsOver (length hears.reads.answers) stream.awaited stream_now.awaited before now
  pub comes : 0 < stream.awaited → stream_now.awaited ≡ 0 → EndsAnswer stream.kept before.heard now.heard ⊎ IsOneMore before.quiet now.quiet
  pub live : IsTrue stream_now.live
  pub all_given : OnTrue before.prompt ((stream.awaited ≤ length hears.reads.answers) ⊎ NothingToCome before.start now.offered now.heard)

-- how many bytes are missing to the end of the last answer that is awaited
abbrev pub missing : Stream → ℕ
missing stream = 13 * stream.awaited - length stream.kept
