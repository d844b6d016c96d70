-- What the calls of a shared book are told, and what they note of it.
use Rattle.std.specs.Prelude.{◌≡◌, ⊤, ℕ, List, [], ◌∷◌, ◌++◌, Option, Some, None}
use Rattle.rollout_rules.specs.declared.op.Op.{Op}
use Rattle.rollout_rules.specs.declared.op.Entry.{Entry}
use Rattle.rollout_rules.specs.World.{in_flight}
use Rattle.wan_edge.specs.Frames.{Command}
use Rattle.rollout_book.specs.Commands.{asked}
use Rattle.rollout_book.specs.declared.fault.BookFault.{BookFault}
use Rattle.rollout_book.specs.declared.fault.BookFault.TheVariants as fault
use Rattle.shared_book.specs.declared.note.What.{What}
use Rattle.shared_book.specs.declared.note.What.TheVariants as what
use Rattle.shared_book.specs.declared.note.Written.{Written}
use Rattle.shared_book.specs.declared.call_reply.Halt.{Halt}
use Rattle.shared_book.specs.declared.call_reply.ListReply.{ListReply}
use Rattle.shared_book.specs.declared.call_reply.ListReply.TheVariants as list
use Rattle.shared_book.specs.Notes.{first_stop}
use Rattle.shared_book.specs.Histories.{Opening, history_of}
use Rattle.shared_book.specs.Replies.{batch_at, round_says, turned}
use Rattle.shared_book.specs.Knows.{next_note}
use Rattle.shared_book.specs.declared.reply.RoundReply.{RoundReply}
use Rattle.shared_book.specs.declared.reply.RoundReply.TheVariants as round

-- what is noted of a reply; nothing where memory ran out
abbrev pub fault_notes : BookFault → What
fault_notes (fault.Alien item held begun) = what.Alien item held begun
fault_notes fault.Disk = what.Disk

abbrev pub round_notes : RoundReply → Option What
round_notes (round.Turned turn) = Some (what.Turned turn.dones turn.begins)
round_notes (round.Refused why) = Some (fault_notes why)
round_notes (round.Stopped halt) = Some what.Stopped
round_notes round.Memory = None

abbrev pub list_notes : ListReply → Option What
list_notes list.Listed = Some what.Listed
list_notes (list.Stopped halt) = Some what.Stopped
list_notes list.Memory = None

-- the entries that come with a note of a round, whose batch this is
abbrev pub brought : What → List Entry → List Entry
brought (what.Turned dones begins) es = es
brought (what.Alien item held begun) es = []
brought what.Disk es = es
brought what.Listed es = []
brought what.Work es = []
brought what.Finished es = []
brought what.Held es = []
brought what.Stopped es = []
brought (what.Stop why) es = []

-- a history with what was noted of a seat's call
abbrev pub with_noted : ℕ → List Written → Option What → List Entry → List Written
with_noted seat log None es = log
with_noted seat log (Some said) es = log ++ next_note seat log said (brought said es) ∷ []

-- What a round is told: what the history says before its note, with the first stop; and the disk fails only where it would have
-- turned.
abbrev pub IsFaultAt : BookFault → What → List Entry → Type 0
IsFaultAt (fault.Alien item held begun) says es = says ≡ what.Alien item held begun
IsFaultAt fault.Disk says es = says ≡ turned es

abbrev pub IsRoundAt : Opening → List Written → List Op → RoundReply → Type 0
IsRoundAt o log answers (round.Turned turn) = (first_stop log ≡ None) × (round_says o log answers ≡ what.Turned turn.dones turn.begins)
IsRoundAt o log answers (round.Refused why) = (first_stop log ≡ None) × IsFaultAt why (round_says o log answers) (batch_at o (history_of o log) answers)
IsRoundAt o log answers (round.Stopped halt) = first_stop log ≡ Some halt
IsRoundAt o log answers round.Memory = ⊤

-- what holds of a call that lists and is told something
abbrev pub OnListTold : ListReply → Type 0 → Type 0
OnListTold list.Listed holds = holds
OnListTold (list.Stopped halt) holds = holds
OnListTold list.Memory holds = ⊤

-- the commands of the operations of these switches that are in flight after a history, by item
abbrev pub commands_at : Opening → List Written → List ℕ → List Command
commands_at o log switches = asked o.rollout switches (in_flight o.rollout.problem (history_of o log))

-- what is added to a list of commands
abbrev pub if_listed : {A : Type 0} → ListReply → List A → List A
if_listed list.Listed commands = commands
if_listed (list.Stopped halt) commands = []
if_listed list.Memory commands = []

-- whether the disk failed in a round
abbrev pub OnFailed : RoundReply → Type 0 → Type 0
OnFailed (round.Turned turn) holds = ⊤
OnFailed (round.Refused (fault.Alien item held begun)) holds = ⊤
OnFailed (round.Refused fault.Disk) holds = holds
OnFailed (round.Stopped halt) holds = ⊤
OnFailed round.Memory holds = ⊤

-- what holds where memory ran out
abbrev pub OnWant : RoundReply → Type 0 → Type 0
OnWant (round.Turned turn) holds = ⊤
OnWant (round.Refused why) holds = ⊤
OnWant (round.Stopped halt) holds = ⊤
OnWant round.Memory holds = holds

abbrev pub OnListWant : ListReply → Type 0 → Type 0
OnListWant list.Listed holds = ⊤
OnListWant (list.Stopped halt) holds = ⊤
OnListWant list.Memory holds = holds

-- how many notes that is
abbrev pub noted_count : Option What → ℕ
noted_count None = 0
noted_count (Some said) = 1
