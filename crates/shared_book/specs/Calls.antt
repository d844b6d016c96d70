-- What the calls of a shared book make of its history, from any thread.
use Rattle.std.specs.Prelude.{◌≡◌, ℕ, true, List, [], ◌∷◌, ◌++◌, if◌then◌else◌}
use Rattle.rollout_rules.specs.declared.op.Op.{Op}
use Rattle.turn_lock.specs.declared.counted.Counted.{Ghosts}
use Rattle.turn_lock.specs.declared.pass.Pass.{Pass}
use Rattle.turn_lock.specs.Histories.{Follows}
use Rattle.turn_lock.specs.Passes.{seat_of_pass, seen_of}
use Rattle.wan_edge.specs.Frames.{Command}
use Rattle.shared_book.specs.declared.note.Cause.{Cause}
use Rattle.shared_book.specs.declared.note.What.TheVariants as what
use Rattle.shared_book.specs.declared.note.Written.{Written}
use Rattle.shared_book.specs.declared.call_reply.Halt.{Halt}
use Rattle.shared_book.specs.declared.call_reply.ListReply.{ListReply}
use Rattle.shared_book.specs.Notes.{calls_by, first_stop, has_asked}
use Rattle.shared_book.specs.Histories.{Opening, history_of}
use Rattle.shared_book.specs.Legal.{is_legal_shared}
use Rattle.shared_book.specs.Replies.{batch_at, list_reply, stop_reply}
use Rattle.shared_book.specs.Knows.{next_note}
use Rattle.shared_book.specs.declared.reply.RoundReply.{RoundReply}
use Rattle.shared_book.specs.Told.{commands_at, if_listed, with_noted, round_notes, list_notes, IsRoundAt, OnListTold}

-- whose a note is
abbrev pub seat_of : Written → ℕ
seat_of w = w.note.seat

-- so many calls of the pass's own seat are in what it has seen
abbrev pub IsCounted : {V : Type 0} {C : Ghosts V Written} → ℕ → Pass V Written C → Type 0
IsCounted calls p = calls ≡ calls_by (seat_of_pass p) (seen_of p)

-- A call of a round: after what these seats had seen others have notes, and then the round's note stands, if any was made. The
-- whole is legal, and what is told is what the history before that note says.
pub record IsRoundCall (o : Opening) (seats : List ℕ) (seat : ℕ) (seen : List Written) (answers : List Op) (reply : RoundReply) (after : List Written) : Type 0 where
  pub log : List Written
  pub past : Follows seat_of seats seen log
  pub noted : after ≡ with_noted seat log (round_notes reply) (batch_at o (history_of o log) answers)
  pub legal : is_legal_shared o after ≡ true
  pub told : IsRoundAt o log answers reply

-- A call that lists adds the commands of these switches after that history, unless a stop stands there.
pub record IsListCall (o : Opening) (seats : List ℕ) (seat : ℕ) (seen : List Written) (switches : List ℕ) (out out' : List Command) (reply : ListReply) (after : List Written) : Type 0 where
  pub log : List Written
  pub past : Follows seat_of seats seen log
  pub noted : after ≡ with_noted seat log (list_notes reply) []
  pub legal : is_legal_shared o after ≡ true
  pub told : OnListTold reply (reply ≡ list_reply (first_stop log))
  pub listed : out' ≡ out ++ if_listed reply (commands_at o log switches)

-- A call that asks that all stop. The seat's second one makes no note.
pub record IsStopCall (o : Opening) (seats : List ℕ) (seat : ℕ) (seen : List Written) (why : Cause) (halt : Halt) (after : List Written) : Type 0 where
  pub log : List Written
  pub past : Follows seat_of seats seen log
  pub noted : after ≡ (if has_asked seat log then log else log ++ next_note seat log (what.Stop why) [] ∷ [])
  pub legal : is_legal_shared o after ≡ true
  pub told : halt ≡ stop_reply log seat why
