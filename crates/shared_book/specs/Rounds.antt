-- What a round makes of a book that a stop may have ended, and what is told of it.
use Rattle.std.specs.Prelude.{◌≡◌, ℕ, List, Option, Some, None, Ok, Err}
use Rattle.rollout_rules.specs.declared.op.OpView.{OpView}
use Rattle.disk_model.specs.Traces.{DiskTrace}
use Rattle.wan_edge.specs.Frames.{Answer}
use Rattle.rollout_book.specs.JournaledRounds.{Journaled, IsRound}
use Rattle.shared_book.specs.declared.call_reply.Halt.{Halt}
use Rattle.shared_book.specs.declared.reply.RoundReply.{RoundReply}
use Rattle.shared_book.specs.declared.reply.RoundReply.TheVariants as round

-- before the first stop a round of the book, and none after it
abbrev pub IsRoundOf : {D : Type 0} → (D → DiskTrace) → Option Halt → (OpView → ℕ) → List Answer → Journaled D → RoundReply → Journaled D → Type 0
IsRoundOf trace halted policy answers old (round.Turned turn) new = (halted ≡ None) × IsRound trace policy answers old (Ok turn) new
IsRoundOf trace halted policy answers old (round.Refused why) new = (halted ≡ None) × IsRound trace policy answers old (Err why) new
IsRoundOf trace halted policy answers old (round.Stopped halt) new = (halted ≡ Some halt) × (new ≡ old)
IsRoundOf trace halted policy answers old round.Memory new = ⊥
