-- What comes of the answers of a round.
use Rattle.std.specs.Prelude.{◌≡◌, ◌⊎◌, ℕ, Bool, false, List, []}
use Rattle.rollout_rules.specs.declared.op.Op.{Op}
use Rattle.wan_edge.specs.Frames.{Answer}
use Rattle.rollout_book.specs.Aliens.{told_by}
use Rattle.rollout_book.specs.declared.turn.Turn.{Turn}
use Rattle.rollout_book.specs.declared.fault.BookFault.TheVariants as fault
use Rattle.shared_book.specs.declared.note.Cause.{Cause}
use Rattle.shared_book.specs.declared.note.Cause.TheVariants as cause
use Rattle.shared_book.specs.declared.note.Written.{Written}
use Rattle.shared_book.specs.declared.call_reply.Wake.{Wake}
use Rattle.shared_book.specs.declared.call_reply.Wake.TheVariants as wake
use Rattle.shared_book.specs.Histories.{Opening}
use Rattle.shared_book.specs.Calls.{IsRoundCall}
use Rattle.shared_book.specs.declared.reply.RoundReply.{RoundReply}
use Rattle.shared_book.specs.declared.reply.RoundReply.TheVariants as round
use Rattle.controller_run.specs.declared.round_end.RoundEnd.{RoundEnd}
use Rattle.controller_run.specs.declared.round_end.RoundEnd.TheVariants as outcome

-- a round that a stop has ended
abbrev pub EndsRound : Opening → List ℕ → ℕ → List Written → List Op → Wake → List Written → Type 0
EndsRound o seats seat log answers (wake.Work op) after = ⊥
EndsRound o seats seat log answers wake.Finished after = ⊥
EndsRound o seats seat log answers wake.Held after = ⊥
EndsRound o seats seat log answers (wake.Stopped halt) after = IsRoundCall o seats seat log answers (round.Stopped halt) after
EndsRound o seats seat log answers wake.Memory after = ⊥

-- a round that was refused, or found no memory
abbrev pub StopsRound : Opening → List ℕ → ℕ → List Written → List Op → Cause → List Written → Type 0
StopsRound o seats seat log answers (cause.Spent rounds item number) after = ⊥
StopsRound o seats seat log answers (cause.Port switch) after = ⊥
StopsRound o seats seat log answers (cause.Above item held begun) after = IsRoundCall o seats seat log answers (round.Refused (fault.Alien item held begun)) after
StopsRound o seats seat log answers (cause.NotMine switch item) after = ⊥
StopsRound o seats seat log answers (cause.NoAnswer switch byte) after = ⊥
StopsRound o seats seat log answers cause.Disk after = IsRoundCall o seats seat log answers (round.Refused fault.Disk) after
StopsRound o seats seat log answers cause.Memory after = IsRoundCall o seats seat log answers round.Memory after

-- what became of the round
abbrev pub IsSettled : Opening → List ℕ → ℕ → List Written → List Op → Bool → RoundEnd → List Written → Type 0
IsSettled o seats seat log answers offered (outcome.Whole some) after = (some ≡ offered) × ((turn : Turn) × IsRoundCall o seats seat log answers (round.Turned turn) after)
IsSettled o seats seat log answers offered (outcome.Ended end) after = EndsRound o seats seat log answers end after
IsSettled o seats seat log answers offered (outcome.Stops why) after = StopsRound o seats seat log answers why after

-- What became of a round in which nothing was offered: the book was told these answers, or there were none, and it was told nothing.
abbrev pub IsLateSettled : Opening → List ℕ → ℕ → List Written → List Answer → RoundEnd → List Written → Type 0
IsLateSettled o seats seat log answers given after = IsSettled o seats seat log (told_by answers) false given after ⊎ ((given ≡ outcome.Whole false) × (answers ≡ []) × (after ≡ log))
