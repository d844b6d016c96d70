-- How `left` ends, by what was read, seen and written.
use Rattle.std.proofs.Common.{◌≡◌, ℕ, List, Ok, inl, inr, ap, subst}
use Rattle.wan_edge.specs.Streams.{Rose, SinkTrace}
use Rattle.swanroll_top.specs.LeftPromise.{EndsLeft}
use Rattle.text_commands.specs.Runs.{EndsWith}
use Rattle.text_commands.specs.declared.command_end.CommandEnd.{CommandEnd}
use Rattle.text_commands.specs.declared.command_end.CommandEnd.TheVariants.{WriteFault}
use Rattle.swanroll_top.specs.declared.left.LeftEnd.TheVariants.{Ended}

module _ (text : List ℕ) (e : CommandEnd) (sink sink_now : SinkTrace) where
  by_end : EndsWith (Ok text) e sink.written sink_now.written → (e ≡ WriteFault → Rose sink.faults sink_now.faults) → EndsLeft (Ok text) (Ended e) sink sink_now
  by_end (inl done) cause = inl (ap Ended done.0, done.1)
  by_end (inr cut) cause = inr (ap Ended cut.0, cut.1, cause cut.0)

pub ends-text : (text other : List ℕ) (e : CommandEnd) (sink sink_now : SinkTrace) → other ≡ text → EndsWith (Ok other) e sink.written sink_now.written → (e ≡ WriteFault → Rose sink.faults sink_now.faults) → EndsLeft (Ok text) (Ended e) sink sink_now
ends-text text other e sink sink_now same ends cause = by_end text e sink sink_now (subst (λ (t : List ℕ). EndsWith (Ok t) e sink.written sink_now.written) same ends) cause
