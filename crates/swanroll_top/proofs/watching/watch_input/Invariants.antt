-- Reports were written, each another one than the one before, and this one last.
use Rattle.text_commands.specs.Answers.{rollout_in}
use Rattle.swanroll_top.specs.Watches.{Wrote}
use Rattle.swanroll_top.proofs.watching.watch_input.Given as goal

abbrev pub invariant-loop : goal.invariant-loop
invariant-loop g l = Wrote g.W.Source.told l.asked.migration (rollout_in l.input) (g.K.Sink.told l.fn.sink).written l.last (g.K.Sink.told l.sink).written
