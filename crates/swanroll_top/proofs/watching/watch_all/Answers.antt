use Rattle.std.proofs.Common.{List, ℕ, inl, inr, refl, subst}
use Rattle.text_commands.specs.Answers.{rollout_in}
use Rattle.swanroll_top.specs.Watches.{WatchesRollout}
use Rattle.text_commands.specs.declared.command_end.CommandEnd.TheVariants.{ReadFault}
use Rattle.swanroll_top.proofs.Seeing.{err-same}
use Rattle.swanroll_top.proofs.watching.watch_all.Goals as goal

pub returns-in-Ok : goal.returns-in-Ok
returns-in-Ok g c = inl (
  c.in-Ok.input,
  c.in-Ok.ensures.read,
  subst (λ (input : List ℕ). WatchesRollout g.W.Source.told c.args.asked.migration (rollout_in input) (g.K.Sink.told c.args.sink.now).written c.watch_input.result (g.K.Sink.told c.watch_input.new.sink).written) c.as_slice.ensures c.watch_input.ensures,
)

pub returns-in-Err : goal.returns-in-Err
returns-in-Err g c = inr (record { why = c.in-Err.ending; is = refl; cut = c.in-Err.ensures.read; cause = λ is. c.in-Err.ensures.cause (err-same c.in-Err.ending ReadFault is); silent = refl })
