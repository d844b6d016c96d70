use Rattle.std.proofs.Common.{List, ℕ, Ok, subst}
use Rattle.text_commands.specs.Runs.{EndsWith}
use Rattle.swanroll_top.proofs.LookingOn.{written-turn}
use Rattle.swanroll_top.proofs.watching.write_turn.Goals as goal

pub returns : goal.returns
returns g c =
    written-turn c.args.text (g.K.Sink.told c.args.sink.now).written (g.K.Sink.told c.write_text-ending.new.sink).written c.write_text-ending.result c.after.result
    (subst (λ (text : List ℕ). EndsWith (Ok text) c.write_text-ending.result (g.K.Sink.told c.args.sink.now).written (g.K.Sink.told c.write_text-ending.new.sink).written) c.as_str.ensures c.write_text-ending.ensures.written)
    c.after.ensures
