use Rattle.text_commands.specs.Answers.{rollout_in}
use Rattle.swanroll_top.proofs.LookingOn.{text-turn, textless-turn}
use Rattle.swanroll_top.proofs.watching.look_once.Goals as goal

pub returns-in-Ok : goal.returns-in-Ok
returns-in-Ok g c =
    text-turn g.W.Source.told c.args.migration (rollout_in c.args.input.now) c.in-Ok.text c.args.last (g.K.Sink.told c.args.sink.now).written (g.K.Sink.told c.written_anew.new.sink).written c.written_anew.result c.in-Ok.ensures c.written_anew.ensures

pub returns-in-Err : goal.returns-in-Err
returns-in-Err g c =
    textless-turn g.W.Source.told c.args.migration (rollout_in c.args.input.now) c.args.last (g.K.Sink.told c.args.sink.now).written c.in-Err.why c.without_text.result c.without_text.ensures c.in-Err.ensures
