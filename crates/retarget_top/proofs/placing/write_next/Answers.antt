use Rattle.std.proofs.Common.{◌∙◌}
use Rattle.retarget_top.specs.Retargets.{next_text}
use Rattle.retarget_top.proofs.Placings.{unwritten-end}
use Rattle.retarget_top.proofs.placing.write_next.Goals as goal

pub returns-in-Ok-clause-err : goal.returns-in-Ok-clause-err
returns-in-Ok-clause-err g c =
    unwritten-end (next_text c.args.plan.now) c.as_str.result.now c.write_text.result (g.K.Sink.told c.args.sink.now) (g.K.Sink.told c.write_text.new.sink) c.done.result (c.as_str.ensures ∙ c.in-Ok.ensures) c.done.ensures.err
    c.write_text.ensures.written c.write_text.ensures.cause
