use Rattle.std.proofs.Common.{IfSome, Ok, subst}
use Rattle.text_commands.specs.Drawn.{IsReadBack}
use Rattle.text_commands.specs.Runs.{Follows}
use Rattle.text_commands.proofs.writing.write_told.Goals as goal

pub write_ready-requires : goal.write_ready-requires
write_ready-requires g c = c.in-Ok.ensures.ready

pub returns-clause-written : goal.returns-clause-written
returns-clause-written g c =
    subst (λ text. Follows (Ok text) c.write_ready.result (g.K.Sink.told c.args.sink.now).written (g.K.Sink.told c.write_ready.new.sink).written) c.in-Ok.ensures.text c.write_ready.ensures.written

pub returns-clause-read : goal.returns-clause-read
returns-clause-read g c = λ done. subst (λ drawn. IfSome drawn IsReadBack) c.in-Ok.ensures.drawn (c.write_ready.ensures.read done)
