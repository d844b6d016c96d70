use Rattle.std.proofs.Common.{Err, Ok, refl}
use Rattle.swanroll_top.proofs.LeftEnds.{ends-text}
use Rattle.swanroll_top.proofs.left.left_seen.Goals as goal

pub returns-in-Ok : goal.returns-in-Ok
returns-in-Ok g c = record {
  answer = Ok c.in-Ok.text;
  writes = c.in-Ok.ensures;
  ends = ends-text c.in-Ok.text c.as_str.result.now c.write_text.result (g.K.Sink.told c.args.sink.now) (g.K.Sink.told c.write_text.new.sink) c.as_str.ensures c.write_text.ensures.written c.write_text.ensures.cause;
}

pub returns-in-Err : goal.returns-in-Err
returns-in-Err g c = record { answer = Err c.in-Err.why; writes = c.in-Err.ensures; ends = (c.from.ensures, refl) }
