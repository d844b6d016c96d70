use Rattle.file_sight.proofs.Readings.{not_read}
use Rattle.file_sight.proofs.looking.read_file.Goals as goal

pub returns-in-Ok : goal.returns-in-Ok
returns-in-Ok g c = record { first = c.rewind.new.self; rewinds = c.rewind.ensures; all = c.in-Ok.ensures.read }

pub returns-in-Err : goal.returns-in-Err
returns-in-Err g c =
    not_read g.W.Source.told c.args.limit c.args.file.now c.rewind.new.self c.read_all.new.source c.rewind.ensures c.in-Err.why c.from.result c.from.ensures c.in-Err.ensures.read c.in-Err.ensures.cause
