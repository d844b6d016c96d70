use Rattle.file_sight.proofs.Readings.{unseen_first}
use Rattle.file_sight.proofs.looking.look.Goals as goal

pub returns-in-Ok : goal.returns-in-Ok
returns-in-Ok g c = c.look_again.ensures c.args.file.now c.in-Ok.ensures

pub returns-in-Err : goal.returns-in-Err
returns-in-Err g c = unseen_first g.W.Source.told c.args.limit c.args.file.now c.read_file.new.file c.in-Err.why c.in-Err.ensures
