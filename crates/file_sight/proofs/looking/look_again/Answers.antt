use Rattle.file_sight.proofs.Readings.{seen_again, unseen_again}
use Rattle.file_sight.proofs.looking.look_again.Goals as goal

pub returns-in-Ok : goal.returns-in-Ok
returns-in-Ok g c = λ before read.
    seen_again g.W.Source.told c.args.limit before c.args.file.now c.read_file.new.file c.args.bytes read c.in-Ok.later c.kept_where_still.result c.in-Ok.ensures
    c.kept_where_still.ensures.ok c.kept_where_still.ensures.err

pub returns-in-Err : goal.returns-in-Err
returns-in-Err g c = λ before read.
    unseen_again g.W.Source.told c.args.limit before c.args.file.now c.read_file.new.file c.args.bytes read c.in-Err.why c.in-Err.ensures
