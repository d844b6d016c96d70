use Rattle.std.proofs.Common.{rules}
use Rattle.disk_mirror.proofs.Tying.{write_done, write_failed}
use Rattle.disk_mirror.proofs.both.write_both.Goals as goal

pub returns-in_err-write_at-clause-mirrors : goal.returns-in_err-write_at-clause-mirrors
returns-in_err-write_at-clause-mirrors g c =
    write_failed c.args.at c.args.from.now (g.D.Disk.told c.args.disk.now) (g.D.Disk.told c.write_at.new.self) c.args.course.now c.write.new.self (search rules) c.requires.mirrors c.write_at.ensures.some

pub returns-clause-mirrors : goal.returns-clause-mirrors
returns-clause-mirrors g c =
    write_done c.args.at c.args.from.now (g.D.Disk.told c.args.disk.now) (g.D.Disk.told c.write_at.new.self) c.args.course.now c.write.new.self (search rules) c.requires.mirrors c.write_at.ensures.some c.in_ok-write_at.ensures.written
