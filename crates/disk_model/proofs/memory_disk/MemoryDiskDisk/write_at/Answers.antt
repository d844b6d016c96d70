use Rattle.std.proofs.Common.{rules}
use Rattle.disk_model.proofs.Passing.{write_leaves}
use Rattle.disk_model.proofs.memory_disk.MemoryDiskDisk.write_at.Goals as goal

pub returns-clause-crash : goal.returns-clause-crash
returns-clause-crash c =
    write_leaves c.args.at c.args.from.now c.args.self.now.timeline c.if-fails_now.self-inside.timeline c.if-failed.result (search rules) (search rules)
