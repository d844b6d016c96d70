use Rattle.std.proofs.Common.{rules}
use Rattle.disk_mirror.proofs.Pieces.{reads_told}
use Rattle.disk_mirror.proofs.image.read_more.Goals as goal

pub returns-clause-read : goal.returns-clause-read
returns-clause-read g c =
    reads_told (g.D.Disk.told c.args.disk.now).bytes (g.D.Disk.told c.read_at.new.self).bytes _ _ c.read_at.new.into _ c.len.result c.read_at.ensures.nothing.same (search rules) (search rules) c.in_ok-n.ensures.given c.in_ok-n.ensures.end
