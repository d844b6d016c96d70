use Rattle.std.proofs.Common.{◌<◌, length, IfSome}
use Rattle.disk_mirror.specs.Images.{IsLeftAlone}
use Rattle.disk_model.proofs.Pieces.{IsFront}
use Rattle.disk_mirror.proofs.image.read_pieces.Given as goal

abbrev pub invariant-loop-turn : goal.invariant-loop-turn
invariant-loop-turn g l = record {
  some : 0 < length l.buffer;
  front : IfSome (g.D.Disk.told l.disk).bytes (IsFront l.image.items);
  alone : IsLeftAlone (g.D.Disk.told l.fn.disk) (g.D.Disk.told l.disk);
}
