use Rattle.std.proofs.Common.{◌<◌, ◌≤◌, length, IfSome}
use Rattle.disk_model.specs.Whole.{IsQuiet}
use Rattle.disk_model.proofs.Pieces.{IsFront}
use Rattle.disk_model.proofs.whole.read_pieces.Given as goal

abbrev pub invariant-loop-turn : goal.invariant-loop-turn
invariant-loop-turn g l = record {
  some : 0 < length l.buffer;
  front : IfSome (g.D.Disk.told l.fn.disk).bytes (IsFront l.image);
  quiet : IsQuiet g.D.Disk.told l.fn.disk l.disk;
  count : (g.D.Disk.told l.fn.disk).faults ≤ (g.D.Disk.told l.disk).faults;
}
