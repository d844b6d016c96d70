use Rattle.std.proofs.Common.{arith, inl, length, refl}
use Rattle.disk_model.proofs.Tearing.{Torn-none}
use Rattle.host_edge.proofs.file_disk.FileDiskDisk.write_at.Goals as goal

pub returns-clause-some : goal.returns-clause-some
returns-clause-some g c = record {
  told = refl;
  crash = λ image _. (image, tt, Torn-none c.args.at (length c.args.from.now) image);
  time = record { later = omega arith; keeps = λ t image before left. left; nothing_else = λ t image before left. inl left };
  count = c.count_failure.ensures.count;
}
