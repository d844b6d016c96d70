use Rattle.std.proofs.Common.{Err, Ok, ap, refl}
use Rattle.retarget_top.specs.declared.ending.RetargetEnding.TheVariants.{Ended}
use Rattle.retarget_top.proofs.retargeting.retarget_opened.Goals as goal

pub returns-in-Ok : goal.returns-in-Ok
returns-in-Ok g c = record {
  image = Ok c.in-Ok.image;
  read = c.read_image.new.disk;
  reads = record { all = c.in-Ok.ensures.read; quiet = c.read_image.ensures.quiet; failed = tt };
  ends = c.retarget_image.ensures;
}

pub returns-in-Err : goal.returns-in-Err
returns-in-Err g c = record {
  image = Err c.in-Err.cause;
  read = c.read_image.new.disk;
  reads = record { all = tt; quiet = c.read_image.ensures.quiet; failed = c.in-Err.ensures.cause };
  ends = (ap Ended c.from.ensures, record { disk_is = refl; sink_is = refl });
}
