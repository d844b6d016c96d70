use Rattle.std.proofs.Common.{inr, refl}
use Rattle.retarget_service.proofs.Writings.{known-empty}
use Rattle.retarget_top.proofs.Placings.{unbegun-placed}
use Rattle.retarget_top.proofs.placing.replace.Goals as goal

pub write_and_place-requires : goal.write_and_place-requires
write_and_place-requires g c = known-empty c.args.plan c.in-Ok.known.graph c.in-Ok.ensures.graph

pub returns-in-Ok : goal.returns-in-Ok
returns-in-Ok g c = record {
  network = c.checked_plan_is_valid.ensures.network;
  valid = c.checked_plan_is_valid.ensures.valid;
  writes = unbegun-placed g.D.Disk.told c.args.plan c.args.migration c.in-Ok.known c.args.disk c.write_and_place.result.disk c.write_and_place.result.ending _ _ c.in-Ok.ensures.graph c.in-Ok.ensures.digest c.write_and_place.ensures;
}

pub returns-in-Err : goal.returns-in-Err
returns-in-Err g c = record {
  network = c.checked_plan_is_valid.ensures.network;
  valid = c.checked_plan_is_valid.ensures.valid;
  writes = inr (_, refl, inr (refl, refl), refl);
}
