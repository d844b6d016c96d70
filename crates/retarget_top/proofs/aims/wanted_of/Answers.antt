use Rattle.std.proofs.Common.{inl, refl}
use Rattle.retarget_top.proofs.aims.wanted_of.Goals as goal

pub returns-in-Err : goal.returns-in-Err
returns-in-Err c = inl (record { ending = _; is = refl; gives = tt })
