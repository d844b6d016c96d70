use Rattle.std.proofs.Common.{[], inl, refl}
use Rattle.controller_run.proofs.working.work.Goals as goal

pub returns-in-Err-clause-worked : goal.returns-in-Err-clause-worked
returns-in-Err-clause-worked g c = inl (refl, ([], inl refl))
