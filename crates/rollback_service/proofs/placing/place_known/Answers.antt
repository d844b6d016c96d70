use Rattle.rollback_service.proofs.placing.place_known.Goals as goal

pub returns-in-Ok-clause-may : goal.returns-in-Ok-clause-may
returns-in-Ok-clause-may g c = record { any_moment = c.place.ensures.any_moment; told = c.place.ensures.told; count = c.place.ensures.count }

pub returns-in-Ok-clause-placed : goal.returns-in-Ok-clause-placed
returns-in-Ok-clause-placed g c = (c.into_plan.ensures, c.in-Ok.ensures.done)

pub returns-in-Err-clause-may : goal.returns-in-Err-clause-may
returns-in-Err-clause-may g c = record { any_moment = c.place.ensures.any_moment; told = c.place.ensures.told; count = c.place.ensures.count }

pub returns-in-Err-clause-err : goal.returns-in-Err-clause-err
returns-in-Err-clause-err g c = record { why = c.in-Err.ensures.cause; unwritten = c.in-Err.ensures.unwritten }
