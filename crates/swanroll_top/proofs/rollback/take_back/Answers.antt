use Rattle.std.proofs.Common.{◌∙◌, refl, sym, ap}
use Rattle.swanroll_top.specs.Rollouts.{may_end}
use Rattle.swanroll_top.proofs.Outcomes.{journal-may, journal-not-cut}
use Rattle.swanroll_top.proofs.Reverting.{placed-takes, unplaced-takes}
use Rattle.swanroll_top.proofs.rollback.take_back.Goals as goal

pub returns-in-Ok-clause-takes : goal.returns-in-Ok-clause-takes
returns-in-Ok-clause-takes g c =
    placed-takes g.D.Disk.told c.args.plan c.args.migration c.args.start c.args.disk c.place_back-disk.result.disk c.place_back-disk.result.answer
    c.place_back-disk.ensures.seen c.place_back-disk.ensures.may c.in-Ok.there c.write_back.result _ _ c.in-Ok.is c.place_back-disk.ensures.placed c.write_back.ensures.follows

pub returns-in-Err-clause-takes : goal.returns-in-Err-clause-takes
returns-in-Err-clause-takes g c =
    unplaced-takes g.D.Disk.told c.args.plan c.args.migration c.args.start c.args.disk c.place_back-disk.result.disk c.place_back-disk.result.answer
    c.place_back-disk.ensures.seen c.place_back-disk.ensures.may c.in-Err.cause c.from.result _ c.in-Err.is c.place_back-disk.ensures.err c.from.ensures

pub returns-in-Err-clause-ends : goal.returns-in-Err-clause-ends
returns-in-Err-clause-ends g c = record { may = ap may_end c.from.ensures ∙ journal-may c.in-Err.cause; silent = λ zero seven. refl }

pub returns-in-Err-clause-write_fault : goal.returns-in-Err-clause-write_fault
returns-in-Err-clause-write_fault g c = λ e. absurd (journal-not-cut c.in-Err.cause (sym c.from.ensures ∙ e))
