use Rattle.std.proofs.Common.{ap, ◌∙◌}
use Rattle.rollout_rules.specs.History.{History, flies, no_start}
use Rattle.rollout_laws.proofs.Histories.{flies-started}
use Rattle.retarget_top.specs.Retargets.{kept_known}
use Rattle.retarget_top.proofs.Placings.{placed-places, unplaced-places}
use Rattle.retarget_top.proofs.placing.place_next.Goals as goal

pub place_known-disk-requires : goal.place_known-disk-requires
place_known-disk-requires g c = λ item inside. ap (λ (h : History). flies h item) c.requires ∙ flies-started (no_start c.args.known.graph.rollout.problem) item

pub returns-in-Ok : goal.returns-in-Ok
returns-in-Ok g c =
    placed-places g.D.Disk.told (kept_known c.args.known) c.args.disk c.place_known-disk.result.disk c.place_known-disk.ensures.may _ c.in-Ok.plan c.place_known-disk.result.answer c.in-Ok.is c.place_known-disk.ensures.placed

pub returns-in-Err : goal.returns-in-Err
returns-in-Err g c =
    unplaced-places g.D.Disk.told (kept_known c.args.known) c.args.disk c.place_known-disk.result.disk c.place_known-disk.ensures.may c.in-Err.cause c.from.result c.place_known-disk.result.answer c.in-Err.is c.from.ensures
    c.place_known-disk.ensures.err
