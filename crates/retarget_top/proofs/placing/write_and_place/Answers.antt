use Rattle.std.proofs.Common.{inl, inr, refl, subst}
use Rattle.rollout_rules.specs.Wan.{Rollout}
use Rattle.wan_edge.specs.Streams.{Appends}
use Rattle.retarget_top.specs.Retargets.{IsUnwritten, next_text}
use Rattle.retarget_top.proofs.placing.write_and_place.Goals as goal

pub returns-in-Ok : goal.returns-in-Ok
returns-in-Ok g c =
    inl (subst (λ (r : Rollout). Appends (g.K.Sink.told c.args.sink.now).written (next_text r) (g.K.Sink.told c.write_next.new.sink).written) c.plan.ensures c.in-Ok.ensures.ok, c.place_next.ensures)

pub returns-in-Err : goal.returns-in-Err
returns-in-Err g c =
    inr (c.in-Err.ending, refl, subst (λ (r : Rollout). IsUnwritten (next_text r) c.in-Err.ending (g.K.Sink.told c.args.sink.now) (g.K.Sink.told c.write_next.new.sink)) c.plan.ensures c.in-Err.ensures.err, refl)
