use Rattle.std.proofs.Common.{◌∙◌, [], length, slice_index, refl, sym, ap, arith, eqb-true}
use Rattle.std.specs.Arc.{arc_value}
use Rattle.lists.proofs.Rows.{none_of_length_0}
use Rattle.rollout_rules.specs.Sums.{least_below}
use Rattle.dependency_graph.specs.Fits.{least_stand}
use Rattle.dependency_graph.proofs.StageCounts.{least-kept}
use Rattle.dependency_graph.proofs.progress.room.least_stage.Goals as goal

pub returns-then-is_empty : goal.returns-then-is_empty
returns-then-is_empty c =
    let r = arc_value c.progress.inside.index in
    let stages = c.progress.inside.stands.stages in
    let now = c.args.progress.now in
    let empty = none_of_length_0 c.args.ahead.now (eqb-true (length c.args.ahead.now) 0 (sym c.is_empty.ensures ∙ c.if-is_empty.true)) in
    c.least.ensures
    ∙ ap (λ m. least_below (length stages) m (slice_index stages)) c.progress.invariant.last
    ∙ least-kept r (record { rollout = r; settled = c.progress.inside.settled.items; begun = c.progress.inside.begun.items }) stages c.progress.invariant.stands
    ∙ ap (λ v. least_stand r v []) c.progress.view_is
    ∙ ap (λ q. least_stand q now []) (ap (λ v. v.rollout) c.progress.view_is ∙ sym c.requires.own)
    ∙ ap (least_stand c.args.plan.now now) (sym empty)
