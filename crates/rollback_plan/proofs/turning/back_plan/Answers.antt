use Rattle.std.proofs.Common.{◌≡◌, ◌-◌, ◌<◌, ◌∙◌, List, [], ◌∷◌, ◌++◌, length, slice_index_or, refl, ap, arith}
use Rattle.std.proofs.lemmas.List.{get_or_read_under}
use Rattle.rollout_rules.specs.Wan.{Plan, Stage, no_stage}
use Rattle.rollback_plan.proofs.Calls.{one-more}
use Rattle.rollback_plan.proofs.turning.back_plan.Goals as goal

pub loop-s-preserved : goal.loop-s-preserved
loop-s-preserved c =
    let gs = c.args.plan.now.stages in
    let s = c.loop-s.s in
    let read = c.index-stages-stages.result in
    let all : c.as_slice-stages.result.now ≡ gs = c.as_slice-stages.ensures ∙ ap (λ (x : Plan). x.stages) c.plan.view_is in
    let lt : s < length gs = omega (arith, ap length all) in
    let row = get_or_read_under gs (length gs - 1 - s) (length gs) read no_stage (c.index-stages-stages.is ∙ ap (λ xs. slice_index_or xs (length xs - 1 - s) read) all) (omega (arith, lt)) refl in
    c.in_ok-add_stage.ensures.ok ∙ ap (λ (x : Plan). record x { stages = x.stages ++ c.in_ok-stage.stage ∷ [] }) c.loop-s.invariant
    ∙ ap (λ (xs : List Stage). record c.args.plan.now { stages = xs }) (one-more gs s c.in_ok-stage.stage lt (c.in_ok-stage.ensures ∙ row))
