use Rattle.std.proofs.Common.{◌≡◌, ℕ, ap, ◌∙◌}
use Rattle.std.specs.Prelude.{◌/◌}
use Rattle.rollout_rules.specs.History.{Places, places_of}
use Rattle.retarget_plan.specs.Left.{factor_of, scaled_capacities, scaled_targets}
use Rattle.retarget_plan.proofs.Leavings.{parts-left, parts-rows}
use Rattle.retarget_plan.proofs.leaving.small_left.Goals as goal

pub make_problem-requires : goal.make_problem-requires
make_problem-requires c =
    let r = c.args.plan.now in
    let at : Places = places_of r.problem c.args.graph.now.history in
    let units : c.factor_of-factor.result ≡ factor_of r.problem r.plan at = c.factor_of-factor.ensures.value ∙ ap (λ (d : ℕ). r.plan.scale / d) c.divisor_of-divisor.ensures.value in
    parts-rows r.problem r.plan at c.as_slice.result.now c.as_slice-2.result.now c.as_slice-3.result.now
    (c.as_slice.ensures ∙ c.in_ok-capacities.ensures ∙ ap (scaled_capacities r.problem) units) (c.as_slice-2.ensures ∙ c.in_ok-old.ensures) (c.as_slice-3.ensures ∙ c.in_ok-new.ensures ∙ ap (scaled_targets r.problem) units)

pub returns : goal.returns
returns c =
    let r = c.args.plan.now in
    let at : Places = places_of r.problem c.args.graph.now.history in
    let units : c.factor_of-factor.result ≡ factor_of r.problem r.plan at = c.factor_of-factor.ensures.value ∙ ap (λ (d : ℕ). r.plan.scale / d) c.divisor_of-divisor.ensures.value in
    parts-left r.problem r.plan at c.as_slice.result.now c.as_slice-2.result.now c.as_slice-3.result.now
    (c.as_slice.ensures ∙ c.in_ok-capacities.ensures ∙ ap (scaled_capacities r.problem) units) (c.as_slice-2.ensures ∙ c.in_ok-old.ensures) (c.as_slice-3.ensures ∙ c.in_ok-new.ensures ∙ ap (scaled_targets r.problem) units)
    c.make_problem.result c.make_problem.ensures
