use Rattle.std.proofs.Common.{◌≡◌, ℕ, ap, ◌∙◌}
use Rattle.std.specs.Prelude.{◌/◌}
use Rattle.rollout_rules.specs.History.{Places, places_of}
use Rattle.retarget_plan.specs.Aiming.{aimed_capacities}
use Rattle.retarget_plan.specs.Left.{factor_of}
use Rattle.retarget_plan.proofs.Aimings.{aimed-parts, aimed-rows}
use Rattle.retarget_plan.proofs.aiming.small_aimed.Goals as goal

pub aimed_rates-requires-clause-factor : goal.aimed_rates-requires-clause-factor
aimed_rates-requires-clause-factor c = c.factor_of-factor.ensures.value ∙ ap (λ (d : ℕ). c.args.plan.now.plan.scale / d) c.divisor_of-divisor.ensures.value

pub aimed_rates-requires-clause-old : goal.aimed_rates-requires-clause-old
aimed_rates-requires-clause-old c = c.as_slice.ensures ∙ c.in_ok-old.ensures

pub make_problem-requires : goal.make_problem-requires
make_problem-requires c =
    let r = c.args.plan.now in
    let at : Places = places_of r.problem c.args.graph.now.history in
    let units : c.factor_of-factor.result ≡ factor_of r.problem r.plan at = c.factor_of-factor.ensures.value ∙ ap (λ (d : ℕ). r.plan.scale / d) c.divisor_of-divisor.ensures.value in
    aimed-rows r.problem r.plan at c.args.aim.now c.as_slice-2.result.now c.as_slice-3.result.now c.as_slice-4.result.now
    (c.as_slice-2.ensures ∙ c.in_ok-capacities.ensures ∙ ap (aimed_capacities r.problem c.args.aim.now) units) (c.as_slice-3.ensures ∙ c.in_ok-old.ensures) (c.as_slice-4.ensures ∙ c.in_ok-new.ensures)

pub returns : goal.returns
returns c =
    let r = c.args.plan.now in
    let at : Places = places_of r.problem c.args.graph.now.history in
    let units : c.factor_of-factor.result ≡ factor_of r.problem r.plan at = c.factor_of-factor.ensures.value ∙ ap (λ (d : ℕ). r.plan.scale / d) c.divisor_of-divisor.ensures.value in
    aimed-parts r.problem r.plan at c.args.aim.now c.as_slice-2.result.now c.as_slice-3.result.now c.as_slice-4.result.now
    (c.as_slice-2.ensures ∙ c.in_ok-capacities.ensures ∙ ap (aimed_capacities r.problem c.args.aim.now) units) (c.as_slice-3.ensures ∙ c.in_ok-old.ensures) (c.as_slice-4.ensures ∙ c.in_ok-new.ensures)
    c.make_problem.result c.make_problem.ensures
