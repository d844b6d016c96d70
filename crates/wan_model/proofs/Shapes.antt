-- The stages of a plan that has its shape, and so of a valid one.
use Rattle.std.proofs.Common.{◌≡◌, ℕ, ◌+◌, ◌<◌, ◌≤◌, true, ◌&&◌, length, ap, arith, eqb-true, leb-true, nat_le, ◌==◌}
use Rattle.std.proofs.lemmas.Bool.{and_parts}
use Rattle.rollout_rules.specs.declared.limits.TheConstants.{MOST_STAGES, LARGEST_SCALE}
use Rattle.rollout_rules.specs.Sums.{all_below}
use Rattle.rollout_rules.specs.Wan.{Problem, Plan, Rollout, stage_at, last_stage, next_stage}
use Rattle.rollout_rules.specs.Valid.{is_valid_plan, has_shape, begins_at_old, ends_at_new, fits_each_step, carries_what_flows, keeps_totals}
use Rattle.rollout_rules.proofs.Below.{all_below-at}
use Rattle.wan_model.specs.Shaped.{IsShaped}

-- from the tests that the shape is made of
pub parts-IsShaped : (p : Problem) (plan : Plan) → plan.scale ≤ LARGEST_SCALE → 1 ≤ length plan.stages → length plan.stages ≤ MOST_STAGES
    → all_below (length plan.stages) (λ s. (length (stage_at plan s).rates == length p.tunnels) && (length (stage_at plan s).installed == length p.tunnels)) ≡ true → IsShaped p plan
parts-IsShaped p plan scale least most full = record {
  some = omega (arith, least);
  few = omega (arith, least, most);
  scale = scale;
  rates = λ s lt. eqb-true _ _ (and_parts _ _ (all_below-at (length plan.stages) _ full s lt)).0;
  marks = λ s lt. eqb-true _ _ (and_parts _ _ (all_below-at (length plan.stages) _ full s lt)).1;
}

shape-IsShaped : (p : Problem) (plan : Plan) → has_shape p plan ≡ true → IsShaped p plan
shape-IsShaped p plan shape =
    let scale = nat_le 1 plan.scale && nat_le plan.scale LARGEST_SCALE in
    let full = all_below (length plan.stages) (λ s. (length (stage_at plan s).rates == length p.tunnels) && (length (stage_at plan s).installed == length p.tunnels)) in
    let a = and_parts (scale && nat_le 1 (length plan.stages) && nat_le (length plan.stages) MOST_STAGES) full shape in
    let b = and_parts (scale && nat_le 1 (length plan.stages)) (nat_le (length plan.stages) MOST_STAGES) a.0 in
    let d = and_parts scale (nat_le 1 (length plan.stages)) b.0 in
    parts-IsShaped p plan (leb-true plan.scale LARGEST_SCALE (and_parts _ _ d.0).1) (leb-true 1 (length plan.stages) d.1) (leb-true (length plan.stages) MOST_STAGES b.1) a.1

pub valid-IsShaped : (p : Problem) (plan : Plan) → is_valid_plan p plan ≡ true → IsShaped p plan
valid-IsShaped p plan valid =
    let a = and_parts (has_shape p plan && begins_at_old p plan && ends_at_new p plan && fits_each_step p plan && carries_what_flows p plan) (keeps_totals p plan) valid in
    let b = and_parts (has_shape p plan && begins_at_old p plan && ends_at_new p plan && fits_each_step p plan) (carries_what_flows p plan) a.0 in
    let c = and_parts (has_shape p plan && begins_at_old p plan && ends_at_new p plan) (fits_each_step p plan) b.0 in
    let d = and_parts (has_shape p plan && begins_at_old p plan) (ends_at_new p plan) c.0 in
    shape-IsShaped p plan (and_parts (has_shape p plan) (begins_at_old p plan) d.0).0

-- what a plan that has its shape has at a stage, and at the one after
module _ (p : Problem) (plan : Plan) (shaped : IsShaped p plan) (s t : ℕ) (stage : s < length plan.stages) (tunnel : t < length p.tunnels) where
  pub shaped-rate : t < length (stage_at plan s).rates
  shaped-rate = omega (arith, shaped.rates s stage)

  pub shaped-rate_behind : t < length (stage_at plan (next_stage plan s)).rates
  shaped-rate_behind = omega (arith, shaped.rates (next_stage plan s) (omega arith))

  pub shaped-mark : t < length (stage_at plan s).installed
  shaped-mark = omega (arith, shaped.marks s stage)

  pub shaped-mark_behind : t < length (stage_at plan (next_stage plan s)).installed
  shaped-mark_behind = omega (arith, shaped.marks (next_stage plan s) (omega arith))

-- the same of a rollout that is seen as a valid plan
module _ (p : Problem) (plan : Plan) (r : Rollout) (valid : is_valid_plan p plan ≡ true) (same : p ≡ r.problem) (part : plan ≡ r.plan) (s t : ℕ) (stage : s ≤ last_stage r.plan) (tunnel : t < length r.problem.tunnels) where
  shaped : IsShaped p plan
  shaped = valid-IsShaped p plan valid

  inside : s < length plan.stages
  inside = omega (arith, shaped.some, ap last_stage part)

  there : t < length p.tunnels
  there = omega (arith, ap (λ q. length q.tunnels) same)

  pub rate_here : t < length (stage_at plan s).rates
  rate_here = shaped-rate p plan shaped s t inside there

  pub rate_behind : t < length (stage_at plan (next_stage plan s)).rates
  rate_behind = shaped-rate_behind p plan shaped s t inside there

  pub mark_here : t < length (stage_at plan s).installed
  mark_here = shaped-mark p plan shaped s t inside there

  pub mark_behind : t < length (stage_at plan (next_stage plan s)).installed
  mark_behind = shaped-mark_behind p plan shaped s t inside there
