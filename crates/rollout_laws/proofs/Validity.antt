-- What a valid plan gives, stage by stage.
use Rattle.std.proofs.Common.{◌≡◌, ℕ, ◌+◌, ◌-◌, ◌*◌, ◌<◌, ◌≤◌, true, ◌&&◌, length, inl, inr, arith, leb-true, eqb-true, nat_le, is_some, ◌==◌}
use Rattle.std.proofs.lemmas.Bool.{and_parts, or_cases}
use Rattle.rollout_rules.specs.declared.limits.TheConstants.{MOST_STAGES, LARGEST_SCALE}
use Rattle.rollout_rules.specs.Wan.{Problem, Plan, tunnel_at, new_rate, rate_at, mark_at, stage_at, last_stage, next_stage}
use Rattle.rollout_rules.specs.Sums.{all_below}
use Rattle.rollout_rules.specs.Items.{Resource, is_resource, capacity_of}
use Rattle.rollout_rules.specs.Valid.{is_valid_plan, has_shape, begins_at_old, ends_at_new, fits_each_step, carries_what_flows, keeps_totals, step_total, is_carried_at}
use Rattle.rollout_rules.proofs.Below.{all_below-at}
use Rattle.rollout_rules.proofs.OverItems.{all_resources-at}
use Rattle.rollout_rules.proofs.Alike.{same_mark-is}

pub record IsValid (p : Problem) (plan : Plan) : Type 0 where
  pub stages : last_stage plan + 1 ≡ length plan.stages
  pub step : (s : ℕ) → s ≤ last_stage plan → (r : Resource) → is_resource p r ≡ true → step_total p plan s r ≤ capacity_of p plan r
  pub carried : (s t : ℕ) → s ≤ last_stage plan → t < length p.tunnels → is_carried_at plan s t ≡ true
  pub new_rates : (t : ℕ) → t < length p.tunnels → rate_at plan (last_stage plan) t ≡ plan.scale * new_rate (tunnel_at p t)
  pub new_marks : (t : ℕ) → t < length p.tunnels → mark_at plan (last_stage plan) t ≡ is_some (tunnel_at p t).new

some_stage : (p : Problem) (plan : Plan) → has_shape p plan ≡ true → last_stage plan + 1 ≡ length plan.stages
some_stage p plan shape =
    let scale = nat_le 1 plan.scale && nat_le plan.scale LARGEST_SCALE in
    let rows = all_below (length plan.stages) (λ s. (length (stage_at plan s).rates == length p.tunnels) && (length (stage_at plan s).installed == length p.tunnels)) in
    let a = and_parts (scale && nat_le 1 (length plan.stages) && nat_le (length plan.stages) MOST_STAGES) rows shape in
    let b = and_parts (scale && nat_le 1 (length plan.stages)) (nat_le (length plan.stages) MOST_STAGES) a.0 in
    let least = leb-true 1 (length plan.stages) (and_parts scale (nat_le 1 (length plan.stages)) b.0).1 in
    omega (arith, least)

pub plan-is_valid : (p : Problem) (plan : Plan) → is_valid_plan p plan ≡ true → IsValid p plan
plan-is_valid p plan valid =
    let a = and_parts (has_shape p plan && begins_at_old p plan && ends_at_new p plan && fits_each_step p plan && carries_what_flows p plan) (keeps_totals p plan) valid in
    let b = and_parts (has_shape p plan && begins_at_old p plan && ends_at_new p plan && fits_each_step p plan) (carries_what_flows p plan) a.0 in
    let c = and_parts (has_shape p plan && begins_at_old p plan && ends_at_new p plan) (fits_each_step p plan) b.0 in
    let d = and_parts (has_shape p plan && begins_at_old p plan) (ends_at_new p plan) c.0 in
    let e = and_parts (has_shape p plan) (begins_at_old p plan) d.0 in
    let count = some_stage p plan e.0 in
    record {
      stages = count;
      step = λ s most r here. leb-true (step_total p plan s r) (capacity_of p plan r) (all_resources-at p (λ q. nat_le (step_total p plan s q) (capacity_of p plan q)) (all_below-at (length plan.stages) _ c.1 s (omega arith)) r here);
      carried = λ s t most lt. all_below-at (length p.tunnels) (is_carried_at plan s) (all_below-at (length plan.stages) _ b.1 s (omega arith)) t lt;
      new_rates = λ t lt. eqb-true _ _ (and_parts _ _ (all_below-at (length p.tunnels) _ d.1 t lt)).0;
      new_marks = λ t lt. same_mark-is _ _ (and_parts _ _ (all_below-at (length p.tunnels) _ d.1 t lt)).1;
    }

-- a tunnel that carries traffic at a stage is installed there, at the stage before and at the one behind
pub record IsInstalledAround (plan : Plan) (s t : ℕ) : Type 0 where
  pub before : mark_at plan (s - 1) t ≡ true
  pub here : mark_at plan s t ≡ true
  pub behind : mark_at plan (next_stage plan s) t ≡ true

pub carried-installed : (p : Problem) (plan : Plan) → IsValid p plan → (s t : ℕ) → s ≤ last_stage plan → t < length p.tunnels → 0 < rate_at plan s t → IsInstalledAround plan s t
carried-installed p plan valid s t most lt some = elim (or_cases (rate_at plan s t == 0) (mark_at plan (s - 1) t && mark_at plan s t && mark_at plan (next_stage plan s) t) (valid.carried s t most lt)) as (λ c. IsInstalledAround plan s t) [
  | inl none ↦ let zero : rate_at plan s t ≡ 0 = eqb-true (rate_at plan s t) 0 none in absurd (omega arith)
  | inr marks ↦
      let last = and_parts (mark_at plan (s - 1) t && mark_at plan s t) (mark_at plan (next_stage plan s) t) marks in
      let first = and_parts (mark_at plan (s - 1) t) (mark_at plan s t) last.0 in
      record { before = first.0; here = first.1; behind = last.1 }
]
