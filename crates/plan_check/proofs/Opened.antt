-- What a valid plan says of its rates. Only this file opens the clauses P0 to P5 for planning, and it keeps no upper limit on scale or stages.
use Rattle.std.proofs.Common.{◌≡◌, ℕ, ◌+◌, ◌*◌, ◌<◌, ◌≤◌, min, max, Bool, true, ◌&&◌, length, subst, arith, leb-true, eqb-true, lt-ltb, nat_le, ◌==◌}
use Rattle.std.proofs.lemmas.Bool.{and_parts}
use Rattle.rollout_rules.specs.declared.limits.TheConstants.{MOST_STAGES, LARGEST_SCALE}
use Rattle.rollout_rules.specs.Sums.{all_below}
use Rattle.rollout_rules.specs.Wan.{Problem, Plan, tunnel_at, link_at, old_rate, new_rate, stage_at, rate_at, last_stage}
use Rattle.rollout_rules.specs.Items.{the_link, load, all_resources, capacity_of, greater_rate}
use Rattle.rollout_rules.specs.Valid.{is_valid_plan, has_shape, begins_at_old, ends_at_new, fits_each_step, carries_what_flows, keeps_totals, keeps_total_at, step_total, flow_total, old_total, new_total}
use Rattle.rollout_rules.specs.Network.{IsNetwork}
use Rattle.rollout_rules.proofs.Below.{all_below-at}
use Rattle.rollout_rules.proofs.OverItems.{all_resources-at}
use Rattle.rollout_rules.proofs.Totals.{step_total-load}

-- the rates lead from the old split to the new one, and each step from a stage on fits every link
pub record MovesWithin (p : Problem) (plan : Plan) : Type 0 where
  pub some : 1 ≤ plan.scale
  pub count : last_stage plan + 1 ≡ length plan.stages
  pub first : (t : ℕ) → t < length p.tunnels → rate_at plan 0 t ≡ plan.scale * old_rate (tunnel_at p t)
  pub last : (t : ℕ) → t < length p.tunnels → rate_at plan (last_stage plan) t ≡ plan.scale * new_rate (tunnel_at p t)
  pub links : (s l : ℕ) → s ≤ last_stage plan → l < length p.links → load p (greater_rate plan s) l ≤ (link_at p l).capacity * plan.scale
  pub least : (s f : ℕ) → s ≤ last_stage plan → f < length p.flows → min (old_total p plan f) (new_total p plan f) ≤ flow_total p (rate_at plan s) f
  pub most : (s f : ℕ) → s ≤ last_stage plan → f < length p.flows → flow_total p (rate_at plan s) f ≤ max (old_total p plan f) (new_total p plan f)

module _ (p : Problem) (plan : Plan) (shape : has_shape p plan ≡ true) where
  abbrev scales : Bool
  scales = nat_le 1 plan.scale && nat_le plan.scale LARGEST_SCALE

  abbrev full : Bool
  full = all_below (length plan.stages) (λ s. (length (stage_at plan s).rates == length p.tunnels) && (length (stage_at plan s).installed == length p.tunnels))

  counted : (scales && nat_le 1 (length plan.stages) && nat_le (length plan.stages) MOST_STAGES) ≡ true
  counted = (and_parts (scales && nat_le 1 (length plan.stages) && nat_le (length plan.stages) MOST_STAGES) full shape).0

  some_stages : (scales && nat_le 1 (length plan.stages)) ≡ true
  some_stages = (and_parts (scales && nat_le 1 (length plan.stages)) (nat_le (length plan.stages) MOST_STAGES) counted).0

  some_scale : 1 ≤ plan.scale
  some_scale =
      leb-true 1 plan.scale
      (and_parts (nat_le 1 plan.scale) (nat_le plan.scale LARGEST_SCALE) (and_parts scales (nat_le 1 (length plan.stages)) some_stages).0).0

  one_behind : last_stage plan + 1 ≡ length plan.stages
  one_behind =
      let least : 1 ≤ length plan.stages = leb-true 1 (length plan.stages) (and_parts scales (nat_le 1 (length plan.stages)) some_stages).1 in
      omega arith

-- the step maxima of all items on a link are its load at the larger rates
link_fits : (p : Problem) (plan : Plan) (s l : ℕ) → IsNetwork p → l < length p.links →
    all_resources p (λ r. nat_le (step_total p plan s r) (capacity_of p plan r)) ≡ true → load p (greater_rate plan s) l ≤ (link_at p l).capacity * plan.scale
link_fits p plan s l net lt fits =
    subst (λ n. n ≤ (link_at p l).capacity * plan.scale) (step_total-load p plan s l net)
    (leb-true (step_total p plan s (the_link l)) (capacity_of p plan (the_link l))
    (all_resources-at p (λ r. nat_le (step_total p plan s r) (capacity_of p plan r)) fits (the_link l) (lt-ltb l (length p.links) lt)))

pub moves_within : (p : Problem) (plan : Plan) → IsNetwork p → is_valid_plan p plan ≡ true → MovesWithin p plan
moves_within p plan net valid =
    let a = and_parts (has_shape p plan && begins_at_old p plan && ends_at_new p plan && fits_each_step p plan && carries_what_flows p plan) (keeps_totals p plan) valid in
    let b = and_parts (has_shape p plan && begins_at_old p plan && ends_at_new p plan && fits_each_step p plan) (carries_what_flows p plan) a.0 in
    let c = and_parts (has_shape p plan && begins_at_old p plan && ends_at_new p plan) (fits_each_step p plan) b.0 in
    let d = and_parts (has_shape p plan && begins_at_old p plan) (ends_at_new p plan) c.0 in
    let e = and_parts (has_shape p plan) (begins_at_old p plan) d.0 in
    let behind : last_stage plan + 1 ≡ length plan.stages = one_behind p plan e.0 in
    record {
      some = some_scale p plan e.0;
      count = behind;
      first = λ t lt. eqb-true _ _ (and_parts _ _ (all_below-at (length p.tunnels) _ e.1 t lt)).0;
      last = λ t lt. eqb-true _ _ (and_parts _ _ (all_below-at (length p.tunnels) _ d.1 t lt)).0;
      links = λ s l low lt. link_fits p plan s l net lt (all_below-at (length plan.stages) _ c.1 s (omega arith));
      least = λ s f low lt.
          leb-true (min (old_total p plan f) (new_total p plan f)) (flow_total p (rate_at plan s) f)
          (and_parts _ _ (all_below-at (length p.flows) (keeps_total_at p plan s) (all_below-at (length plan.stages) _ a.1 s (omega arith)) f lt)).0;
      most = λ s f low lt.
          leb-true (flow_total p (rate_at plan s) f) (max (old_total p plan f) (new_total p plan f))
          (and_parts _ _ (all_below-at (length p.flows) (keeps_total_at p plan s) (all_below-at (length plan.stages) _ a.1 s (omega arith)) f lt)).1;
    }
