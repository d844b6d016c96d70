-- Which plans are valid. The clauses have the names that the program prints, P0 to P5.
use Rattle.std.specs.Prelude.{ℕ, ◌-◌, ◌*◌, min, max, Bool, not, ◌&&◌, ◌||◌, length, is_some, nat_le, ◌==◌, if◌then◌else◌}
use Rattle.rollout_rules.specs.declared.limits.TheConstants.{MOST_STAGES, LARGEST_SCALE}
use Rattle.rollout_rules.specs.Sums.{sum_below, all_below}
use Rattle.rollout_rules.specs.Wan.{Problem, Plan, tunnel_at, flow_at, tunnel_of, old_rate, new_rate, stage_at, rate_at, mark_at, last_stage, next_stage}
use Rattle.rollout_rules.specs.Items.{Resource, sum_items, all_resources, capacity_of, step_maximum}

-- whether two marks are the same
abbrev pub same_mark : Bool → Bool → Bool
same_mark a b = if a then b else not b

-- P0: the scale and the number of stages are within their limits, and each stage has a rate and a mark per tunnel
abbrev pub has_shape : Problem → Plan → Bool
has_shape p plan =
    nat_le 1 plan.scale && nat_le plan.scale LARGEST_SCALE
    && nat_le 1 (length plan.stages) && nat_le (length plan.stages) MOST_STAGES
    && all_below (length plan.stages) (λ s.
    (length (stage_at plan s).rates == length p.tunnels) && (length (stage_at plan s).installed == length p.tunnels))

-- P1: stage 0 is scale times the old rates, with the old installed set
abbrev pub begins_at_old : Problem → Plan → Bool
begins_at_old p plan = all_below (length p.tunnels) (λ t.
    (rate_at plan 0 t == plan.scale * old_rate (tunnel_at p t)) && same_mark (mark_at plan 0 t) (is_some (tunnel_at p t).old))

-- P2: the last stage is scale times the new rates, with the new installed set
abbrev pub ends_at_new : Problem → Plan → Bool
ends_at_new p plan = all_below (length p.tunnels) (λ t.
    (rate_at plan (last_stage plan) t == plan.scale * new_rate (tunnel_at p t)) && same_mark (mark_at plan (last_stage plan) t) (is_some (tunnel_at p t).new))

-- what all items may take of a resource in the step from stage s on
abbrev pub step_total : Problem → Plan → ℕ → Resource → ℕ
step_total p plan s r = sum_items p (λ i. step_maximum p plan s i r)

-- P3: at each stage and resource the step maxima of all items fit
abbrev pub fits_each_step : Problem → Plan → Bool
fits_each_step p plan = all_below (length plan.stages) (λ s. all_resources p (λ r. nat_le (step_total p plan s r) (capacity_of p plan r)))

-- P4: a tunnel with a positive rate at a stage is installed there and at the stages before and behind, where these exist
abbrev pub is_carried_at : Plan → ℕ → ℕ → Bool
is_carried_at plan s t =
    (rate_at plan s t == 0)
    || (mark_at plan (s - 1) t && mark_at plan s t && mark_at plan (next_stage plan s) t)

abbrev pub carries_what_flows : Problem → Plan → Bool
carries_what_flows p plan = all_below (length plan.stages) (λ s. all_below (length p.tunnels) (is_carried_at plan s))

-- the sum of a flow's rates, where its tunnels carry these
abbrev pub flow_total : Problem → (ℕ → ℕ) → ℕ → ℕ
flow_total p rate f = sum_below (flow_at p f).tunnels (λ j. rate (tunnel_of p f j))

abbrev pub old_total : Problem → Plan → ℕ → ℕ
old_total p plan f = plan.scale * flow_total p (λ t. old_rate (tunnel_at p t)) f

abbrev pub new_total : Problem → Plan → ℕ → ℕ
new_total p plan f = plan.scale * flow_total p (λ t. new_rate (tunnel_at p t)) f

-- P5: each flow's total at each stage lies between the smaller and the larger of its scaled old and new totals
abbrev pub keeps_total_at : Problem → Plan → ℕ → ℕ → Bool
keeps_total_at p plan s f =
    nat_le (min (old_total p plan f) (new_total p plan f)) (flow_total p (rate_at plan s) f)
    && nat_le (flow_total p (rate_at plan s) f) (max (old_total p plan f) (new_total p plan f))

abbrev pub keeps_totals : Problem → Plan → Bool
keeps_totals p plan = all_below (length plan.stages) (λ s. all_below (length p.flows) (keeps_total_at p plan s))

abbrev pub is_valid_plan : Problem → Plan → Bool
is_valid_plan p plan =
    has_shape p plan && begins_at_old p plan && ends_at_new p plan
    && fits_each_step p plan && carries_what_flows p plan && keeps_totals p plan
