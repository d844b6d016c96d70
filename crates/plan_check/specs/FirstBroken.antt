-- Which clause of a valid plan is the first that a plan breaks, and where: by clause, then by stage, then by number.
use Rattle.std.specs.Prelude.{ℕ, ◌-◌, ◌*◌, min, max, Bool, ◌&&◌, length, is_some, unwrap_or, Option, nat_le, nat_lt, ◌==◌, if◌then◌else◌}
use Rattle.rollout_rules.specs.declared.item.Spot.{Spot}
use Rattle.rollout_rules.specs.declared.item.Spot.TheVariants as spot
use Rattle.rollout_rules.specs.declared.limits.TheConstants.{MOST_STAGES, LARGEST_SCALE}
use Rattle.rollout_rules.specs.Wan.{Problem, Plan, tunnel_at, stage_at, rate_at, mark_at, last_stage, next_stage}
use Rattle.rollout_rules.specs.Items.{Resource, the_link, the_table, capacity_of}
use Rattle.rollout_rules.specs.Valid.{same_mark, step_total, is_carried_at, flow_total, old_total, new_total, keeps_total_at}
use Rattle.wan_model.specs.declared.side.Side.{Side}
use Rattle.wan_model.specs.declared.side.Side.TheVariants.{Old, New}
use Rattle.wan_model.specs.Sides.{rate_on}
use Rattle.plan_check.specs.declared.broken.Broken.{Broken}
use Rattle.plan_check.specs.First.{first_of, first_below, unless}

abbrev pub breaks : ℕ → ℕ → Spot → ℕ → ℕ → Broken
breaks clause stage spot found wanted = record { clause = clause; stage = stage; spot = spot; found = found; wanted = wanted }

-- P0: a number that isn't between 1 and a limit
abbrev pub outside : ℕ → ℕ → Option Broken
outside n most = unless (nat_le 1 n && nat_le n most) (breaks 0 0 spot.Whole n (if n == 0 then 1 else most))

-- P0: a stage without a rate, or without a mark, per tunnel
abbrev pub not_full : Problem → Plan → ℕ → Option Broken
not_full p plan s =
    first_of
    (unless (length (stage_at plan s).rates == length p.tunnels) (breaks 0 s spot.Whole (length (stage_at plan s).rates) (length p.tunnels)))
    (unless (length (stage_at plan s).installed == length p.tunnels) (breaks 0 s spot.Whole (length (stage_at plan s).installed) (length p.tunnels)))

abbrev pub misshapen : Problem → Plan → Option Broken
misshapen p plan = first_of (first_of (outside plan.scale LARGEST_SCALE) (outside (length plan.stages) MOST_STAGES)) (first_below (length plan.stages) (not_full p plan))

-- a mark as a number
abbrev pub as_number : Bool → ℕ
as_number mark = if mark then 1 else 0

-- P1 and P2: a tunnel that stands otherwise at a stage than in a split, by its rate or by its mark
abbrev pub stands_off : Plan → ℕ → ℕ → ℕ → Option ℕ → Option Broken
stands_off plan clause s t split =
    first_of
    (unless (rate_at plan s t == plan.scale * unwrap_or split 0) (breaks clause s (spot.Tunnel t) (rate_at plan s t) (plan.scale * unwrap_or split 0)))
    (unless (same_mark (mark_at plan s t) (is_some split)) (breaks clause s (spot.Tunnel t) (as_number (mark_at plan s t)) (as_number (is_some split))))

abbrev pub off_side : Problem → Plan → ℕ → ℕ → Side → Option Broken
off_side p plan clause s side = first_below (length p.tunnels) (λ t. stands_off plan clause s t (rate_on side (tunnel_at p t)))

-- P3: a resource of which the step from stage s on takes more than there is
abbrev pub over : Problem → Plan → ℕ → Resource → Spot → Option Broken
over p plan s r spot = unless (nat_le (step_total p plan s r) (capacity_of p plan r)) (breaks 3 s spot (step_total p plan s r) (capacity_of p plan r))

abbrev pub over_link : Problem → Plan → ℕ → Option Broken
over_link p plan s = first_below (length p.links) (λ l. over p plan s (the_link l) (spot.Link l))

abbrev pub over_table : Problem → Plan → ℕ → Option Broken
over_table p plan s = first_below (length p.switches) (λ w. over p plan s (the_table w) (spot.Table w))

abbrev pub over_step : Problem → Plan → ℕ → Option Broken
over_step p plan s = first_of (over_link p plan s) (over_table p plan s)

-- P4: the first of the stages around s at which tunnel t isn't installed
abbrev pub bare_stage : Plan → ℕ → ℕ → ℕ
bare_stage plan s t = if mark_at plan (s - 1) t then (if mark_at plan s t then next_stage plan s else s) else s - 1

abbrev pub bare : Plan → ℕ → ℕ → Option Broken
bare plan s t = unless (is_carried_at plan s t) (breaks 4 s (spot.Tunnel t) (bare_stage plan s t) s)

abbrev pub bare_at : Problem → Plan → ℕ → Option Broken
bare_at p plan s = first_below (length p.tunnels) (bare plan s)

-- P5: the bound that a flow's total passes: the smaller scaled total where it lies below, else the larger
abbrev pub passed_bound : ℕ → ℕ → ℕ → ℕ
passed_bound old new total = if nat_lt total (min old new) then min old new else max old new

abbrev pub astray : Problem → Plan → ℕ → ℕ → Option Broken
astray p plan s f =
    unless (keeps_total_at p plan s f)
    (breaks 5 s (spot.Flow f) (flow_total p (rate_at plan s) f) (passed_bound (old_total p plan f) (new_total p plan f) (flow_total p (rate_at plan s) f)))

abbrev pub astray_at : Problem → Plan → ℕ → Option Broken
astray_at p plan s = first_below (length p.flows) (astray p plan s)

abbrev pub first_broken : Problem → Plan → Option Broken
first_broken p plan =
    first_of (first_of (first_of (first_of (first_of
    (misshapen p plan)
    (off_side p plan 1 0 Old))
    (off_side p plan 2 (last_stage plan) New))
    (first_below (length plan.stages) (over_step p plan)))
    (first_below (length plan.stages) (bare_at p plan)))
    (first_below (length plan.stages) (astray_at p plan))
