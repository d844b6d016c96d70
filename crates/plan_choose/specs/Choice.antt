-- The choice of a plan: none at all, still, direct, by fewer steps, from scratch; or why there is none.
use Rattle.std.specs.Prelude.{ℕ, ◌+◌, ◌-◌, min, [], Option, Some, None, option_map, is_some, nat_le, if◌then◌else◌, Result, Ok, Err}
use Rattle.rollout_rules.specs.Wan.{Problem, Plan}
use Rattle.rollout_rules.specs.Valid.{is_valid_plan}
use Rattle.plan_check.specs.First.{first_below}
use Rattle.plan_check.specs.LeastSlack.{least_slack}
use Rattle.scratch_plan.specs.Frame.{frame, still, has_equal_rates}
use Rattle.scratch_plan.specs.Refusals.{refusal, no_slack, unless_refused}
use Rattle.scratch_plan.specs.Scratch.{by_slack}
use Rattle.scratch_plan.specs.declared.no_plan.NoPlan.{NoPlan}
use Rattle.fraction_lp.specs.Dictionary.{end_of}
use Rattle.fraction_lp.specs.declared.answer.LpAnswer.{LpAnswer}
use Rattle.fraction_lp.specs.declared.answer.LpAnswer.TheVariants.{Point, Infeasible, Overflow, Spent, Memory}
use Rattle.step_lp.specs.Program.{move_program, cells}
use Rattle.step_lp.specs.Points.{plan_of}

-- a plan and its rate steps
pub record Choice : Type 0 where
  pub plan : Plan
  pub rate_steps : ℕ

-- ---- fewer steps

-- the plan of the point in which a program ends
abbrev pub plan_at_end : Problem → ℕ → LpAnswer → Option Plan
plan_at_end p q (Point xs) = plan_of p q xs
plan_at_end p q (Infeasible ys) = None
plan_at_end p q (Overflow made) = None
plan_at_end p q (Spent made) = None
plan_at_end p q Memory = None

-- a plan where it is valid
abbrev pub where_valid : Problem → Option Plan → Option Plan
where_valid p None = None
where_valid p (Some plan) = if is_valid_plan p plan then Some plan else None

-- the plan of q rate steps, where the program is small enough, ends in a point, and the frame of the point's rates is valid
unfoldable pub step_plan : Problem → ℕ → Option Plan
step_plan p q = if is_some (cells p q) then where_valid p (plan_at_end p q (end_of (move_program p q))) else None

-- the same from 2 steps on
abbrev pub step_choice : Problem → ℕ → Option Choice
step_choice p q = if nat_le 2 q then option_map (λ plan. record { plan = plan; rate_steps = q }) (step_plan p q) else None

-- how many steps are tried at most: fewer than scratch takes with slack 1/k
abbrev pub most_tried : Option ℕ → ℕ
most_tried None = 8
most_tried (Some k) = min 8 (k - 2)

-- the plan of the least number of steps that has one
abbrev pub fewer_steps : Problem → Option Choice
fewer_steps p = first_below (most_tried (least_slack p) + 1) (step_choice p)

-- ---- the choice

abbrev pub still_choice : Problem → Choice
still_choice p = record { plan = still p; rate_steps = 0 }

abbrev pub direct_plan : Problem → Plan
direct_plan p = frame p 1 []

abbrev pub direct_choice : Problem → Choice
direct_choice p = record { plan = direct_plan p; rate_steps = 1 }

-- from scratch by the least slack, where there is one, else a link without slack
abbrev pub scratch_choice : Problem → Option ℕ → Result Choice NoPlan
scratch_choice p (Some k) = Ok (record { plan = by_slack p k; rate_steps = k - 1 })
scratch_choice p None = Err (no_slack p)

abbrev pub moving_choice : Problem → Option Choice → Result Choice NoPlan
moving_choice p (Some choice) = Ok choice
moving_choice p None = scratch_choice p (least_slack p)

-- what is chosen where nothing is refused: still for equal rates, else direct where that is valid, else by fewer steps, else from scratch
abbrev pub best_choice : Problem → Result Choice NoPlan
best_choice p =
    if has_equal_rates p then Ok (still_choice p)
    else if is_valid_plan p (direct_plan p) then Ok (direct_choice p)
    else moving_choice p (fewer_steps p)

abbrev pub chosen : Problem → Result Choice NoPlan
chosen p = unless_refused (refusal p) (best_choice p)
