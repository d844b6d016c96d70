-- The scratch plan: where a share 1/k of every link is free, k - 1 equal rate steps lead from the old split to the new one (SWAN).
use Rattle.std.specs.Prelude.{ℕ, ◌+◌, ◌-◌, ◌*◌, List, map, Option, Some, None, Result, Ok, Err}
use Rattle.rollout_rules.specs.Sums.{list_below}
use Rattle.rollout_rules.specs.Wan.{Problem, Plan, Tunnel, old_rate, new_rate}
use Rattle.plan_check.specs.LeastSlack.{least_slack}
use Rattle.scratch_plan.specs.Frame.{frame}
use Rattle.scratch_plan.specs.Refusals.{refusal, no_slack, unless_refused}
use Rattle.scratch_plan.specs.declared.no_plan.NoPlan.{NoPlan}

-- a tunnel's rate after a of n equal steps, in units of 1/n
abbrev pub blended : ℕ → ℕ → Tunnel → ℕ
blended n a t = (n - a) * old_rate t + a * new_rate t

abbrev pub blended_row : Problem → ℕ → ℕ → List ℕ
blended_row p n a = map (blended n a) p.tunnels

-- the rates between, after 1 to n - 1 of the steps
abbrev pub blended_rows : Problem → ℕ → List (List ℕ)
blended_rows p n = list_below (n - 1) (λ a. blended_row p n (a + 1))

abbrev pub by_slack : Problem → ℕ → Plan
by_slack p k = frame p (k - 1) (blended_rows p (k - 1))

-- the scratch plan by the least slack, where there is one, else a link without slack
abbrev pub by_least_slack : Problem → Option ℕ → Result Plan NoPlan
by_least_slack p (Some k) = Ok (by_slack p k)
by_least_slack p None = Err (no_slack p)

abbrev pub scratch_of : Problem → Result Plan NoPlan
scratch_of p = unless_refused (refusal p) (by_least_slack p (least_slack p))
