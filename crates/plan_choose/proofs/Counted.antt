-- How many rate steps are chosen: none exactly where no rate differs.
use Rattle.std.proofs.Common.{◌≡◌, ℕ, ◌+◌, ◌-◌, ◌≤◌, ◌==◌, Bool, true, false, Option, Some, None, option_map, Ok, if◌then◌else◌, nat_le, refl, sym, ap, ◌∙◌, inl, inr, arith, leb-true, ne_eqb}
use Rattle.rollout_rules.specs.Wan.{Problem, Plan}
use Rattle.rollout_rules.specs.Valid.{is_valid_plan}
use Rattle.plan_check.specs.LeastSlack.{least_slack}
use Rattle.plan_check.proofs.Firsts.{first_below_some}
use Rattle.plan_check.proofs.LeastSlack.{some-HasLeast}
use Rattle.scratch_plan.specs.Frame.{has_equal_rates}
use Rattle.scratch_plan.specs.Scratch.{by_slack}
use Rattle.scratch_plan.specs.Refusals.{refusal}
use Rattle.plan_choose.specs.Choice.{Choice, chosen, best_choice, moving_choice, scratch_choice, still_choice, direct_choice, direct_plan, fewer_steps, step_choice, step_plan, most_tried}
use Rattle.plan_choose.proofs.Enough.{allowed, branch}

some-not-none : (n : ℕ) → 1 ≤ n → (n == 0) ≡ false
some-not-none n le = ne_eqb n 0 (λ (e : n ≡ 0). omega arith)

module _ (p : Problem) (c : Choice) where
  -- from scratch by slack 1/k there are k - 1, and k is at least 2
  by-scratch : (s : Option ℕ) → least_slack p ≡ s → scratch_choice p s ≡ Ok c → 1 ≤ c.rate_steps
  by-scratch None is e = cc
  by-scratch (Some k) is e =
      let same : ◌≡◌ {A = Choice} (record { plan = by_slack p k; rate_steps = k - 1 }) c = cc in
      let least = some-HasLeast p k is in
      omega (arith, ap (λ (d : Choice). d.rate_steps) same, least.least)

  counted : (q : ℕ) (o : Option Plan) → option_map (λ plan. record { plan = plan; rate_steps = q }) o ≡ Some c → c.rate_steps ≡ q
  counted q None e = cc
  counted q (Some plan) e = let same : ◌≡◌ {A = Choice} (record { plan = plan; rate_steps = q }) c = cc in ap (λ (d : Choice). d.rate_steps) (sym same)

  by-test : (b : Bool) (q : ℕ) (o : Option Plan) → nat_le 2 q ≡ b → (if b then option_map (λ plan. record { plan = plan; rate_steps = q }) o else None) ≡ Some c → 1 ≤ c.rate_steps
  by-test true q o is e = omega (arith, leb-true 2 q is, counted q o e)
  by-test false q o is e = cc

  by-steps : (q : ℕ) → step_choice p q ≡ Some c → 1 ≤ c.rate_steps
  by-steps q e = by-test (nat_le 2 q) q (step_plan p q) refl e

  by-moving : (o : Option Choice) → fewer_steps p ≡ o → moving_choice p o ≡ Ok c → 1 ≤ c.rate_steps
  by-moving None is e = by-scratch (least_slack p) refl e
  by-moving (Some found) is e =
      let same : found ≡ c = cc in
      let there = first_below_some (step_choice p) (most_tried (least_slack p) + 1) found is in
      by-steps there.0 (there.2 ∙ ap Some same)

  by-direct : (if is_valid_plan p (direct_plan p) then Ok (direct_choice p) else moving_choice p (fewer_steps p)) ≡ Ok c → 1 ≤ c.rate_steps
  by-direct e = elim (branch (is_valid_plan p (direct_plan p)) (direct_choice p) c (moving_choice p (fewer_steps p)) e) as (λ x. 1 ≤ c.rate_steps) [
    | inl direct ↦ omega (arith, ap (λ (d : Choice). d.rate_steps) direct.1)
    | inr moves ↦ by-moving (fewer_steps p) refl moves
  ]

  by-equal : (b : Bool) → (if b then Ok (still_choice p) else if is_valid_plan p (direct_plan p) then Ok (direct_choice p) else moving_choice p (fewer_steps p)) ≡ Ok c → (c.rate_steps == 0) ≡ b
  by-equal true e = let same : still_choice p ≡ c = cc in ap (λ (d : Choice). d.rate_steps == 0) (sym same)
  by-equal false e = some-not-none c.rate_steps (by-direct e)

  -- nothing is refused of a problem with a choice, which has no rate steps exactly where no rate differs
  pub chosen-free : chosen p ≡ Ok c → refusal p ≡ None
  chosen-free e = (allowed (refusal p) (best_choice p) c e).0

  pub chosen-still : chosen p ≡ Ok c → (c.rate_steps == 0) ≡ has_equal_rates p
  chosen-still e = by-equal (has_equal_rates p) (allowed (refusal p) (best_choice p) c e).1
