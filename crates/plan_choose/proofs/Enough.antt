-- What is enough for a plan, and that every cause is told.
use Rattle.std.proofs.Common.{◌≡◌, ℕ, ◌+◌, ◌-◌, ◌⊎◌, ◌≤◌, Bool, true, false, Option, Some, None, Result, Ok, Err, if◌then◌else◌, refl, sym, ap, subst, ◌∙◌, inl, inr, arith}
use Rattle.std.specs.Prelude.{IsOk, IsSome}
use Rattle.rollout_rules.specs.Wan.{Problem, Plan}
use Rattle.rollout_rules.specs.Network.{IsNetwork}
use Rattle.rollout_rules.specs.Valid.{is_valid_plan}
use Rattle.rollout_rules.specs.Slack.{has_slack}
use Rattle.plan_check.specs.LeastSlack.{least_slack}
use Rattle.plan_check.proofs.Firsts.{first_below_none}
use Rattle.plan_check.proofs.LeastSlack.{some-HasLeast, none-no_slack}
use Rattle.scratch_plan.specs.Frame.{has_equal_rates}
use Rattle.scratch_plan.specs.Scratch.{by_slack}
use Rattle.scratch_plan.specs.Refusals.{refusal, unless_refused}
use Rattle.scratch_plan.specs.declared.no_plan.NoPlan.{NoPlan}
use Rattle.scratch_plan.specs.declared.no_plan.NoPlan.TheVariants.{Memory}
use Rattle.scratch_plan.proofs.Causes.{room, refusal_tells, no_slack_tells}
use Rattle.scratch_plan.proofs.Slackness.{slack-valid}
use Rattle.scratch_plan.proofs.Stills.{still-valid}
use Rattle.plan_choose.specs.Choice.{Choice, chosen, best_choice, moving_choice, scratch_choice, still_choice, direct_choice, direct_plan, fewer_steps, step_choice, step_plan, most_tried}
use Rattle.plan_choose.proofs.Choices.{step_choice-is, fewer_steps-valid}

-- ---- the branches of the choice
free : {A : Type 0} (r : Option NoPlan) (wanted : Result A NoPlan) → r ≡ None → unless_refused r wanted ≡ wanted
free r wanted none = ap (λ o. unless_refused o wanted) none

ok_either : {A : Type 0} (b : Bool) (a : A) (r : Result A NoPlan) → IsOk r → IsOk (if b then Ok a else r)
ok_either true a r ok = refl
ok_either false a r ok = ok

ok_first : {A : Type 0} (b : Bool) (a : A) (r : Result A NoPlan) → b ≡ true → IsOk (if b then Ok a else r)
ok_first b a r e = rw e refl

module _ (p : Problem) (none : refusal p ≡ None) where
  best-ok : IsOk (best_choice p) → IsOk (chosen p)
  best-ok ok = subst (λ r. IsOk r) (sym (free (refusal p) (best_choice p) none)) ok

  abbrev moving : Result Choice NoPlan
  moving = moving_choice p (fewer_steps p)

  moving-ok : IsOk moving → IsOk (chosen p)
  moving-ok ok =
      best-ok (ok_either (has_equal_rates p) (still_choice p) (if is_valid_plan p (direct_plan p) then Ok (direct_choice p) else moving)
      (ok_either (is_valid_plan p (direct_plan p)) (direct_choice p) moving ok))

  pub still-enough : has_equal_rates p ≡ true → IsOk (chosen p)
  still-enough equal = best-ok (ok_first (has_equal_rates p) (still_choice p) (if is_valid_plan p (direct_plan p) then Ok (direct_choice p) else moving) equal)

  pub direct-enough : is_valid_plan p (direct_plan p) ≡ true → IsOk (chosen p)
  direct-enough valid =
      best-ok (ok_either (has_equal_rates p) (still_choice p) (if is_valid_plan p (direct_plan p) then Ok (direct_choice p) else moving)
      (ok_first (is_valid_plan p (direct_plan p)) (direct_choice p) moving valid))

  by-steps : (o : Option Choice) → IsSome o → IsOk (moving_choice p o)
  by-steps None some = absurd (clash some)
    where
      clash : false ≡ true → ⊥
      clash e = cc
  by-steps (Some choice) some = refl

  there : {A : Type 0} (o : Option A) → (o ≡ None → ⊥) → IsSome o
  there None e = absurd (e refl)
  there (Some a) e = refl

  found : (o : Option Plan) → IsSome o → (plan : Plan) × (o ≡ Some plan)
  found None some = absurd (clash some)
    where
      clash : false ≡ true → ⊥
      clash e = cc
  found (Some plan) some = (plan, refl)

  pub steps-enough : (q : ℕ) → 2 ≤ q → q ≤ most_tried (least_slack p) → IsSome (step_plan p q) → IsOk (chosen p)
  steps-enough q least most some =
      let plan = found (step_plan p q) some in
      let is = step_choice-is p q plan.0 least plan.1 in
      moving-ok (by-steps (fewer_steps p) (there (fewer_steps p) (λ e. clash (sym (first_below_none (step_choice p) (most_tried (least_slack p) + 1) q (omega arith) e) ∙ is))))
    where
      clash : {c : Choice} → ◌≡◌ {A = Option Choice} None (Some c) → ⊥
      clash e = cc

  by-slack : (o : Option Choice) (s : Option ℕ) → IsSome s → least_slack p ≡ s → IsOk (moving_choice p o)
  by-slack (Some choice) s some is = refl
  by-slack None None some is = absurd (clash some)
    where
      clash : false ≡ true → ⊥
      clash e = cc
  by-slack None (Some k) some is = subst (λ s. IsOk (scratch_choice p s)) (sym is) refl

  pub slack-enough : (k : ℕ) → 2 ≤ k → k ≤ 64 → has_slack p k ≡ true → IsOk (chosen p)
  slack-enough k least most has = moving-ok (by-slack (fewer_steps p) (least_slack p) (there (least_slack p) (λ e. clash (has_slack p k) (none-no_slack p k least most e) has)) refl)
    where
      clash : (b : Bool) → b ≡ false → b ≡ true → ⊥
      clash b e f = cc

-- ---- what is chosen is valid
pub allowed : {A : Type 0} (r : Option NoPlan) (wanted : Result A NoPlan) (a : A) → unless_refused r wanted ≡ Ok a → (r ≡ None) × (wanted ≡ Ok a)
allowed None wanted a e = (refl, e)
allowed (Some cause) wanted a e = cc

-- the first where the test passes, else the rest
pub branch : {A : Type 0} (b : Bool) (a x : A) (r : Result A NoPlan) → (if b then Ok a else r) ≡ Ok x → ((b ≡ true) × (a ≡ x)) ⊎ (r ≡ Ok x)
branch true a x r e = inl (refl, cc)
branch false a x r e = inr e

module _ (p : Problem) (choice : Choice) (net : IsNetwork p) where
  by-scratch : refusal p ≡ None → (s : Option ℕ) → least_slack p ≡ s → scratch_choice p s ≡ Ok choice → is_valid_plan p choice.plan ≡ true
  by-scratch none None is e = cc
  by-scratch none (Some k) is e =
      let same : ◌≡◌ {A = Choice} (record { plan = by_slack p k; rate_steps = k - 1 }) choice = cc in
      let least = some-HasLeast p k is in
      sym (ap (λ c. is_valid_plan p c.plan) same) ∙ slack-valid p k net (room p none) least.least least.most least.has

  by-moving : refusal p ≡ None → (o : Option Choice) → fewer_steps p ≡ o → moving_choice p o ≡ Ok choice → is_valid_plan p choice.plan ≡ true
  by-moving none None is e = by-scratch none (least_slack p) refl e
  by-moving none (Some found) is e =
      let same : found ≡ choice = cc in
      sym (ap (λ c. is_valid_plan p c.plan) same) ∙ fewer_steps-valid p (most_tried (least_slack p) + 1) found is

  pub chosen-valid : chosen p ≡ Ok choice → is_valid_plan p choice.plan ≡ true
  chosen-valid e =
      let best = allowed (refusal p) (best_choice p) choice e in
      elim (branch (has_equal_rates p) (still_choice p) choice (if is_valid_plan p (direct_plan p) then Ok (direct_choice p) else moving_choice p (fewer_steps p)) best.1) as (λ c. is_valid_plan p choice.plan ≡ true) [
        | inl equal ↦ sym (ap (λ c. is_valid_plan p c.plan) equal.1) ∙ still-valid p net best.0 equal.0
        | inr other ↦ elim (branch (is_valid_plan p (direct_plan p)) (direct_choice p) choice (moving_choice p (fewer_steps p)) other) as (λ c. is_valid_plan p choice.plan ≡ true) [
          | inl direct ↦ sym (ap (λ c. is_valid_plan p c.plan) direct.1) ∙ direct.0
          | inr moves ↦ by-moving best.0 (fewer_steps p) refl moves
        ]
      ]

-- ---- every cause is told
refused_or : {A : Type 0} (r : Option NoPlan) (wanted : Result A NoPlan) (c : NoPlan) → unless_refused r wanted ≡ Err c → (r ≡ Some c) ⊎ (wanted ≡ Err c)
refused_or None wanted c e = inr e
refused_or (Some d) wanted c e = inl cc

otherwise : {A : Type 0} (b : Bool) (a : A) (r : Result A NoPlan) (c : NoPlan) → (if b then Ok a else r) ≡ Err c → r ≡ Err c
otherwise true a r c e = cc
otherwise false a r c e = e

scratch_tells : (p : Problem) (s : Option ℕ) → least_slack p ≡ s → scratch_choice p s ≡ Err Memory → ⊥
scratch_tells p None is e = no_slack_tells p is cc
scratch_tells p (Some k) is e = cc

moving_tells : (p : Problem) (o : Option Choice) → moving_choice p o ≡ Err Memory → ⊥
moving_tells p None e = scratch_tells p (least_slack p) refl e
moving_tells p (Some found) e = cc

pub chosen_tells : (p : Problem) → chosen p ≡ Err Memory → ⊥
chosen_tells p e = elim (refused_or (refusal p) (best_choice p) Memory e) as (λ c. ⊥) [
  | inl refused ↦ refusal_tells p refused
  | inr best ↦
      moving_tells p (fewer_steps p)
      (otherwise (is_valid_plan p (direct_plan p)) (direct_choice p) (moving_choice p (fewer_steps p)) Memory
      (otherwise (has_equal_rates p) (still_choice p) (if is_valid_plan p (direct_plan p) then Ok (direct_choice p) else moving_choice p (fewer_steps p)) Memory best))
]
