-- Where a plan stands after so many rate steps: at the last stage that takes no more of them. Stages that move no rate are
-- passed over, and past the plan's own number it stands at the last stage.
use Rattle.std.proofs.Common.{◌≡◌, ℕ, zero, suc, ◌+◌, ◌<◌, ◌≤◌, length, inl, inr, refl, sym, ap, ◌∙◌, arith, le-leb, leb-true, eqb-true, nat_le}
use Rattle.std.proofs.lemmas.Bool.{cases_Bool, cases_lt, cases_order, not-false}
use Rattle.rollout_rules.specs.Sums.{all_below, last_to}
use Rattle.rollout_rules.specs.Wan.{Problem, Plan, rate_at, last_stage, next_stage}
use Rattle.rollout_rules.proofs.Below.{sum_below-up, all_below-at, last_to-most, last_to-passes, last_to-is_last}
use Rattle.lp_proof.specs.RateSteps.{stays_at, moves_rates, rate_steps_to, rate_steps}

abbrev pub stand_at : Problem → Plan → ℕ → ℕ
stand_at p plan a = last_to (last_stage plan) (λ s. nat_le (rate_steps_to p plan s) a)

module _ (p : Problem) (plan : Plan) where
  steps-up : (a b : ℕ) → a ≤ b → rate_steps_to p plan a ≤ rate_steps_to p plan b
  steps-up a b le = sum_below-up a b _ le

  steps-next : (s : ℕ) → rate_steps_to p plan (suc s) ≤ rate_steps_to p plan s + 1
  steps-next s = elim (cases_Bool (moves_rates p plan s)) as (λ c. rate_steps_to p plan (suc s) ≤ rate_steps_to p plan s + 1) [
    | inl moves ↦ rw moves (omega arith)
    | inr stays ↦ rw stays (omega arith)
  ]

  rates-stay : (s t : ℕ) → t < length p.tunnels → rate_steps_to p plan (suc s) ≤ rate_steps_to p plan s → rate_at plan s t ≡ rate_at plan (suc s) t
  rates-stay s t lt few = elim (cases_Bool (moves_rates p plan s)) as (λ c. rate_at plan s t ≡ rate_at plan (suc s) t) [
    | inl moves ↦ let one : rate_steps_to p plan (suc s) ≡ rate_steps_to p plan s + 1 = rw moves refl in absurd (omega arith)
    | inr stays ↦
        let more : s + 1 ≡ suc s = omega arith in
        eqb-true (rate_at plan s t) (rate_at plan (s + 1) t)
        (all_below-at (length p.tunnels) (stays_at plan s) (not-false (all_below (length p.tunnels) (stays_at plan s)) stays) t lt)
        ∙ ap (λ k. rate_at plan k t) more
  ]

  -- with no rate step between two stages the rates are the same
  pub rates-same : (a b t : ℕ) → a ≤ b → t < length p.tunnels → rate_steps_to p plan b ≤ rate_steps_to p plan a → rate_at plan a t ≡ rate_at plan b t
  rates-same a zero t le lt few = let at : a ≡ 0 = omega arith in ap (λ k. rate_at plan k t) at
  rates-same a (suc b) t le lt few = elim (cases_order a (suc b)) as (λ c. rate_at plan a t ≡ rate_at plan (suc b) t) [
    | inl e ↦ ap (λ k. rate_at plan k t) e
    | inr (inl less) ↦
        let low = steps-up a b (omega arith) in
        let high = steps-up b (suc b) (omega arith) in
        rates-same a b t (omega arith) lt (omega (arith, high)) ∙ rates-stay b t lt (omega (arith, low))
    | inr (inr more) ↦ absurd (omega arith)
  ]

  pub stand-most : (a : ℕ) → stand_at p plan a ≤ last_stage plan
  stand-most a = last_to-most (last_stage plan) (λ s. nat_le (rate_steps_to p plan s) a)

  stand-passes : (a : ℕ) → rate_steps_to p plan (stand_at p plan a) ≤ a
  stand-passes a = leb-true _ _ (last_to-passes (last_stage plan) (λ s. nat_le (rate_steps_to p plan s) a) (le-leb 0 a (omega arith)))

  stand-past : (a s : ℕ) → s ≤ last_stage plan → rate_steps_to p plan s ≤ a → s ≤ stand_at p plan a
  stand-past a s most few = last_to-is_last (last_stage plan) (λ u. nat_le (rate_steps_to p plan u) a) s most (le-leb (rate_steps_to p plan s) a few)

  -- past where it stands there are more rate steps
  stand-before : (a s : ℕ) → stand_at p plan a < s → s ≤ last_stage plan → a < rate_steps_to p plan s
  stand-before a s past most = elim (cases_lt a (rate_steps_to p plan s)) as (λ c. a < rate_steps_to p plan s) [
    | inl more ↦ more
    | inr few ↦ absurd (omega (arith, stand-past a s most few))
  ]

  stand-up : (a b : ℕ) → a ≤ b → stand_at p plan a ≤ stand_at p plan b
  stand-up a b le = stand-past b (stand_at p plan a) (stand-most a) (omega (arith, stand-passes a))

  -- after no rate step the rates are those at first
  pub stand-first : (t : ℕ) → t < length p.tunnels → rate_at plan 0 t ≡ rate_at plan (stand_at p plan 0) t
  stand-first t lt = rates-same 0 (stand_at p plan 0) t (omega arith) lt (omega (arith, stand-passes 0))

  -- from the plan's own number on it stands at the last stage
  pub stand-last : (a : ℕ) → rate_steps p plan ≤ a → stand_at p plan a ≡ last_stage plan
  stand-last a all = omega (arith, stand-most a, stand-past a (last_stage plan) (omega arith) all)

  -- a rate step more brings the rates of the stage after
  pub stand-next : (a t : ℕ) → t < length p.tunnels → rate_at plan (next_stage plan (stand_at p plan a)) t ≡ rate_at plan (stand_at p plan (a + 1)) t
  stand-next a t lt = elim (cases_lt (stand_at p plan a) (last_stage plan)) as (λ c. rate_at plan (next_stage plan (stand_at p plan a)) t ≡ rate_at plan (stand_at p plan (a + 1)) t) [
    | inl before ↦
        let x : ℕ = stand_at p plan a in
        let next : next_stage plan x ≡ suc x = omega arith in
        let within : suc x ≤ stand_at p plan (a + 1) = stand-past (a + 1) (suc x) before (omega (arith, steps-next x, stand-passes a)) in
        let few : rate_steps_to p plan (stand_at p plan (a + 1)) ≤ rate_steps_to p plan (suc x) =
        omega (arith, stand-passes (a + 1), stand-before a (suc x) (omega arith) before) in
        ap (λ k. rate_at plan k t) next ∙ rates-same (suc x) (stand_at p plan (a + 1)) t within lt few
    | inr at ↦
        let here : stand_at p plan a ≡ last_stage plan = omega (arith, stand-most a) in
        let there : stand_at p plan (a + 1) ≡ last_stage plan = omega (arith, stand-most (a + 1), stand-up a (a + 1) (omega arith)) in
        let next : next_stage plan (stand_at p plan a) ≡ last_stage plan = omega arith in
        ap (λ k. rate_at plan k t) (next ∙ sym there)
  ]
