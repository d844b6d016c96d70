-- How far a history has come: its ceiling is the least stage up to which everything that is begun leads.
use Rattle.std.proofs.Common.{◌≡◌, ℕ, zero, suc, ◌+◌, ◌-◌, ◌<◌, ◌≤◌, Bool, true, ◌==◌, if◌then◌else◌, max, inl, inr, ap, ap₂, ◌∙◌, arith, eq-eqb, ne_eqb}
use Rattle.std.proofs.lemmas.Bool.{cases_lt}
use Rattle.rollout_rules.specs.Wan.{Problem, Plan, last_stage}
use Rattle.rollout_rules.specs.Items.{item_count, item_at}
use Rattle.rollout_rules.specs.Operations.{changes_to, operations, stand_after}
use Rattle.rollout_rules.specs.History.{History, begun}
use Rattle.rollout_rules.specs.Release.{most_below}
use Rattle.rollout_rules.specs.Legal.{is_legal}
use Rattle.rollout_rules.specs.declared.item.Item.{Item}
use Rattle.rollout_rules.proofs.Below.{most_below-within}
use Rattle.rollout_laws.proofs.Histories.{is_counted}
use Rattle.rollout_laws.proofs.Standing.{changes-up, stand-passes, stand-left, stand-before}
use Rattle.rollback_plan.specs.Levels.{leads_to, ceiling, BegunUpTo}

-- the greatest is above each, and no greater than what all are below
pub most_below-at : (n : ℕ) (f : ℕ → ℕ) (k : ℕ) → k < n → f k ≤ most_below n f
most_below-at zero f k lt = absurd (omega arith)
most_below-at (suc n) f k lt = elim (cases_lt k n) as (λ c. f k ≤ most_below (suc n) f) [
  | inl below ↦ omega (arith, most_below-at n f k below)
  | inr above ↦ let at : k ≡ n = omega arith in rw at (omega arith)
]

pub most-next : (n : ℕ) (f : ℕ → ℕ) (most lead next : ℕ) → most ≡ most_below n f → lead ≡ f n → next ≡ max most lead → next ≡ most_below (n + 1) f
most-next n f most lead next so this is =
    let more : suc n ≡ n + 1 = omega arith in
    is ∙ ap₂ max so this ∙ ap (λ m. most_below m f) more

-- where the last of so many operations leads, and the operations up to there
module _ (p : Problem) (plan : Plan) (i : Item) where
  abbrev led : ℕ → ℕ
  led b = if b == 0 then 0 else stand_after p plan i (b - 1) + 1

  pub led-none : (b : ℕ) → b ≡ 0 → led b ≡ 0
  led-none b e = ap (λ (z : Bool). if z then 0 else stand_after p plan i (b - 1) + 1) (eq-eqb b 0 e)

  pub led-some : (b : ℕ) → 0 < b → led b ≡ stand_after p plan i (b - 1) + 1
  led-some b some = ap (λ (z : Bool). if z then 0 else stand_after p plan i (b - 1) + 1) (ne_eqb b 0 (λ e. omega arith))

  -- operations that exist lead to a stage
  pub led-most : (b : ℕ) → b ≤ operations p plan i → led b ≤ last_stage plan
  led-most b exist = elim (cases_lt 0 b) as (λ c. led b ≤ last_stage plan) [
    | inl some ↦ omega (arith, led-some b some, stand-left p plan i (b - 1) (omega (arith, exist, some)))
    | inr none ↦ omega (arith, led-none b (omega (arith, none)))
  ]

  -- so many lead up to a stage exactly where that stage has so many up to it
  pub led-up_to : (b s : ℕ) → s ≤ last_stage plan → led b ≤ s → b ≤ changes_to p plan i s
  led-up_to b s most up = elim (cases_lt 0 b) as (λ c. b ≤ changes_to p plan i s) [
    | inl some ↦ omega (arith, some, stand-before p plan i (b - 1) s (omega (arith, up, led-some b some)) most)
    | inr none ↦ omega (arith, none)
  ]

  pub up_to-led : (b s : ℕ) → b ≤ changes_to p plan i s → led b ≤ s
  up_to-led b s few = elim (cases_lt 0 b) as (λ c. led b ≤ s) [
    | inl some ↦ elim (cases_lt (stand_after p plan i (b - 1)) s) as (λ c. led b ≤ s) [
      | inl before ↦ omega (arith, before, led-some b some)
      | inr past ↦ absurd (omega (arith, some, few, changes-up p plan i s (stand_after p plan i (b - 1)) past, stand-passes p plan i (b - 1)))
    ]
    | inr none ↦ omega (arith, led-none b (omega (arith, none)))
  ]

module _ (p : Problem) (plan : Plan) (h : History) where
  module _ (legal : is_legal p plan h ≡ true) where
    pub ceiling-most : ceiling p plan h ≤ last_stage plan
    ceiling-most = most_below-within (item_count p) (leads_to p plan h) (last_stage plan) (λ n lt. led-most p plan (item_at p n) (begun h n) ((is_counted p plan h legal n).exist lt))

    pub begun-up_to_ceiling : BegunUpTo p plan (ceiling p plan h) h
    begun-up_to_ceiling n lt = led-up_to p plan (item_at p n) (begun h n) (ceiling p plan h) ceiling-most (most_below-at (item_count p) (leads_to p plan h) n lt)

  pub ceiling-least : (s : ℕ) → BegunUpTo p plan s h → ceiling p plan h ≤ s
  ceiling-least s up = most_below-within (item_count p) (leads_to p plan h) s (λ n lt. up_to-led p plan (item_at p n) (begun h n) s (up n lt))
