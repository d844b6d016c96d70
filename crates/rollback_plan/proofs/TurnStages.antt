-- A history may turn at its ceiling, so there is a first stage at which it may.
use Rattle.std.proofs.Common.{◌≡◌, ◌⊎◌, ℕ, zero, suc, ◌+◌, ◌-◌, ◌<◌, ◌≤◌, Bool, true, false, inl, inr, refl, sym, ap, ◌∙◌, subst, arith}
use Rattle.std.proofs.lemmas.Bool.{both_ways, cases_Bool, cases_lt}
use Rattle.rollout_rules.specs.Sums.{list_below}
use Rattle.rollout_rules.specs.Wan.{Problem, Plan, last_stage}
use Rattle.rollout_rules.specs.Network.{IsNetwork}
use Rattle.rollout_rules.specs.Items.{item_count, item_at}
use Rattle.rollout_rules.specs.Operations.{changes_to, operations}
use Rattle.rollout_rules.specs.History.{History}
use Rattle.rollout_rules.specs.Valid.{is_valid_plan}
use Rattle.rollout_rules.specs.Legal.{is_legal, is_sound}
use Rattle.rollout_rules.specs.declared.item.Item.{Item}
use Rattle.rollout_rules.proofs.Rows.{list_below-same}
use Rattle.rollout_laws.proofs.Validity.{plan-is_valid}
use Rattle.rollback_plan.specs.Turning.{back_problem, back_plan}
use Rattle.rollback_plan.specs.Levels.{BegunUpTo, back_start, ceiling}
use Rattle.rollback_plan.specs.Turns.{TurnsSomewhere, comes_to, may_turn, turn_start}
use Rattle.rollback_plan.proofs.Alike.{count-turned, item_at-turned}
use Rattle.rollback_plan.proofs.Ceilings.{begun-up_to_ceiling, ceiling-most}
use Rattle.rollback_plan.proofs.Mirror.{changes-mirrored}
use Rattle.rollback_plan.proofs.StageStarts.{back_start-is_sound}

-- ---- the first number below a bound that passes a test

record FirstOf (test : ℕ → Bool) (bound : ℕ) : Type 0 where
  number : ℕ
  below : number < bound
  passes : test number ≡ true
  first : (t : ℕ) → t < number → test t ≡ false

abbrev pub NoneBelow : (ℕ → Bool) → ℕ → Type 0
NoneBelow test bound = (t : ℕ) → t < bound → test t ≡ false

pub one-more : (test : ℕ → Bool) (k : ℕ) → NoneBelow test k → test k ≡ false → NoneBelow test (suc k)
one-more test k none fails t lt = elim (cases_lt t k) as (λ c. test t ≡ false) [
  | inl before ↦ none t before
  | inr last ↦ let same : k ≡ t = omega (arith, lt, last) in subst (λ (n : ℕ). test n ≡ false) same fails
]

none-or_first : (test : ℕ → Bool) (bound : ℕ) → NoneBelow test bound ⊎ FirstOf test bound
none-or_first test zero = inl (λ t lt. absurd (omega arith))
none-or_first test (suc k) = elim (none-or_first test k) as (λ c. NoneBelow test (suc k) ⊎ FirstOf test (suc k)) [
  | inl none ↦ elim (cases_Bool (test k)) as (λ c. NoneBelow test (suc k) ⊎ FirstOf test (suc k)) [
    | inl passes ↦ inr (record { number = k; below = omega arith; passes = passes; first = none })
    | inr fails ↦ inl (one-more test k none fails)
  ]
  | inr found ↦ inr (record { number = found.number; below = omega (arith, found.below); passes = found.passes; first = found.first })
]

-- ---- at the ceiling the start is that of the way back from there

module _ (p : Problem) (plan : Plan) (h : History) (net : IsNetwork p) (valid : is_valid_plan p plan ≡ true) (legal : is_legal p plan h ≡ true) where
  abbrev c : ℕ
  c = ceiling p plan h

  abbrev left : ℕ
  left = last_stage plan - c

  abbrev q : Problem
  q = back_problem p

  abbrev there : Plan
  there = back_plan plan

  up : BegunUpTo p plan c h
  up = begun-up_to_ceiling p plan h legal

  most : c ≤ last_stage plan
  most = ceiling-most p plan h legal

  number-at : (n : ℕ) → n < item_count p → operations p plan (item_at p n) - comes_to p plan h c n ≡ changes_to q there (item_at q n) left
  number-at n lt =
      let i = item_at p n in
      let here : last_stage plan - left ≡ c = omega (arith, most) in
      let up_to : changes_to p plan i (last_stage plan - left) ≡ changes_to p plan i c = ap (changes_to p plan i) here in
      let mirrored : changes_to q there i left + changes_to p plan i (last_stage plan - left) ≡ operations p plan i = changes-mirrored plan p (plan-is_valid p plan valid).stages i left (omega arith) in
      let alike : changes_to q there (item_at q n) left ≡ changes_to q there i left = ap (λ (j : Item). changes_to q there j left) (item_at-turned p n) in
      omega (arith, alike, mirrored, up_to, up n lt)

  pub start-at_ceiling : turn_start p plan h c ≡ back_start p plan c
  start-at_ceiling =
      list_below-same (item_count p) (λ n. operations p plan (item_at p n) - comes_to p plan h c n) (λ n. changes_to q there (item_at q n) left) number-at
      ∙ ap (λ (k : ℕ). list_below k (λ n. changes_to q there (item_at q n) left)) (sym (count-turned p))

  pub turns-at_ceiling : may_turn p plan h c ≡ true
  turns-at_ceiling = ap (is_sound q there) start-at_ceiling ∙ back_start-is_sound p plan c valid most net

  pub turns-somewhere : TurnsSomewhere p plan h
  turns-somewhere = elim (none-or_first (may_turn p plan h) (c + 1)) as (λ _. TurnsSomewhere p plan h) [
    | inl none ↦ absurd (both_ways (may_turn p plan h c) (none c (omega arith)) turns-at_ceiling)
    | inr found ↦ record { stage = found.number; turns = record { sound = found.passes; most = omega (arith, found.below); first = found.first } }
  ]
