-- When there is a first answer, and that a plan breaks no clause exactly where it is valid.
use Rattle.std.proofs.Common.{◌≡◌, ℕ, zero, suc, ◌*◌, ◌<◌, Bool, true, false, not, ◌&&◌, Option, Some, None, is_some, unwrap_or, length, refl, ◌⊎◌, sym, ap, ◌∙◌, inl, inr, arith, nat_le, ◌==◌, if◌then◌else◌}
use Rattle.std.proofs.lemmas.Bool.{cases_eq}
use Rattle.lists.proofs.Conditions.{and_regrouped}
use Rattle.rollout_rules.specs.declared.item.Spot.{Spot}
use Rattle.rollout_rules.specs.declared.item.Spot.TheVariants as spot
use Rattle.rollout_rules.specs.declared.limits.TheConstants.{MOST_STAGES, LARGEST_SCALE}
use Rattle.rollout_rules.specs.Sums.{all_below}
use Rattle.rollout_rules.specs.Wan.{Problem, Plan, tunnel_at, stage_at, rate_at, mark_at, last_stage}
use Rattle.rollout_rules.specs.Items.{Resource, the_link, the_table, capacity_of}
use Rattle.rollout_rules.specs.Valid.{same_mark, step_total, is_carried_at, flow_total, old_total, new_total, keeps_total_at, is_valid_plan, has_shape, begins_at_old, ends_at_new, fits_each_step, carries_what_flows, keeps_totals}
use Rattle.wan_model.specs.declared.side.Side.TheVariants.{Old, New}
use Rattle.wan_model.specs.Sides.{rate_on}
use Rattle.plan_check.specs.declared.broken.Broken.{Broken}
use Rattle.plan_check.specs.First.{first_of, first_below, unless}
use Rattle.plan_check.specs.FirstBroken.{breaks, outside, misshapen, not_full, as_number, stands_off, off_side, over, over_link, over_table, over_step, bare_stage, bare_at, bare, passed_bound, astray_at, astray, first_broken}

-- one answer decides where none comes before it
pub first_below_stops : {A : Type 0} (f : ℕ → Option A) (n i : ℕ) (a : A) → i < n → first_below i f ≡ None → f i ≡ Some a → first_below n f ≡ Some a
first_below_stops f zero i a h none is = absurd (omega arith)
first_below_stops f (suc n) i a h none is = elim (cases_eq i n) as (λ _. first_of (first_below n f) (f n) ≡ Some a) [
  | inl same ↦ ap (λ m. first_of (first_below m f) (f m)) (sym same) ∙ ap (λ b. first_of b (f i)) none ∙ is
  | inr other ↦ ap (λ b. first_of b (f n)) (first_below_stops f n i a (omega arith) none is)
]

-- where there is none, none of them answers; and a first one is one of them
pub first_of_parts : {A : Type 0} (a b : Option A) → first_of a b ≡ None → (a ≡ None) × (b ≡ None)
first_of_parts None b e = (refl, e)
first_of_parts (Some x) b e = cc

first_of_some : {A : Type 0} (a b : Option A) (x : A) → first_of a b ≡ Some x → (a ≡ Some x) ⊎ (b ≡ Some x)
first_of_some None b x e = inr e
first_of_some (Some y) b x e = inl e

pub first_below_none : {A : Type 0} (f : ℕ → Option A) (n k : ℕ) → k < n → first_below n f ≡ None → f k ≡ None
first_below_none f zero k lt e = absurd (omega arith)
first_below_none f (suc n) k lt e = elim (cases_eq k n) as (λ _. f k ≡ None) [
  | inl same ↦ ap f same ∙ (first_of_parts (first_below n f) (f n) e).1
  | inr other ↦ first_below_none f n k (omega arith) (first_of_parts (first_below n f) (f n) e).0
]

pub first_below_some : {A : Type 0} (f : ℕ → Option A) (n : ℕ) (a : A) → first_below n f ≡ Some a → (k : ℕ) × (k < n) × (f k ≡ Some a)
first_below_some f zero a e = cc
first_below_some f (suc n) a e = elim (first_of_some (first_below n f) (f n) a e) as (λ _. (k : ℕ) × (k < suc n) × (f k ≡ Some a)) [
  | inl before ↦ let there = first_below_some f n a before in (there.0, omega (arith, there.1), there.2)
  | inr last ↦ (n, omega arith, last)
]

-- whether there is no answer
abbrev nothing : {A : Type 0} → Option A → Bool
nothing a = not (is_some a)

none : {A : Type 0} (a : Option A) → nothing a ≡ true → a ≡ None
none None e = refl
none (Some a) e = cc

first : {A : Type 0} (a b : Option A) (x y : Bool) → nothing a ≡ x → nothing b ≡ y → nothing (first_of a b) ≡ (x && y)
first None b x y none_before rest = rw (sym none_before) rest
first (Some a) b x y before rest = rw (sym before) refl

one : {A : Type 0} (b : Bool) (a : A) → nothing (unless b a) ≡ b
one true a = refl
one false a = refl

two : {A : Type 0} (b c : Bool) (x y : A) → nothing (first_of (unless b x) (unless c y)) ≡ (b && c)
two true c x y = one c y
two false c x y = refl

below : {A : Type 0} (n : ℕ) (f : ℕ → Option A) (test : ℕ → Bool) → ((k : ℕ) → nothing (f k) ≡ test k) → nothing (first_below n f) ≡ all_below n test
below zero f test each = refl
below (suc n) f test each = first (first_below n f) (f n) (all_below n test) (test n) (below n f test each) (each n)

-- ---- the clauses one by one
within : (n most : ℕ) → nothing (outside n most) ≡ (nat_le 1 n && nat_le n most)
within n most = one (nat_le 1 n && nat_le n most) (breaks 0 0 spot.Whole n (if n == 0 then 1 else most))

stood : (plan : Plan) (clause s t : ℕ) (split : Option ℕ) → nothing (stands_off plan clause s t split) ≡ ((rate_at plan s t == plan.scale * unwrap_or split 0) && same_mark (mark_at plan s t) (is_some split))
stood plan clause s t split =
    two (rate_at plan s t == plan.scale * unwrap_or split 0) (same_mark (mark_at plan s t) (is_some split))
    (breaks clause s (spot.Tunnel t) (rate_at plan s t) (plan.scale * unwrap_or split 0))
    (breaks clause s (spot.Tunnel t) (as_number (mark_at plan s t)) (as_number (is_some split)))

module _ (p : Problem) (plan : Plan) where
  abbrev full : (s : ℕ) → Bool
  full s = (length (stage_at plan s).rates == length p.tunnels) && (length (stage_at plan s).installed == length p.tunnels)

  are_full : nothing (first_below (length plan.stages) (not_full p plan)) ≡ all_below (length plan.stages) full
  are_full = below (length plan.stages) (not_full p plan) full (λ s.
      two (length (stage_at plan s).rates == length p.tunnels) (length (stage_at plan s).installed == length p.tunnels)
      (breaks 0 s spot.Whole (length (stage_at plan s).rates) (length p.tunnels))
      (breaks 0 s spot.Whole (length (stage_at plan s).installed) (length p.tunnels)))

  -- every stage has a rate and a mark per tunnel where none is found without
  pub unbroken-full : first_below (length plan.stages) (not_full p plan) ≡ None → all_below (length plan.stages) full ≡ true
  unbroken-full e = sym are_full ∙ ap nothing e

  shape : nothing (misshapen p plan) ≡ has_shape p plan
  shape =
      let scale = nat_le 1 plan.scale && nat_le plan.scale LARGEST_SCALE in
      let least = nat_le 1 (length plan.stages) in
      let most = nat_le (length plan.stages) MOST_STAGES in
      first (first_of (outside plan.scale LARGEST_SCALE) (outside (length plan.stages) MOST_STAGES)) (first_below (length plan.stages) (not_full p plan))
      (scale && least && most) (all_below (length plan.stages) full)
      (first (outside plan.scale LARGEST_SCALE) (outside (length plan.stages) MOST_STAGES) scale (least && most) (within plan.scale LARGEST_SCALE) (within (length plan.stages) MOST_STAGES) ∙ and_regrouped scale least most)
      are_full

  old : nothing (off_side p plan 1 0 Old) ≡ begins_at_old p plan
  old = below (length p.tunnels) (λ t. stands_off plan 1 0 t (rate_on Old (tunnel_at p t)))
      (λ t. (rate_at plan 0 t == plan.scale * unwrap_or (tunnel_at p t).old 0) && same_mark (mark_at plan 0 t) (is_some (tunnel_at p t).old))
      (λ t. stood plan 1 0 t (tunnel_at p t).old)

  new : nothing (off_side p plan 2 (last_stage plan) New) ≡ ends_at_new p plan
  new = below (length p.tunnels) (λ t. stands_off plan 2 (last_stage plan) t (rate_on New (tunnel_at p t)))
      (λ t. (rate_at plan (last_stage plan) t == plan.scale * unwrap_or (tunnel_at p t).new 0) && same_mark (mark_at plan (last_stage plan) t) (is_some (tunnel_at p t).new))
      (λ t. stood plan 2 (last_stage plan) t (tunnel_at p t).new)

  abbrev holds : (s : ℕ) (r : Resource) → Bool
  holds s r = nat_le (step_total p plan s r) (capacity_of p plan r)

  held : (s : ℕ) (r : Resource) (at : Spot) → nothing (over p plan s r at) ≡ holds s r
  held s r at = one (holds s r) (breaks 3 s at (step_total p plan s r) (capacity_of p plan r))

  fits : nothing (first_below (length plan.stages) (over_step p plan)) ≡ fits_each_step p plan
  fits = below (length plan.stages) (over_step p plan)
      (λ s. all_below (length p.links) (λ l. holds s (the_link l)) && all_below (length p.switches) (λ w. holds s (the_table w)))
      (λ s. first (over_link p plan s) (over_table p plan s) (all_below (length p.links) (λ l. holds s (the_link l))) (all_below (length p.switches) (λ w. holds s (the_table w)))
      (below (length p.links) (λ l. over p plan s (the_link l) (spot.Link l)) (λ l. holds s (the_link l)) (λ l. held s (the_link l) (spot.Link l)))
      (below (length p.switches) (λ w. over p plan s (the_table w) (spot.Table w)) (λ w. holds s (the_table w)) (λ w. held s (the_table w) (spot.Table w))))

  carried : nothing (first_below (length plan.stages) (bare_at p plan)) ≡ carries_what_flows p plan
  carried = below (length plan.stages) (bare_at p plan) (λ s. all_below (length p.tunnels) (is_carried_at plan s))
      (λ s. below (length p.tunnels) (bare plan s) (is_carried_at plan s)
      (λ t. one (is_carried_at plan s t) (breaks 4 s (spot.Tunnel t) (bare_stage plan s t) s)))

  totals : nothing (first_below (length plan.stages) (astray_at p plan)) ≡ keeps_totals p plan
  totals = below (length plan.stages) (astray_at p plan) (λ s. all_below (length p.flows) (keeps_total_at p plan s))
      (λ s. below (length p.flows) (astray p plan s) (keeps_total_at p plan s)
      (λ f. one (keeps_total_at p plan s f)
      (breaks 5 s (spot.Flow f) (flow_total p (rate_at plan s) f) (passed_bound (old_total p plan f) (new_total p plan f) (flow_total p (rate_at plan s) f)))))

  -- a plan breaks no clause exactly where it is valid
  nothing-first_broken : nothing (first_broken p plan) ≡ is_valid_plan p plan
  nothing-first_broken =
      let step = first_below (length plan.stages) (over_step p plan) in
      let bared = first_below (length plan.stages) (bare_at p plan) in
      let strayed = first_below (length plan.stages) (astray_at p plan) in
      let a = misshapen p plan in
      let b = first_of a (off_side p plan 1 0 Old) in
      let c = first_of b (off_side p plan 2 (last_stage plan) New) in
      let d = first_of c step in
      let e = first_of d bared in
      let to_b = first a (off_side p plan 1 0 Old) (has_shape p plan) (begins_at_old p plan) shape old in
      let to_c = first b (off_side p plan 2 (last_stage plan) New) (has_shape p plan && begins_at_old p plan) (ends_at_new p plan) to_b new in
      let to_d = first c step (has_shape p plan && begins_at_old p plan && ends_at_new p plan) (fits_each_step p plan) to_c fits in
      let to_e = first d bared (has_shape p plan && begins_at_old p plan && ends_at_new p plan && fits_each_step p plan) (carries_what_flows p plan) to_d carried in
      first e strayed (has_shape p plan && begins_at_old p plan && ends_at_new p plan && fits_each_step p plan && carries_what_flows p plan) (keeps_totals p plan) to_e totals

  pub unbroken-valid : first_broken p plan ≡ None → is_valid_plan p plan ≡ true
  unbroken-valid e = sym nothing-first_broken ∙ ap nothing e

  pub broken-invalid : (b : Broken) → first_broken p plan ≡ Some b → is_valid_plan p plan ≡ false
  broken-invalid b e = sym nothing-first_broken ∙ ap nothing e

  pub valid-unbroken : is_valid_plan p plan ≡ true → first_broken p plan ≡ None
  valid-unbroken valid = none (first_broken p plan) (nothing-first_broken ∙ valid)
