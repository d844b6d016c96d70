-- The rates of a plan of at most q rate steps are the numbers of a point of the program for q steps.
use Rattle.std.proofs.Common.{◌≡◌, ℕ, zero, suc, ◌+◌, ◌-◌, ◌*◌, ◌<◌, ◌≤◌, min, max, Bool, true, false, pos, List, [], ◌∷◌, ◌++◌, map, length, get_or, if◌then◌else◌, inl, inr, refl, sym, ap, ◌∙◌, subst, arith, lt-ltb, le-ltb, eq-eqb, nat_lt, mul-le-mul_left, mul-le-mul_right}
use Rattle.std.specs.Prelude.{All, ◌==◌}
use Rattle.std.proofs.lemmas.Bool.{cases_lt, cases_eq, ne_eqb}
use Rattle.std.proofs.lemmas.List.{length-map, get_or_append_left, get_or-append-add, get_or_push, get_or-map}
use Rattle.std.proofs.lemmas.List.Elements.{All-map}
use Rattle.lists.proofs.Conditions.{counted_if}
use Rattle.lists.proofs.Numbers.{at_most_through}
use Rattle.rollout_rules.specs.Sums.{count_below}
use Rattle.rollout_rules.specs.Wan.{Problem, Plan, tunnel_at, link_at, tunnel_of, old_rate, new_rate, rate_at}
use Rattle.rollout_rules.specs.Network.{IsNetwork}
use Rattle.rollout_rules.specs.Items.{load, greater_rate}
use Rattle.rollout_rules.specs.Valid.{flow_total}
use Rattle.rollout_rules.proofs.Below.{sum_below-same, sum_below-up}
use Rattle.rollout_rules.proofs.Tunnels.{tunnels_of, tunnel_of-below}
use Rattle.scratch_plan.proofs.Frames.{load-mono}
use Rattle.fraction_lp.specs.Ratio.{Ratio, ratio, zero_ratio}
use Rattle.fraction_lp.specs.Program.{IsNotNegative}
use Rattle.fraction_lp.proofs.Arithmetic.{Told, ratio_means}
use Rattle.fraction_lp.proofs.Signs.{up_told}
use Rattle.step_lp.specs.Program.{joined_below, used_at, used_to, used_tunnels, used_count, rate_blocks, blocks, unknowns, old_sum, new_sum}
use Rattle.step_lp.specs.Moves.{rate_in, top_in, place_of, number_in, AreMoves, HasUnits, IsMove}
use Rattle.step_lp.proofs.Lists.{length-joined_below, sum_below-times, All-joined_below}
use Rattle.step_lp.proofs.Sizes.{length-used_to, length-used_tunnels}
use Rattle.step_lp.proofs.Standing.{place-below, one_more_times}
use Rattle.lp_proof.specs.RateSteps.{rate_steps, LeavesAtRest}
use Rattle.plan_check.proofs.Opened.{MovesWithin}
use Rattle.lp_proof.proofs.Moving.{stand_at, stand-most, stand-first, stand-last, stand-next}

-- ---- the numbers

-- the rate of a tunnel after a rate steps
abbrev pub level : Problem → Plan → ℕ → ℕ → ℕ
level p plan a t = rate_at plan (stand_at p plan a) t

-- what a block has for a used tunnel: its rate after so many steps, or its top in a step
abbrev pub number_of : Problem → Plan → ℕ → ℕ → ℕ → ℕ
number_of p plan q b t =
    if nat_lt b (rate_blocks q) then level p plan (b + 1) t
    else max (level p plan (b - rate_blocks q) t) (level p plan (b - rate_blocks q + 1) t)

abbrev pub numbers : Problem → Plan → ℕ → ℕ → ℕ → ℕ
numbers p plan q b t = if used_at p t then number_of p plan q b t else 0

abbrev pub block_of : Problem → Plan → ℕ → ℕ → List Ratio
block_of p plan q b = map (λ t. ratio (pos (numbers p plan q b t)) plan.scale) (used_tunnels p)

abbrev pub point_of : Problem → Plan → ℕ → List Ratio
point_of p plan q = joined_below (blocks q) (block_of p plan q)

-- ---- where they stand

at-used : (p : Problem) (n t d : ℕ) → t < n → used_at p t ≡ true → get_or (used_to p n) (place_of p t) d ≡ t
at-used p zero t d lt used = absurd (omega arith)
at-used p (suc n) t d lt used = elim (cases_lt t n) as (λ c. get_or (used_to p n ++ (if used_at p n then n ∷ [] else [])) (place_of p t) d ≡ t) [
  | inl below ↦
      let ahead : count_below (suc t) (used_at p) ≤ count_below n (used_at p) = sum_below-up (suc t) n (λ k. if used_at p k then 1 else 0) below in
      let own : count_below (suc t) (used_at p) ≡ place_of p t + 1 = rw used refl in
      let within : place_of p t < length (used_to p n) = omega (arith, length-used_to p n) in
      get_or_append_left (used_to p n) (if used_at p n then n ∷ [] else []) d (place_of p t) within ∙ at-used p n t d below used
  | inr above ↦
      let here : t ≡ n = omega arith in
      last_used (used_at p n) (subst (λ (k : ℕ). used_at p k ≡ true) here used) here
]
  where
    last_used : (b : Bool) → b ≡ true → t ≡ n → get_or (used_to p n ++ (if b then n ∷ [] else [])) (place_of p t) d ≡ t
    last_used b is here =
        ap (λ (c : Bool). get_or (used_to p n ++ (if c then n ∷ [] else [])) (place_of p t) d) is
        ∙ get_or_push (used_to p n) n d (place_of p t) (length-used_to p n ∙ ap (λ k. count_below k (used_at p)) (sym here))
        ∙ sym here

at-joined : {A : Type 0} (m size : ℕ) (f : ℕ → List A) (d : A) (b k : ℕ) → ((j : ℕ) → length (f j) ≡ size) → b < m → k < size →
    get_or (joined_below m f) (b * size + k) d ≡ get_or (f b) k d
at-joined zero size f d b k each low lt = absurd (omega arith)
at-joined (suc m) size f d b k each low lt = elim (cases_lt b m) as (λ c. get_or (joined_below m f ++ f m) (b * size + k) d ≡ get_or (f b) k d) [
  | inl below ↦
      let long : length (joined_below m f) ≡ m * size = length-joined_below m f ∙ sum_below-times m size (λ j. length (f j)) (λ j inside. each j) in
      get_or_append_left (joined_below m f) (f m) d (b * size + k) (within b m size k (length (joined_below m f)) below lt long) ∙ at-joined m size f d b k each below lt
  | inr above ↦
      let long : length (joined_below m f) ≡ m * size = length-joined_below m f ∙ sum_below-times m size (λ j. length (f j)) (λ j inside. each j) in
      let here : b ≡ m = omega arith in
      ap (λ n. get_or (joined_below m f ++ f m) n d) (ap (λ n. n * size + k) here ∙ ap (λ n. n + k) (sym long))
      ∙ get_or-append-add (joined_below m f) (f m) k d
      ∙ ap (λ n. get_or (f n) k d) (sym here)
]
  where
    within : (b m size k n : ℕ) → b < m → k < size → n ≡ m * size → b * size + k < n
    within b m size k n low lt e =
        let next : (b + 1) * size ≤ m * size = mul-le-mul_right size (omega arith) in
        let spread : (b + 1) * size ≡ b * size + size = one_more_times b size in
        omega (arith, next, spread)

-- ---- the point has these units

module _ (p : Problem) (plan : Plan) (q : ℕ) where
  block-length : (b : ℕ) → length (block_of p plan q b) ≡ used_count p
  block-length b = length-map (used_tunnels p) (λ t. ratio (pos (numbers p plan q b t)) plan.scale) ∙ length-used_tunnels p

  point-length : length (point_of p plan q) ≡ unknowns p q
  point-length =
      length-joined_below (blocks q) (block_of p plan q)
      ∙ sum_below-times (blocks q) (used_count p) (λ b. length (block_of p plan q b)) (λ b low. block-length b)

  point-at : (b t : ℕ) → b < blocks q → t < length p.tunnels → used_at p t ≡ true →
      number_in p (point_of p plan q) b t ≡ ratio (pos (numbers p plan q b t)) plan.scale
  point-at b t low lt used =
      let place : place_of p t < used_count p = place-below p t lt used in
      let inside : place_of p t < length (used_tunnels p) = omega (arith, length-used_tunnels p) in
      at-joined (blocks q) (used_count p) (block_of p plan q) zero_ratio b (place_of p t) block-length low place
      ∙ get_or-map (λ u. ratio (pos (numbers p plan q b u)) plan.scale) (used_tunnels p) (place_of p t) t zero_ratio inside
      ∙ ap (λ u. ratio (pos (numbers p plan q b u)) plan.scale) (at-used p (length p.tunnels) t t lt used)

  units_not_negative : (n : ℕ) → 1 ≤ plan.scale → IsNotNegative (ratio (pos n) plan.scale)
  units_not_negative n some =
      let told : Told (ratio (pos n) plan.scale) = record { u = n; d = 0; b = plan.scale; is = ratio_means (pos n) plan.scale some } in
      up_told told (omega arith)

  point-not_negative : 1 ≤ plan.scale → All IsNotNegative (point_of p plan q)
  point-not_negative some =
      All-joined_below IsNotNegative (blocks q) (block_of p plan q) (λ b low.
      All-map IsNotNegative (λ t. ratio (pos (numbers p plan q b t)) plan.scale) (used_tunnels p)
      (λ k d lt. units_not_negative (numbers p plan q b (get_or (used_tunnels p) k d)) some))

  unused : (b t : ℕ) → used_at p t ≡ false → numbers p plan q b t ≡ 0
  unused b t e = ap (λ (c : Bool). if c then number_of p plan q b t else 0) e

  pub has_units : 1 ≤ plan.scale → HasUnits p q plan.scale (numbers p plan q) (point_of p plan q)
  has_units some = record {
    some = some;
    one_each = point-length;
    each = point-at;
    idle = unused;
  }

-- ---- the numbers are moves

at_most_used : (b : Bool) (x : ℕ) → (if b then x else 0) ≤ x
at_most_used true x = omega arith
at_most_used false x = omega arith

first_or : (b : Bool) (x y : ℕ) → b ≡ true → (if b then x else y) ≡ x
first_or b x y e = ap (λ (c : Bool). if c then x else y) e

second_or : (b : Bool) (x y : ℕ) → b ≡ false → (if b then x else y) ≡ y
second_or b x y e = ap (λ (c : Bool). if c then x else y) e

times-min : (k a b n : ℕ) → min (k * a) (k * b) ≤ n → k * min a b ≤ n
times-min k a b n h =
    let one : k * min a b ≤ k * a = mul-le-mul_left k (omega arith) in
    let two : k * min a b ≤ k * b = mul-le-mul_left k (omega arith) in
    omega (arith, one, two)

times-max : (k a b n : ℕ) → n ≤ max (k * a) (k * b) → n ≤ k * max a b
times-max k a b n h =
    let one : k * a ≤ k * max a b = mul-le-mul_left k (omega arith) in
    let two : k * b ≤ k * max a b = mul-le-mul_left k (omega arith) in
    omega (arith, one, two)

turned : (c s n : ℕ) → n ≤ c * s → n ≤ s * c
turned c s n h = omega arith

le_first : (x m a b : ℕ) → x ≡ a → m ≡ max a b → x ≤ m
le_first x m a b e f = omega arith

le_second : (x m a b : ℕ) → x ≡ b → m ≡ max a b → x ≤ m
le_second x m a b e f = omega arith

module _ (p : Problem) (plan : Plan) (q : ℕ) (net : IsNetwork p) (within : MovesWithin p plan) (rest : LeavesAtRest p plan) (few : rate_steps p plan ≤ q) (two : 2 ≤ q) where
  top-number : (s t : ℕ) → number_of p plan q (rate_blocks q + s) t ≡ max (level p plan s t) (level p plan (s + 1) t)
  top-number s t =
      let past : nat_lt (rate_blocks q + s) (rate_blocks q) ≡ false = le-ltb (rate_blocks q + s) (rate_blocks q) (omega arith) in
      let back : rate_blocks q + s - rate_blocks q ≡ s = omega arith in
      second_or (nat_lt (rate_blocks q + s) (rate_blocks q)) (level p plan (rate_blocks q + s + 1) t)
      (max (level p plan (rate_blocks q + s - rate_blocks q) t) (level p plan (rate_blocks q + s - rate_blocks q + 1) t)) past
      ∙ ap (λ k. max (level p plan k t) (level p plan (k + 1) t)) back

  rate-number : (b t : ℕ) → b < rate_blocks q → number_of p plan q b t ≡ level p plan (b + 1) t
  rate-number b t low =
      first_or (nat_lt b (rate_blocks q)) (level p plan (b + 1) t)
      (max (level p plan (b - rate_blocks q) t) (level p plan (b - rate_blocks q + 1) t)) (lt-ltb b (rate_blocks q) low)

  -- the top of a used tunnel is the larger of its rates before and after the step
  top-level : (s t : ℕ) → used_at p t ≡ true → top_in q (numbers p plan q) s t ≡ max (level p plan s t) (level p plan (s + 1) t)
  top-level s t used = counted_if (used_at p t) (number_of p plan q (rate_blocks q + s) t) used ∙ top-number s t

  top-most : (s t : ℕ) → top_in q (numbers p plan q) s t ≤ max (level p plan s t) (level p plan (s + 1) t)
  top-most s t =
      subst (λ n. top_in q (numbers p plan q) s t ≤ n) (top-number s t)
      (at_most_used (used_at p t) (number_of p plan q (rate_blocks q + s) t))

  -- its rate at each rate stage is the one after so many steps
  level-first : (t : ℕ) → t < length p.tunnels → plan.scale * old_rate (tunnel_at p t) ≡ level p plan 0 t
  level-first t lt = sym (within.first t lt) ∙ stand-first p plan t lt

  level-last : (t : ℕ) → t < length p.tunnels → plan.scale * new_rate (tunnel_at p t) ≡ level p plan q t
  level-last t lt = sym (within.last t lt) ∙ ap (λ k. rate_at plan k t) (sym (stand-last p plan q few))

  between : (a t : ℕ) → 0 < a → a < q → t < length p.tunnels → (b : Bool) → used_at p t ≡ b → numbers p plan q (a - 1) t ≡ level p plan a t
  between a t some low lt true used =
      let back : a - 1 + 1 ≡ a = omega arith in
      counted_if (used_at p t) (number_of p plan q (a - 1) t) used ∙ rate-number (a - 1) t (omega arith) ∙ ap (λ k. level p plan k t) back
  between a t some low lt false idle =
      let inside : stand_at p plan a < length plan.stages = omega (arith, stand-most p plan a, within.count) in
      unused p plan q (a - 1) t idle ∙ sym (rest (stand_at p plan a) t inside lt idle)

  pub rate_in-level : (a t : ℕ) → a ≤ q → t < length p.tunnels → rate_in p q plan.scale (numbers p plan q) a t ≡ level p plan a t
  rate_in-level a t le lt = elim (cases_eq a 0) as (λ c. rate_in p q plan.scale (numbers p plan q) a t ≡ level p plan a t) [
    | inl none ↦
        first_or (a == 0) (plan.scale * old_rate (tunnel_at p t)) (if a == q then plan.scale * new_rate (tunnel_at p t) else numbers p plan q (a - 1) t) (eq-eqb a 0 none)
        ∙ level-first t lt ∙ ap (λ k. level p plan k t) (sym none)
    | inr some ↦ elim (cases_eq a q) as (λ c. rate_in p q plan.scale (numbers p plan q) a t ≡ level p plan a t) [
      | inl all ↦
          second_or (a == 0) (plan.scale * old_rate (tunnel_at p t)) (if a == q then plan.scale * new_rate (tunnel_at p t) else numbers p plan q (a - 1) t) (ne_eqb a 0 some)
          ∙ first_or (a == q) (plan.scale * new_rate (tunnel_at p t)) (numbers p plan q (a - 1) t) (eq-eqb a q all)
          ∙ level-last t lt ∙ ap (λ k. level p plan k t) (sym all)
      | inr part ↦
          second_or (a == 0) (plan.scale * old_rate (tunnel_at p t)) (if a == q then plan.scale * new_rate (tunnel_at p t) else numbers p plan q (a - 1) t) (ne_eqb a 0 some)
          ∙ second_or (a == q) (plan.scale * new_rate (tunnel_at p t)) (numbers p plan q (a - 1) t) (ne_eqb a q part)
          ∙ between a t (positive some) (below part) lt (used_at p t) refl
    ]
  ]
    where
      positive : (a ≡ 0 → ⊥) → 0 < a
      positive some = elim (cases_lt 0 a) as (λ c. 0 < a) [
        | inl more ↦ more
        | inr none ↦ let zero' : a ≡ 0 = omega arith in absurd (some zero')
      ]

      below : (a ≡ q → ⊥) → a < q
      below part = elim (cases_lt a q) as (λ c. a < q) [
        | inl less ↦ less
        | inr more ↦ let all : a ≡ q = omega arith in absurd (part all)
      ]

  -- a step's tops fit, since the step from where the plan stands does
  links_fit : (s l : ℕ) → s < q → l < length p.links → load p (top_in q (numbers p plan q) s) l ≤ plan.scale * (link_at p l).capacity
  links_fit s l low inside =
      let x : ℕ = stand_at p plan s in
      let less : load p (top_in q (numbers p plan q) s) l ≤ load p (greater_rate plan x) l =
      load-mono p (top_in q (numbers p plan q) s) (greater_rate plan x) l (λ t lt.
      subst (λ n. top_in q (numbers p plan q) s t ≤ max (rate_at plan x t) n) (sym (stand-next p plan s t lt)) (top-most s t)) in
      let fits : load p (greater_rate plan x) l ≤ (link_at p l).capacity * plan.scale = within.links x l (stand-most p plan s) inside in
      turned (link_at p l).capacity plan.scale (load p (top_in q (numbers p plan q) s) l)
      (at_most_through (load p (top_in q (numbers p plan q) s) l) (load p (greater_rate plan x) l) ((link_at p l).capacity * plan.scale) less fits)

  -- a flow's total at a rate stage is its total where the plan stands
  total-level : (a f : ℕ) → a ≤ q → f < length p.flows → flow_total p (rate_in p q plan.scale (numbers p plan q) a) f ≡ flow_total p (rate_at plan (stand_at p plan a)) f
  total-level a f le inside =
      sum_below-same (tunnels_of p f) (λ j. rate_in p q plan.scale (numbers p plan q) a (tunnel_of p f j)) (λ j. rate_at plan (stand_at p plan a) (tunnel_of p f j))
      (λ j low. rate_in-level a (tunnel_of p f j) le (tunnel_of-below p f j net inside low))

  pub are_moves : AreMoves p q plan.scale (numbers p plan q)
  are_moves = record {
    before = λ s t low lt used.
        le_first (rate_in p q plan.scale (numbers p plan q) s t) (top_in q (numbers p plan q) s t) (level p plan s t) (level p plan (s + 1) t)
        (rate_in-level s t (omega arith) lt) (top-level s t used);
    behind = λ s t low lt used.
        le_second (rate_in p q plan.scale (numbers p plan q) (s + 1) t) (top_in q (numbers p plan q) s t) (level p plan s t) (level p plan (s + 1) t)
        (rate_in-level (s + 1) t (omega arith) lt) (top-level s t used);
    links = links_fit;
    least = λ a f some low inside.
        times-min plan.scale (old_sum p f) (new_sum p f) (flow_total p (rate_in p q plan.scale (numbers p plan q) a) f)
        (subst (λ n. min (plan.scale * old_sum p f) (plan.scale * new_sum p f) ≤ n) (sym (total-level a f (omega arith) inside))
        (within.least (stand_at p plan a) f (stand-most p plan a) inside));
    most = λ a f some low inside.
        times-max plan.scale (old_sum p f) (new_sum p f) (flow_total p (rate_in p q plan.scale (numbers p plan q) a) f)
        (subst (λ n. n ≤ max (plan.scale * old_sum p f) (plan.scale * new_sum p f)) (sym (total-level a f (omega arith) inside))
        (within.most (stand_at p plan a) f (stand-most p plan a) inside));
  }

  pub is_move : IsMove p q (point_of p plan q)
  is_move = record {
    not_negative = point-not_negative p plan q within.some;
    scale = plan.scale;
    numbers = numbers p plan q;
    units = has_units p plan q within.some;
    moves = are_moves;
  }
