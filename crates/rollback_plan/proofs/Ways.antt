-- The plan back is valid where the plan is.
use Rattle.std.proofs.Common.{◌≡◌, ℕ, ◌-◌, ◌*◌, ◌<◌, ◌≤◌, ◌⊎◌, Bool, true, false, ◌&&◌, ◌||◌, ◌==◌, nat_le, min, max, List, [], ◌∷◌, length, map, slice_index, slice_index_or, is_some, inl, inr, refl, sym, ap, ap₂, ◌∙◌, arith, le_trans, le_of_eq, leb-true, le-leb}
use Rattle.std.proofs.lemmas.Bool.{and_parts, and_from, cases_lt, or_cases, or_left, or_right}
use Rattle.std.proofs.lemmas.List.{length-reverse, reverse-reverse}
use Rattle.rollout_rules.specs.declared.limits.TheConstants.{MOST_STAGES, LARGEST_SCALE}
use Rattle.rollout_rules.specs.Sums.{sum_below, all_below}
use Rattle.rollout_rules.specs.Wan.{Problem, Plan, Tunnel, Stage, tunnel_at, flow_at, tunnel_of, old_rate, new_rate, stage_at, rate_at, mark_at, last_stage, next_stage}
use Rattle.rollout_rules.specs.Items.{Resource, the_link, the_table, is_resource, capacity_of, greater_rate, either_mark, step_maximum}
use Rattle.rollout_rules.specs.Valid.{is_valid_plan, has_shape, begins_at_old, ends_at_new, fits_each_step, carries_what_flows, keeps_totals, same_mark, step_total, is_carried_at, old_total, new_total, keeps_total_at}
use Rattle.rollout_rules.specs.declared.item.Item.{Item}
use Rattle.rollout_rules.specs.declared.item.Item.TheVariants as item
use Rattle.rollout_rules.proofs.Below.{sum_below-same, all_below-at, all_below-from}
use Rattle.rollout_rules.proofs.OverItems.{sum_items-mono, all_resources-from}
use Rattle.rollout_laws.proofs.Contents.{takes-mono, IsWithin}
use Rattle.rollout_laws.proofs.Validity.{IsValid, plan-is_valid}
use Rattle.rollback_plan.specs.Turning.{turned, back_problem, back_plan}
use Rattle.rollback_plan.proofs.Alike.{tunnel-turned, tunnels-turned, sum_items-turned, takes-turned}
use Rattle.rollback_plan.proofs.Mirror.{last-turned, stage-turned, rate-turned, mark-turned}

-- the six clauses of a valid plan
record AreKept (p : Problem) (plan : Plan) : Type 0 where
  shape : has_shape p plan ≡ true
  old : begins_at_old p plan ≡ true
  new : ends_at_new p plan ≡ true
  fits : fits_each_step p plan ≡ true
  carries : carries_what_flows p plan ≡ true
  totals : keeps_totals p plan ≡ true

valid-kept : (p : Problem) (plan : Plan) → is_valid_plan p plan ≡ true → AreKept p plan
valid-kept p plan valid =
    let a = and_parts (has_shape p plan && begins_at_old p plan && ends_at_new p plan && fits_each_step p plan && carries_what_flows p plan) (keeps_totals p plan) valid in
    let b = and_parts (has_shape p plan && begins_at_old p plan && ends_at_new p plan && fits_each_step p plan) (carries_what_flows p plan) a.0 in
    let c = and_parts (has_shape p plan && begins_at_old p plan && ends_at_new p plan) (fits_each_step p plan) b.0 in
    let d = and_parts (has_shape p plan && begins_at_old p plan) (ends_at_new p plan) c.0 in
    let e = and_parts (has_shape p plan) (begins_at_old p plan) d.0 in
    record { shape = e.0; old = e.1; new = d.1; fits = c.1; carries = b.1; totals = a.1 }

kept-valid : (p : Problem) (plan : Plan) → AreKept p plan → is_valid_plan p plan ≡ true
kept-valid p plan kept =
    and_from _ _ (and_from _ _ (and_from _ _ (and_from _ _ (and_from _ _ kept.shape kept.old) kept.new) kept.fits) kept.carries) kept.totals

-- a stage has a rate and a mark for each of so many tunnels
abbrev is_full : ℕ → Stage → Bool
is_full n g = (length g.rates == n) && (length g.installed == n)

-- outer marks exchanged
marks-exchanged : (z a b c : Bool) → (z || (a && b && c)) ≡ (z || (c && b && a))
marks-exchanged true a b c = refl
marks-exchanged false true true true = refl
marks-exchanged false true true false = refl
marks-exchanged false true false true = refl
marks-exchanged false true false false = refl
marks-exchanged false false true true = refl
marks-exchanged false false true false = refl
marks-exchanged false false false true = refl
marks-exchanged false false false false = refl

-- a number between two others is so when these are exchanged
between-exchanged : (low high x a b : ℕ) → low ≡ b → high ≡ a → nat_le (min a b) x && nat_le x (max a b) ≡ true → nat_le (min low high) x && nat_le x (max low high) ≡ true
between-exchanged low high x a b is_b is_a both =
    let parts = and_parts (nat_le (min a b) x) (nat_le x (max a b)) both in
    let least = leb-true (min a b) x parts.0 in
    let most = leb-true x (max a b) parts.1 in
    and_from _ _ (le-leb (min low high) x (omega (arith, least, is_a, is_b))) (le-leb x (max low high) (omega (arith, most, is_a, is_b)))

module _ (p : Problem) (plan : Plan) (valid : is_valid_plan p plan ≡ true) where
  abbrev q : Problem
  q = back_problem p

  abbrev there : Plan
  there = back_plan plan

  abbrev last : ℕ
  last = last_stage plan

  is : IsValid p plan
  is = plan-is_valid p plan valid

  kept : AreKept p plan
  kept = valid-kept p plan valid

  as_many : length there.stages ≡ length plan.stages
  as_many = length-reverse plan.stages

  -- a stage of the way back, and where it stands on the way there
  inside : (s : ℕ) → s < length there.stages → s < length plan.stages
  inside s lt = omega (arith, lt, as_many)

  back_in : (s : ℕ) → s < length there.stages → last - s < length plan.stages
  back_in s lt = omega (arith, lt, as_many)

  shape-back : has_shape q there ≡ true
  shape-back =
      let n = length plan.stages in
      let scale = nat_le 1 plan.scale && nat_le plan.scale LARGEST_SCALE in
      let rows = all_below n (λ s. is_full (length p.tunnels) (stage_at plan s)) in
      let a = and_parts (scale && nat_le 1 n && nat_le n MOST_STAGES) rows kept.shape in
      let b = and_parts (scale && nat_le 1 n) (nat_le n MOST_STAGES) a.0 in
      let c = and_parts scale (nat_le 1 n) b.0 in
      let full : (s : ℕ) → s < length there.stages → is_full (length q.tunnels) (stage_at there s) ≡ true =
      λ s lt. ap₂ is_full (tunnels-turned p) (stage-turned plan s (inside s lt)) ∙ all_below-at n (λ u. is_full (length p.tunnels) (stage_at plan u)) a.1 (last - s) (back_in s lt) in
      and_from _ _ (and_from _ _ (and_from _ _ c.0 (ap (nat_le 1) as_many ∙ c.1)) (ap (λ m. nat_le m MOST_STAGES) as_many ∙ b.1))
      (all_below-from (length there.stages) (λ s. is_full (length q.tunnels) (stage_at there s)) full)

  -- what a stage has of a tunnel that is to have this rate and to be installed there or not
  abbrev agrees : Stage → Tunnel → ℕ → Bool
  agrees g t k = (slice_index g.rates k == plan.scale * old_rate t) && same_mark (slice_index_or g.installed k false) (is_some t.old)

  some : 0 < length plan.stages
  some = omega (arith, is.stages)

  old-back : begins_at_old q there ≡ true
  old-back =
      all_below-from (length q.tunnels) (λ k. agrees (stage_at there 0) (tunnel_at q k) k) (λ k lt.
      let all : last - 0 ≡ last = omega arith in
      let first : stage_at there 0 ≡ stage_at plan last = stage-turned plan 0 some ∙ ap (stage_at plan) all in
      ap₂ (λ g t. agrees g t k) first (tunnel-turned p k)
      ∙ all_below-at (length p.tunnels) (λ k. agrees (stage_at plan last) (turned (tunnel_at p k)) k) kept.new k (omega (arith, lt, tunnels-turned p)))

  new-back : ends_at_new q there ≡ true
  new-back =
      all_below-from (length q.tunnels) (λ k. agrees (stage_at there (last_stage there)) (turned (tunnel_at q k)) k) (λ k lt.
      let end : last_stage there < length plan.stages = omega (arith, last-turned plan, is.stages) in
      let zero_is : last - last_stage there ≡ 0 = omega (arith, last-turned plan) in
      let first : stage_at there (last_stage there) ≡ stage_at plan 0 = stage-turned plan (last_stage there) end ∙ ap (stage_at plan) zero_is in
      ap₂ (λ g t. agrees g (turned t) k) first (tunnel-turned p k)
      ∙ all_below-at (length p.tunnels) (λ k. agrees (stage_at plan 0) (tunnel_at p k) k) kept.old k (omega (arith, lt, tunnels-turned p)))

  -- the step from stage s on the way back is that from stage Q - s - 1 on the way there, turned round
  abbrev turned_step : ℕ → ℕ
  turned_step s = last - s - 1

  abbrev IsEnd : ℕ → ℕ → Type 0
  IsEnd u v = (v ≡ u) ⊎ (v ≡ next_stage plan u)

  end-rate : (u v t : ℕ) → IsEnd u v → rate_at plan v t ≤ greater_rate plan u t
  end-rate u v t (inl e) = let same = ap (λ w. rate_at plan w t) e in omega (arith, same)
  end-rate u v t (inr e) = let same = ap (λ w. rate_at plan w t) e in omega (arith, same)

  end-mark : (u v t : ℕ) → IsEnd u v → mark_at plan v t ≡ true → either_mark plan u t ≡ true
  end-mark u v t (inl e) here = or_left (mark_at plan u t) (mark_at plan (next_stage plan u) t) (sym (ap (λ w. mark_at plan w t) e) ∙ here)
  end-mark u v t (inr e) here = or_right (mark_at plan u t) (mark_at plan (next_stage plan u) t) (sym (ap (λ w. mark_at plan w t) e) ∙ here)

  near-end : (s : ℕ) → s ≤ last → IsEnd (turned_step s) (last - s)
  near-end s le = elim (cases_lt s last) as (λ c. (last - s ≡ turned_step s) ⊎ (last - s ≡ next_stage plan (turned_step s))) [
    | inl before ↦ inr (omega (arith, before))
    | inr at ↦ inl (omega (arith, at))
  ]

  far-end : (s : ℕ) → s ≤ last → IsEnd (turned_step s) (last - next_stage there s)
  far-end s le = inl (omega (arith, le, last-turned plan))

  step-back : (s : ℕ) → s < length there.stages → (i : Item) (r : Resource) → step_maximum q there s i r ≤ step_maximum p plan (turned_step s) i r
  step-back s lt i r =
      le_trans (le_of_eq (takes-turned p (greater_rate there s) (λ t h. either_mark there s t) i r))
      (takes-mono p (greater_rate there s) (greater_rate plan (turned_step s)) (λ t h. either_mark there s t) (λ t h. either_mark plan (turned_step s) t) i r (within i))
    where
      le : s ≤ last
      le = omega (arith, lt, as_many)

      next_in : next_stage there s < length plan.stages
      next_in = omega (arith, last-turned plan, is.stages)

      within : (i : Item) → IsWithin p (greater_rate there s) (λ t h. either_mark there s t) (greater_rate plan (last - s - 1)) (λ t h. either_mark plan (last - s - 1) t) i
      within (item.Flow f) = λ j few.
          let t = tunnel_of p f j in
          let near = end-rate (turned_step s) (last - s) t (near-end s le) in
          let far = end-rate (turned_step s) (last - next_stage there s) t (far-end s le) in
          omega (arith, near, far, rate-turned plan s t (inside s lt), rate-turned plan (next_stage there s) t next_in)
      within (item.Entry t h) = λ either. elim (or_cases (mark_at there s t) (mark_at there (next_stage there s) t) either) as (λ c. either_mark plan (turned_step s) t ≡ true) [
        | inl here ↦ end-mark (turned_step s) (last - s) t (near-end s le) (sym (mark-turned plan s t (inside s lt)) ∙ here)
        | inr next ↦ end-mark (turned_step s) (last - next_stage there s) t (far-end s le) (sym (mark-turned plan (next_stage there s) t next_in) ∙ next)
      ]

  capacity-back : (r : Resource) → capacity_of p plan r ≡ capacity_of q there r
  capacity-back (the_link l) = refl
  capacity-back (the_table w) = refl

  is_resource-back : (r : Resource) → is_resource q r ≡ is_resource p r
  is_resource-back (the_link l) = refl
  is_resource-back (the_table w) = refl

  total-back : (s : ℕ) → s < length there.stages → (r : Resource) → is_resource q r ≡ true → step_total q there s r ≤ capacity_of q there r
  total-back s lt r here =
      let u = last - s - 1 in
      let sums = sum_items-turned p (λ i. step_maximum q there s i r) in
      let less = sum_items-mono p (λ i. step_maximum q there s i r) (λ i. step_maximum p plan u i r) (λ i found. step-back s lt i r) in
      let fits = is.step u (omega arith) r (sym (is_resource-back r) ∙ here) in
      le_trans (le_of_eq sums) (le_trans less (le_trans fits (le_of_eq (capacity-back r))))

  fits-back : fits_each_step q there ≡ true
  fits-back =
      all_below-from (length there.stages) _
      (λ s lt. all_resources-from q (λ r. nat_le (step_total q there s r) (capacity_of q there r)) (λ r here. le-leb (step_total q there s r) (capacity_of q there r) (total-back s lt r here)))

  carried-back : (s t : ℕ) → s < length there.stages → t < length q.tunnels → is_carried_at there s t ≡ true
  carried-back s t lt few =
      let u = last - s in
      let le : s ≤ last = omega (arith, lt, as_many) in
      let next_in : next_stage there s < length plan.stages = omega (arith, last-turned plan, is.stages) in
      let before_in : s - 1 < length plan.stages = omega (arith, lt, as_many) in
      let before : last - (s - 1) ≡ next_stage plan u = omega (arith, le) in
      let behind : last - next_stage there s ≡ u - 1 = omega (arith, le, last-turned plan) in
      let rate = rate-turned plan s t (inside s lt) in
      let mark = mark-turned plan s t (inside s lt) in
      let first = mark-turned plan (s - 1) t before_in ∙ ap (λ v. mark_at plan v t) before in
      let second = mark-turned plan (next_stage there s) t next_in ∙ ap (λ v. mark_at plan v t) behind in
      ap₂ (λ n a. (n == 0) || (a && mark_at there s t && mark_at there (next_stage there s) t)) rate first
      ∙ ap₂ (λ b c. (rate_at plan u t == 0) || (mark_at plan (next_stage plan u) t && b && c)) mark second
      ∙ marks-exchanged (rate_at plan u t == 0) (mark_at plan (next_stage plan u) t) (mark_at plan u t) (mark_at plan (u - 1) t)
      ∙ is.carried u t (omega arith) (omega (arith, few, tunnels-turned p))

  carries-back : carries_what_flows q there ≡ true
  carries-back = all_below-from (length there.stages) _ (λ s lt. all_below-from (length q.tunnels) (is_carried_at there s) (λ t few. carried-back s t lt few))

  old_total-back : (f : ℕ) → old_total q there f ≡ new_total p plan f
  old_total-back f = ap (λ n. plan.scale * n) (sum_below-same (flow_at p f).tunnels (λ j. old_rate (tunnel_at q (tunnel_of p f j))) (λ j. new_rate (tunnel_at p (tunnel_of p f j)))
      (λ j few. ap old_rate (tunnel-turned p (tunnel_of p f j))))

  new_total-back : (f : ℕ) → new_total q there f ≡ old_total p plan f
  new_total-back f = ap (λ n. plan.scale * n) (sum_below-same (flow_at p f).tunnels (λ j. new_rate (tunnel_at q (tunnel_of p f j))) (λ j. old_rate (tunnel_at p (tunnel_of p f j)))
      (λ j few. ap new_rate (tunnel-turned p (tunnel_of p f j))))

  total_kept-back : (s f : ℕ) → s < length there.stages → f < length q.flows → keeps_total_at q there s f ≡ true
  total_kept-back s f lt few =
      let u = last - s in
      let x : Stage → ℕ = λ g. sum_below (flow_at p f).tunnels (λ j. slice_index g.rates (tunnel_of p f j)) in
      let low = old_total q there f in
      let high = new_total q there f in
      let on_the_way = all_below-at (length p.flows) (keeps_total_at p plan u) (all_below-at (length plan.stages) _ kept.totals u (back_in s lt)) f few in
      ap (λ g. nat_le (min low high) (x g) && nat_le (x g) (max low high)) (stage-turned plan s (inside s lt))
      ∙ between-exchanged low high (x (stage_at plan u)) (old_total p plan f) (new_total p plan f) (old_total-back f) (new_total-back f) on_the_way

  totals-back : keeps_totals q there ≡ true
  totals-back = all_below-from (length there.stages) _ (λ s lt. all_below-from (length q.flows) (keeps_total_at q there s) (λ f few. total_kept-back s f lt few))

  pub back-is_valid : is_valid_plan q there ≡ true
  back-is_valid = kept-valid q there (record {
    shape = shape-back;
    old = old-back;
    new = new-back;
    fits = fits-back;
    carries = carries-back;
    totals = totals-back;
  })

-- turned round twice
turned-twice : (ts : List Tunnel) → map turned (map turned ts) ≡ ts
turned-twice [] = refl
turned-twice (t ∷ ts) = ap (λ rest. t ∷ rest) (turned-twice ts)

pub problem-twice : (p : Problem) → back_problem (back_problem p) ≡ p
problem-twice p = ap (λ (ts : List Tunnel). record p { tunnels = ts }) (turned-twice p.tunnels)

pub plan-twice : (plan : Plan) → back_plan (back_plan plan) ≡ plan
plan-twice plan = ap (λ (gs : List Stage). record plan { stages = gs }) (reverse-reverse plan.stages)
