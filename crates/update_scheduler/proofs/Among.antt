-- The items of a row that are offered, in order, are those of the row among all that are.
use Rattle.std.proofs.Common.{◌≡◌, ℕ, zero, suc, ◌+◌, ◌<◌, Bool, true, false, not, ◌&&◌, ◌||◌, ◌==◌, if◌then◌else◌, cond, List, [], ◌∷◌, ◌++◌, map, filter, length, slice_index, inl, inr, refl, sym, ap, ◌∙◌, subst, arith, eq-eqb, ne_eqb, eqb-true}
use Rattle.std.specs.List.{AllByRecursion}
use Rattle.std.proofs.lemmas.Bool.{cases_Bool, cases_eq, or_cases, false_from_ne_true}
use Rattle.rollout_rules.specs.Sums.{sum_below, list_below}
use Rattle.rollout_rules.specs.Items.{item_count}
use Rattle.rollout_rules.specs.Release.{in_order_of, is_held_back}
use Rattle.rollout_rules.specs.declared.op.OpView.{OpView}
use Rattle.rollout_rules.proofs.Below.{sum_below-same, sum_below-zero, sum_below-but}
use Rattle.dependency_graph.specs.Cells.{has, AreOnce}
use Rattle.dependency_graph.specs.Graph.{Followed, has_next}
use Rattle.update_scheduler.specs.declared.candidate.Candidate.{Candidate}
use Rattle.update_scheduler.specs.Candidates.{seen, rank_of, is_offered, all_offered, offered_among, candidate_of, candidates_of, items_of}
use Rattle.update_scheduler.proofs.Rising.{AtMost, Rises, total, same-list}
use Rattle.update_scheduler.proofs.Ordered.{in-order-rises, in-order-total}

pub items-candidates : (rank : ℕ → ℕ) (ns : List ℕ) → items_of (candidates_of rank ns) ≡ ns
items-candidates rank [] = refl
items-candidates rank (n ∷ ns) = ap (λ ms. n ∷ ms) (items-candidates rank ns)

-- ---- some of a list
module _ (rank : ℕ → ℕ) (keep : ℕ → Bool) where
  all-filtered : (P : Candidate → Type 0) (ns : List ℕ) → AllByRecursion P (candidates_of rank ns) → AllByRecursion P (candidates_of rank (filter keep ns))
  all-filtered P [] all = tt
  all-filtered P (n ∷ ns) all = elim (cases_Bool (keep n)) as (λ _. AllByRecursion P (candidates_of rank (filter keep (n ∷ ns)))) [
    | inl kept ↦ rw kept (all.0, all-filtered P ns all.1)
    | inr away ↦ rw away (all-filtered P ns all.1)
  ]

  rises-filtered : (ns : List ℕ) → Rises (candidates_of rank ns) → Rises (candidates_of rank (filter keep ns))
  rises-filtered [] up = tt
  rises-filtered (n ∷ ns) up = elim (cases_Bool (keep n)) as (λ _. Rises (candidates_of rank (filter keep (n ∷ ns)))) [
    | inl kept ↦ rw kept (all-filtered (AtMost (candidate_of rank n)) ns up.0, rises-filtered ns up.1)
    | inr away ↦ rw away (rises-filtered ns up.1)
  ]

  total-filtered : (f : Candidate → ℕ) (ns : List ℕ) → total f (candidates_of rank (filter keep ns)) ≡ total (λ c. if keep c.item then f c else 0) (candidates_of rank ns)
  total-filtered f [] = refl
  total-filtered f (n ∷ ns) = elim (cases_Bool (keep n)) as (λ _. total f (candidates_of rank (filter keep (n ∷ ns))) ≡ total (λ c. if keep c.item then f c else 0) (candidates_of rank (n ∷ ns))) [
    | inl kept ↦ rw kept (ap (λ k. f (candidate_of rank n) + k) (total-filtered f ns))
    | inr away ↦ rw away (omega (arith, total-filtered f ns))
  ]

total-append : (f : Candidate → ℕ) (xs ys : List Candidate) → total f (xs ++ ys) ≡ total f xs + total f ys
total-append f [] ys = omega arith
total-append f (c ∷ xs) ys = omega (arith, total-append f xs ys)

map-append : (rank : ℕ → ℕ) (ns ms : List ℕ) → candidates_of rank (ns ++ ms) ≡ candidates_of rank ns ++ candidates_of rank ms
map-append rank [] ms = refl
map-append rank (n ∷ ns) ms = ap (λ cs. candidate_of rank n ∷ cs) (map-append rank ns ms)

-- a sum over all numbers below one
total-below : (rank : ℕ → ℕ) (f : Candidate → ℕ) (k : ℕ) → total f (candidates_of rank (list_below k (λ n. n))) ≡ sum_below k (λ n. f (candidate_of rank n))
total-below rank f zero = refl
total-below rank f (suc k) =
    ap (total f) (map-append rank (list_below k (λ n. n)) (k ∷ []))
    ∙ total-append f (candidates_of rank (list_below k (λ n. n))) (candidate_of rank k ∷ [])
    ∙ omega (arith, total-below rank f k)

-- ---- a sum over a row that has no number twice
place-in : (q : ℕ) (row : List ℕ) → has row q ≡ true → (j : ℕ) × (j < length row) × (slice_index row j ≡ q)
place-in q [] e = absurd (cc)
place-in q (n ∷ ns) e = elim (or_cases (n == q) (has ns q) e) as (λ _. (j : ℕ) × (j < length (n ∷ ns)) × (slice_index (n ∷ ns) j ≡ q)) [
  | inl here ↦ (0, omega arith, eqb-true n q here)
  | inr behind ↦ let there = place-in q ns behind in (suc there.0, omega (arith, there.1), there.2)
]

total-once : (rank : ℕ → ℕ) (f : Candidate → ℕ) (most : ℕ) (row : List ℕ) → AreOnce row → ((j : ℕ) → j < length row → slice_index row j < most) → total f (candidates_of rank row) ≡ sum_below most (λ n. if has row n then f (candidate_of rank n) else 0)
total-once rank f most [] once inside = sym (sum_below-zero most (λ n. if has [] n then f (candidate_of rank n) else 0) (λ k lt. refl))
total-once rank f most (n ∷ ns) once inside =
    let but = sum_below-but most n (λ k. if has (n ∷ ns) k then f (candidate_of rank k) else 0) (λ k. if has ns k then f (candidate_of rank k) else 0) (inside 0 (omega arith))
    (λ j lt other. ap (λ b. if b then f (candidate_of rank j) else 0) (later j other)) in
    let with-own : ◌≡◌ {A = ℕ} (if has (n ∷ ns) n then f (candidate_of rank n) else 0) (f (candidate_of rank n)) = let e : (n == n) ≡ true = eq-eqb n n refl in rw e refl in
    let without : ◌≡◌ {A = ℕ} (if has ns n then f (candidate_of rank n) else 0) 0 = rw none refl in
    omega (arith, but, with-own, without, total-once rank f most ns rest-once (λ j lt. inside (suc j) (omega (arith, lt))))
  where
    none : has ns n ≡ false
    none = false_from_ne_true (has ns n) (λ there.
        let place = place-in n ns there in
        let same : suc place.0 ≡ 0 = once (suc place.0) 0 (omega (arith, place.1)) (omega arith) place.2 in
        absurd (omega (arith, same)))

    later : (j : ℕ) → (j ≡ n → ⊥) → has (n ∷ ns) j ≡ has ns j
    later j other = let e : (n == j) ≡ false = ne_eqb n j (λ q. other (sym q)) in rw e refl

    rest-once : AreOnce ns
    rest-once a b lt lt' same = let up : suc a ≡ suc b = once (suc a) (suc b) (omega (arith, lt)) (omega (arith, lt')) same in omega (arith, up)

tests : (w a b : Bool) (x : ℕ) → ◌≡◌ {A = ℕ} (if w then (if a && b then x else 0) else 0) (if a then (if b then (if w then x else 0) else 0) else 0)
tests true true true x = refl
tests true true false x = refl
tests true false b x = refl
tests false true true x = refl
tests false true false x = refl
tests false false b x = refl

module _ (g : Followed) (policy : OpView → ℕ) (row : List ℕ) (once : AreOnce row) (inside : (j : ℕ) → j < length row → slice_index row j < item_count g.rollout.problem) where
  abbrev rank : ℕ → ℕ
  rank = rank_of g policy

  abbrev most : ℕ
  most = item_count g.rollout.problem

  abbrev is_free : ℕ → Bool
  is_free n = not (is_held_back policy (seen g n))

  row-total : (f : Candidate → ℕ) → total f (candidates_of rank (in_order_of rank (offered_among g policy row))) ≡ sum_below most (λ n. if has row n then (if is_offered g policy n then f (candidate_of rank n) else 0) else 0)
  row-total f =
      in-order-total rank f (offered_among g policy row)
      ∙ total-filtered rank (is_offered g policy) f row
      ∙ total-once rank (λ c. if is_offered g policy c.item then f c else 0) most row once inside

  all-total : (f : Candidate → ℕ) → total f (candidates_of rank (filter (has row) (in_order_of rank (all_offered g policy)))) ≡ sum_below most (λ n. if has_next g n then (if is_free n then (if has row n then f (candidate_of rank n) else 0) else 0) else 0)
  all-total f =
      total-filtered rank (has row) f (in_order_of rank (all_offered g policy))
      ∙ in-order-total rank (λ c. if has row c.item then f c else 0) (all_offered g policy)
      ∙ total-filtered rank is_free (λ c. if has row c.item then f c else 0) (filter (has_next g) (list_below most (λ n. n)))
      ∙ total-filtered rank (has_next g) (λ c. if is_free c.item then (if has row c.item then f c else 0) else 0) (list_below most (λ n. n))
      ∙ total-below rank (λ c. if has_next g c.item then (if is_free c.item then (if has row c.item then f c else 0) else 0) else 0) most

  pub among-all : in_order_of rank (offered_among g policy row) ≡ filter (has row) (in_order_of rank (all_offered g policy))
  among-all =
      sym (items-candidates rank (in_order_of rank (offered_among g policy row)))
      ∙ ap items_of
      (same-list (candidates_of rank (in_order_of rank (offered_among g policy row))) (candidates_of rank (filter (has row) (in_order_of rank (all_offered g policy))))
      (in-order-rises rank (offered_among g policy row)) (rises-filtered rank (has row) (in_order_of rank (all_offered g policy)) (in-order-rises rank (all_offered g policy)))
      (λ f. row-total f ∙ sum_below-same most
      (λ n. if has row n then (if is_offered g policy n then f (candidate_of rank n) else 0) else 0)
      (λ n. if has_next g n then (if is_free n then (if has row n then f (candidate_of rank n) else 0) else 0) else 0)
      (λ n lt. tests (has row n) (has_next g n) (is_free n) (f (candidate_of rank n))) ∙ sym (all-total f)))
      ∙ items-candidates rank (filter (has row) (in_order_of rank (all_offered g policy)))
