-- All items in an order, of which the first so many are a set.
use Rattle.std.proofs.Common.{◌≡◌, ℕ, ◌+◌, ◌<◌, ◌≤◌, Bool, true, false, ◌&&◌, ◌||◌, not, ◌==◌, nat_lt, if◌then◌else◌, List, take, length, slice_index, refl, sym, ap, ◌∙◌, inl, inr, arith, eq-eqb, ne_eqb, lt-ltb, le-ltb, ltb-true}
use Rattle.std.proofs.lemmas.Bool.{cases_eq}
use Rattle.std.proofs.lemmas.List.{get_or-take, length-take-le}
use Rattle.dependency_graph.specs.Cells.{has, AreOnce}
use Rattle.dependency_graph.specs.Wakes.{AreInverse, AreExchanged}
use Rattle.dependency_graph.proofs.Rows.{has-at}
use Rattle.dependency_graph.proofs.Changed.{same-test, place_in}

module _ (order places : List ℕ) (so : AreInverse order places) where
  -- an item is in the set exactly where its place is among the first
  pub is-member : (count n : ℕ) → count ≤ length order → n < length order → has (take count order) n ≡ nat_lt (slice_index places n) count
  is-member count n few lt = same-test (has (take count order) n) (nat_lt (slice_index places n) count) forth back
    where
      forth : has (take count order) n ≡ true → nat_lt (slice_index places n) count ≡ true
      forth here =
          let there = place_in n (take count order) here in
          let low : there.0 < count = omega (arith, there.1, length-take-le count order few) in
          let is : slice_index order there.0 ≡ n = sym (get_or-take count order there.0 0 low) ∙ there.2 in
          lt-ltb (slice_index places n) count (omega (arith, low, so.forth there.0 (omega (arith, low, few)), ap (slice_index places) is))

      back : nat_lt (slice_index places n) count ≡ true → has (take count order) n ≡ true
      back low =
          let lower = ltb-true (slice_index places n) count low in
          has-at (take count order) (slice_index places n) n (omega (arith, lower, length-take-le count order few)) (get_or-take count order (slice_index places n) 0 lower ∙ so.back n lt)

  pub member-inside : (count : ℕ) → count ≤ length order → (j : ℕ) → j < length (take count order) → slice_index (take count order) j < length order
  member-inside count few j lt =
      let low : j < count = omega (arith, lt, length-take-le count order few) in
      omega (arith, get_or-take count order j 0 low, so.inside j (omega (arith, low, few)))

  pub member-once : (count : ℕ) → count ≤ length order → AreOnce (take count order)
  member-once count few a b lt lt' same =
      let low : a < count = omega (arith, lt, length-take-le count order few) in
      let low' : b < count = omega (arith, lt', length-take-le count order few) in
      let is : slice_index order a ≡ slice_index order b = omega (arith, get_or-take count order a 0 low, get_or-take count order b 0 low', same) in
      omega (arith, so.forth a (omega (arith, low, few)), so.forth b (omega (arith, low', few)), ap (slice_index places) is)

-- an item is put in, or taken out, as it changes places with the first after the set, or its last
module _ (order places order' places' : List ℕ) (count i : ℕ) (so : AreInverse order places) (so' : AreInverse order' places') (all : length order' ≡ length order) (few : count < length order) (here : i < length order) (moved : AreExchanged (slice_index places i) count places places') where
  own : slice_index places i ≡ slice_index places i → slice_index places' i ≡ count
  own _ =
      let e : (slice_index places i == slice_index places i) ≡ true = eq-eqb (slice_index places i) (slice_index places i) refl in
      moved.each i (omega (arith, here, so.all)) ∙ rw e refl

  -- another item stays, or comes from the place after to where this one was
  other : (n : ℕ) → n < length order → (n ≡ i → ⊥) → slice_index places' n ≡ (if slice_index places n == count then slice_index places i else slice_index places n)
  other n lt apart =
      let e : (slice_index places n == slice_index places i) ≡ false = ne_eqb (slice_index places n) (slice_index places i) (λ q. apart (sym (so.back n lt) ∙ ap (slice_index order) q ∙ so.back i here)) in
      moved.each n (omega (arith, lt, so.all)) ∙ rw e refl

  apart-places : (n : ℕ) → n < length order → (n ≡ i → ⊥) → slice_index places n ≡ slice_index places i → ⊥
  apart-places n lt apart q = apart (sym (so.back n lt) ∙ ap (slice_index order) q ∙ so.back i here)

  same-or : (a b : Bool) → a ≡ b → a ≡ (b || false)
  same-or true b e = e ∙ or-false b
    where
      or-false : (b : Bool) → b ≡ (b || false)
      or-false true = refl
      or-false false = refl
  same-or false b e = e ∙ or-false b
    where
      or-false : (b : Bool) → b ≡ (b || false)
      or-false true = refl
      or-false false = refl

  same-and : (a b : Bool) → a ≡ b → a ≡ (b && true)
  same-and a true e = e
  same-and a false e = e

  true-or : (a b : Bool) → a ≡ true → a ≡ (b || true)
  true-or a true e = e
  true-or a false e = e

  false-and : (a b : Bool) → a ≡ false → a ≡ (b && false)
  false-and a true e = e
  false-and a false e = e

  pub put-in : count ≤ slice_index places i → (n : ℕ) → n < length order → has (take (count + 1) order') n ≡ (has (take count order) n || (i == n))
  put-in out n lt = elim (cases_eq n i) as (λ _. has (take (count + 1) order') n ≡ (has (take count order) n || (i == n))) [
    | inl this ↦
        let e : (i == n) ≡ true = eq-eqb i n (sym this) in
        let in' : has (take (count + 1) order') n ≡ true =
        is-member order' places' so' (count + 1) n (omega (arith, few, all)) (omega (arith, lt, all)) ∙ lt-ltb (slice_index places' n) (count + 1) (omega (arith, own refl, ap (slice_index places') this)) in
        rw e (true-or (has (take (count + 1) order') n) (has (take count order) n) in')
    | inr apart ↦
        let e : (i == n) ≡ false = ne_eqb i n (λ q. apart (sym q)) in
        rw e (same-or (has (take (count + 1) order') n) (has (take count order) n)
        (is-member order' places' so' (count + 1) n (omega (arith, few, all)) (omega (arith, lt, all)) ∙ ap (λ m. nat_lt m (count + 1)) (other n lt apart)
        ∙ lower (slice_index places n) (apart-places n lt apart) ∙ sym (is-member order places so count n (omega (arith, few)) lt)))
  ]
    where
      lower : (k : ℕ) → (k ≡ slice_index places i → ⊥) → nat_lt (if k == count then slice_index places i else k) (count + 1) ≡ nat_lt k count
      lower k off = elim (cases_eq k count) as (λ _. nat_lt (if k == count then slice_index places i else k) (count + 1) ≡ nat_lt k count) [
        | inl at ↦ let e : (k == count) ≡ true = eq-eqb k count at in rw e (le-ltb (slice_index places i) (count + 1) (omega (arith, out, off, at)) ∙ sym (le-ltb k count (omega (arith, at))))
        | inr past ↦ let e : (k == count) ≡ false = ne_eqb k count past in rw e (same-test (nat_lt k (count + 1)) (nat_lt k count)
            (λ t. let lt = ltb-true k (count + 1) t in lt-ltb k count (omega (arith, lt, past)))
            (λ t. let lt = ltb-true k count t in lt-ltb k (count + 1) (omega (arith, lt))))
      ]

  pub taken-out : slice_index places i ≤ count → (n : ℕ) → n < length order → has (take count order') n ≡ (has (take (count + 1) order) n && not (i == n))
  taken-out near n lt = elim (cases_eq n i) as (λ _. has (take count order') n ≡ (has (take (count + 1) order) n && not (i == n))) [
    | inl this ↦
        let e : (i == n) ≡ true = eq-eqb i n (sym this) in
        let out : has (take count order') n ≡ false =
        is-member order' places' so' count n (omega (arith, few, all)) (omega (arith, lt, all)) ∙ le-ltb (slice_index places' n) count (omega (arith, own refl, ap (slice_index places') this)) in
        rw e (false-and (has (take count order') n) (has (take (count + 1) order) n) out)
    | inr apart ↦
        let e : (i == n) ≡ false = ne_eqb i n (λ q. apart (sym q)) in
        rw e (same-and (has (take count order') n) (has (take (count + 1) order) n)
        (is-member order' places' so' count n (omega (arith, few, all)) (omega (arith, lt, all)) ∙ ap (λ m. nat_lt m count) (other n lt apart)
        ∙ lower (slice_index places n) (apart-places n lt apart) ∙ sym (is-member order places so (count + 1) n (omega (arith, few)) lt)))
  ]
    where
      lower : (k : ℕ) → (k ≡ slice_index places i → ⊥) → nat_lt (if k == count then slice_index places i else k) count ≡ nat_lt k (count + 1)
      lower k off = elim (cases_eq k count) as (λ _. nat_lt (if k == count then slice_index places i else k) count ≡ nat_lt k (count + 1)) [
        | inl at ↦ let e : (k == count) ≡ true = eq-eqb k count at in rw e (lt-ltb (slice_index places i) count (omega (arith, near, off, at)) ∙ sym (lt-ltb k (count + 1) (omega (arith, at))))
        | inr past ↦ let e : (k == count) ≡ false = ne_eqb k count past in rw e (same-test (nat_lt k count) (nat_lt k (count + 1))
            (λ t. let lt = ltb-true k count t in lt-ltb k (count + 1) (omega (arith, lt)))
            (λ t. let lt = ltb-true k (count + 1) t in lt-ltb k count (omega (arith, lt, past))))
      ]

-- an item that is in the set already, or isn't
pub there-already : (a : Bool) (i n : ℕ) → (i ≡ n → a ≡ true) → a ≡ (a || (i == n))
there-already true i n here = refl
there-already false i n here = elim (cases_eq i n) as (λ _. false ≡ (i == n)) [
  | inl same ↦ here same ∙ sym (eq-eqb i n same)
  | inr apart ↦ sym (ne_eqb i n apart)
]

pub away-already : (a : Bool) (i n : ℕ) → (i ≡ n → a ≡ false) → a ≡ (a && not (i == n))
away-already false i n here = refl
away-already true i n here = elim (cases_eq i n) as (λ _. true ≡ not (i == n)) [
  | inl same ↦ let e : (i == n) ≡ true = eq-eqb i n same in rw e (here same)
  | inr apart ↦ let e : (i == n) ≡ false = ne_eqb i n apart in rw e refl
]
