-- Lists of items at resources, as one is put in front and as the first is taken out.
use Rattle.std.proofs.Common.{◌≡◌, ℕ, ◌+◌, ◌<◌, ◌⊎◌, Bool, true, false, ◌==◌, List, [], ◌∷◌, length, length-set, set, slice_index, refl, sym, ap, ◌∙◌, subst, inl, inr, arith, eq-eqb, eqb-true}
use Rattle.std.proofs.lemmas.Bool.{cases_eq, or_cases, or_left, or_right, or_parts, false_from_ne_true, eqb-false}
use Rattle.std.proofs.lemmas.List.{get_or-set_same, get_or-set_other}
use Rattle.dependency_graph.specs.Cells.{has}
use Rattle.dependency_graph.specs.Wakes.{IsChain, IsKeptRow, AreKept}
use Rattle.dependency_graph.proofs.Rows.{each-has, each-but}

-- a list goes on through items whose next ones are as they were
chain-kept : (nexts later : List ℕ) (i head : ℕ) (row : List ℕ) → ((n : ℕ) → (n ≡ i → ⊥) → slice_index later n ≡ slice_index nexts n) → has row i ≡ false → IsChain nexts head row → IsChain later head row
chain-kept nexts later i head [] same none so = so
chain-kept nexts later i head (n ∷ ns) same none so =
    let parts = or_parts (n == i) (has ns i) none in
    (so.0, subst (λ m. IsChain later m ns) (sym (same n (eqb-false n i parts.0))) (chain-kept nexts later i (slice_index nexts n) ns same parts.1 so.1))

abbrev IsHere : List ℕ → ℕ → ℕ → Type 0
IsHere lacks q n = (n < length lacks) × (slice_index lacks n ≡ q + 1)

here-kept : (lacks : List ℕ) (q i x n : ℕ) → (n ≡ i → ⊥) → IsHere lacks q n → IsHere (set lacks i x) q n
here-kept lacks q i x n other so = (omega (arith, length-set lacks i x, so.0), get_or-set_other lacks i n x 0 other ∙ so.1)

-- what is kept elsewhere, or nowhere, isn't in the row
pub not-here : (lacks nexts : List ℕ) (q head : ℕ) (row : List ℕ) (i : ℕ) → IsKeptRow lacks nexts q head row → (slice_index lacks i ≡ q + 1 → ⊥) → has row i ≡ false
not-here lacks nexts q head row i so other = false_from_ne_true (has row i) (λ there. other (each-has (IsHere lacks q) row i so.each there).1)

-- a row stays where an item that isn't in it moves
row-kept : (lacks nexts later : List ℕ) (q head : ℕ) (row : List ℕ) (i x : ℕ) → i < length lacks → ((n : ℕ) → (n ≡ i → ⊥) → slice_index later n ≡ slice_index nexts n) → (slice_index lacks i ≡ q + 1 → ⊥) → (x ≡ q + 1 → ⊥)
    → IsKeptRow lacks nexts q head row → IsKeptRow (set lacks i x) later q head row
row-kept lacks nexts later q head row i x lt same other to so =
    let none = not-here lacks nexts q head row i so other in
    record {
      chain = chain-kept nexts later i head row same none so.chain;
      once = so.once;
      each = each-but (IsHere lacks q) (IsHere (set lacks i x) q) row i (here-kept lacks q i x) none so.each;
      all = λ n low is. elim (cases_eq n i) as (λ _. has row n ≡ true) [
        | inl this ↦ absurd (to (sym (get_or-set_same lacks i x 0 lt) ∙ ap (slice_index (set lacks i x)) (sym this) ∙ is))
        | inr apart ↦ so.all n (omega (arith, length-set lacks i x, low)) (sym (get_or-set_other lacks i n x 0 apart) ∙ is)
      ];
    }

-- ---- an item is kept that was kept nowhere
module _ (lacks heads nexts : List ℕ) (so : AreKept lacks heads nexts) (i q : ℕ) (lt : i < length lacks) (low : q < length heads) where
  abbrev linked : List ℕ
  linked = set nexts i (slice_index heads q)

  linked-other : (n : ℕ) → (n ≡ i → ⊥) → slice_index linked n ≡ slice_index nexts n
  linked-other n other = get_or-set_other nexts i n (slice_index heads q) 0 other

  row-more : slice_index lacks i ≡ 0 → (row : List ℕ) → IsKeptRow lacks nexts q (slice_index heads q) row → IsKeptRow (set lacks i (q + 1)) linked q (i + 1) (i ∷ row)
  row-more free row is =
      let none = not-here lacks nexts q (slice_index heads q) row i is (λ e. omega (arith, e, free)) in
      let next : slice_index linked i ≡ slice_index heads q = get_or-set_same nexts i (slice_index heads q) 0 (omega (arith, lt, so.items)) in
      record {
        chain = (refl, subst (λ m. IsChain linked m row) (sym next) (chain-kept nexts linked i (slice_index heads q) row linked-other none is.chain));
        once = (none, is.once);
        each = ((omega (arith, length-set lacks i (q + 1), lt), get_or-set_same lacks i (q + 1) 0 lt), each-but (IsHere lacks q) (IsHere (set lacks i (q + 1)) q) row i (here-kept lacks q i (q + 1)) none is.each);
        all = λ n within there. elim (cases_eq n i) as (λ _. has (i ∷ row) n ≡ true) [
          | inl this ↦ or_left (i == n) (has row n) (eq-eqb i n (sym this))
          | inr apart ↦ or_right (i == n) (has row n) (is.all n (omega (arith, length-set lacks i (q + 1), within)) (sym (get_or-set_other lacks i n (q + 1) 0 apart) ∙ there))
        ];
      }

  pub kept-more : slice_index lacks i ≡ 0 → AreKept (set lacks i (q + 1)) (set heads q (i + 1)) linked
  kept-more free = record {
    few = omega (arith, length-set lacks i (q + 1), so.few);
    resources = omega (arith, length-set heads q (i + 1), so.resources);
    items = omega (arith, length-set lacks i (q + 1), length-set nexts i (slice_index heads q), so.items);
    rows = λ k within. elim (cases_eq k q) as (λ _. (row : List ℕ) × IsKeptRow (set lacks i (q + 1)) linked k (slice_index (set heads q (i + 1)) k) row) [
      | inl this ↦
          let was = so.rows q low in
          subst (λ m. (row : List ℕ) × IsKeptRow (set lacks i (q + 1)) linked m (slice_index (set heads q (i + 1)) m) row) (sym this)
          (i ∷ was.0, subst (λ m. IsKeptRow (set lacks i (q + 1)) linked q m (i ∷ was.0)) (sym (get_or-set_same heads q (i + 1) 0 low)) (row-more free was.0 was.1))
      | inr apart ↦
          let was = so.rows k (omega (arith, length-set heads q (i + 1), within)) in (
            was.0,
            subst (λ m. IsKeptRow (set lacks i (q + 1)) linked k m was.0) (sym (get_or-set_other heads q k (i + 1) 0 apart))
                (row-kept lacks nexts linked k (slice_index heads k) was.0 i (q + 1) lt linked-other (λ e. omega (arith, e, free)) (λ e. apart (omega (arith, e))) was.1),
          )
    ];
  }

-- ---- the first that is kept at a resource is taken out
module _ (lacks heads nexts : List ℕ) (so : AreKept lacks heads nexts) (q : ℕ) (low : q < length heads) where
  -- there is none exactly where the head is 0
  pub kept-none : slice_index heads q ≡ 0 → (n : ℕ) → n < length lacks → slice_index lacks n ≡ q + 1 → ⊥
  kept-none none n lt is = let was = so.rows q low in empty was.0 was.1
    where
      empty : (row : List ℕ) → IsKeptRow lacks nexts q (slice_index heads q) row → ⊥
      empty [] here = let there : false ≡ true = here.all n lt is in cc
      empty (k ∷ ks) here = absurd (omega (arith, none, here.chain.0))

  pub record IsFirst (i : ℕ) : Type 0 where
    pub rest : List ℕ
    pub row : IsKeptRow lacks nexts q (i + 1) (i ∷ rest)

  pub first-kept : (i : ℕ) → slice_index heads q ≡ i + 1 → IsFirst i
  first-kept i head = let was = so.rows q low in some was.0 was.1
    where
      some : (row : List ℕ) → IsKeptRow lacks nexts q (slice_index heads q) row → IsFirst i
      some [] here = absurd (omega (arith, head, here.chain))
      some (k ∷ ks) here =
          let same : k ≡ i = omega (arith, head, here.chain.0) in
          record { rest = ks; row = subst (λ m. IsKeptRow lacks nexts q (i + 1) (m ∷ ks)) same (subst (λ m. IsKeptRow lacks nexts q m (k ∷ ks)) head here) }

  module _ (i : ℕ) (head : slice_index heads q ≡ i + 1) where
    pub first-inside : i < length lacks
    first-inside = (first-kept i head).row.each.0.0

    pub first-lacks : slice_index lacks i ≡ q + 1
    first-lacks = (first-kept i head).row.each.0.1

    rest-kept : IsKeptRow (set lacks i 0) nexts q (slice_index nexts i) (first-kept i head).rest
    rest-kept =
        let was = (first-kept i head).row in
        let ns = (first-kept i head).rest in
        record {
          chain = was.chain.1;
          once = was.once.1;
          each = each-but (IsHere lacks q) (IsHere (set lacks i 0) q) ns i (here-kept lacks q i 0) was.once.0 was.each.1;
          all = λ n within there. elim (cases_eq n i) as (λ _. has ns n ≡ true) [
            | inl this ↦ absurd (omega (arith, get_or-set_same lacks i 0 0 first-inside, ap (slice_index (set lacks i 0)) this, there))
            | inr apart ↦ behind (or_cases (i == n) (has ns n) (was.all n (omega (arith, length-set lacks i 0, within)) (sym (get_or-set_other lacks i n 0 0 apart) ∙ there))) apart
          ];
        }
      where
        behind : {n : ℕ} → {t : Bool} → ((i == n) ≡ true) ⊎ (t ≡ true) → (n ≡ i → ⊥) → t ≡ true
        behind {n} (inl e) apart = absurd (apart (sym (eqb-true i n e)))
        behind (inr e) apart = e

    pub kept-less : AreKept (set lacks i 0) (set heads q (slice_index nexts i)) nexts
    kept-less = record {
      few = omega (arith, length-set lacks i 0, so.few);
      resources = omega (arith, length-set heads q (slice_index nexts i), so.resources);
      items = omega (arith, length-set lacks i 0, so.items);
      rows = λ k within. elim (cases_eq k q) as (λ _. (row : List ℕ) × IsKeptRow (set lacks i 0) nexts k (slice_index (set heads q (slice_index nexts i)) k) row) [
        | inl this ↦
            subst (λ m. (row : List ℕ) × IsKeptRow (set lacks i 0) nexts m (slice_index (set heads q (slice_index nexts i)) m) row) (sym this)
            ((first-kept i head).rest, subst (λ m. IsKeptRow (set lacks i 0) nexts q m (first-kept i head).rest) (sym (get_or-set_same heads q (slice_index nexts i) 0 low)) rest-kept)
        | inr apart ↦
            let was = so.rows k (omega (arith, length-set heads q (slice_index nexts i), within)) in (
              was.0,
              subst (λ m. IsKeptRow (set lacks i 0) nexts k m was.0) (sym (get_or-set_other heads q k (slice_index nexts i) 0 apart))
                  (row-kept lacks nexts nexts k (slice_index heads k) was.0 i 0 first-inside (λ n o. refl) (λ e. apart (omega (arith, e, first-lacks))) (λ e. omega (arith, e)) was.1),
            )
      ];
    }
