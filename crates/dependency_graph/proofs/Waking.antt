-- Items that are woken, and those that are kept at a resource.
use Rattle.std.proofs.Common.{◌≡◌, ℕ, ◌+◌, ◌<◌, Bool, true, false, ◌&&◌, ◌||◌, not, ◌==◌, length, length-set, set, slice_index, refl, sym, ap, ◌∙◌, subst, inl, inr, arith, eq-eqb, ne_eqb, eqb-true}
use Rattle.std.proofs.lemmas.Bool.{cases_eq, or_parts, or_cases, and_cases, and_left, and_parts, both_ways, eqb-false, not-true, not-false}
use Rattle.std.proofs.lemmas.List.{get_or-set_same, get_or-set_other}
use Rattle.rollout_rules.specs.Sums.{sum_below}
use Rattle.rollout_rules.proofs.Below.{sum_below-but}
use Rattle.dependency_graph.specs.Cells.{has}
use Rattle.dependency_graph.specs.Wakes.{ItemSet, Keeping, Awake, AreAwake, AreFreeOf, Rouses, IsWokenOrKept, AreWokenFrom, IsLetGo, joined}

pub rouses-none : (w : Awake) → Rouses w w
rouses-none w = record { resources = refl; items = refl; rest = λ n lt none. (none, refl) }

pub rouses-both : (a b d : Awake) → Rouses a b → Rouses b d → Rouses a d
rouses-both a b d first next = record {
  resources = next.resources ∙ first.resources;
  items = next.items ∙ first.items;
  rest = λ n lt none.
      let then' = next.rest n (omega (arith, lt, first.items)) none in
      let was = first.rest n lt then'.0 in
      (was.0, then'.1 ∙ was.1);
}

-- what is woken stays so as more are
pub woken-stays : (a b : Awake) → Rouses a b → (n : ℕ) → n < length a.lacks → IsWokenOrKept a n → IsWokenOrKept b n
woken-stays a b so n lt was none = let then' = so.rest n lt none in omega (arith, was then'.0, then'.1)

pub freed-stays : (a b : Awake) → Rouses a b → (q : ℕ) → AreWokenFrom q a → AreWokenFrom q b
freed-stays a b so q was n lt none is =
    let low : n < length a.lacks = omega (arith, lt, so.items) in
    let then' = so.rest n low none in was n low then'.0 (sym then'.1 ∙ is)

-- resources that are freed one after another
pub freed-more : (a b : Awake) (k : ℕ) → Rouses a b → ((q : ℕ) → q < k → AreWokenFrom q a) → AreWokenFrom k b → (q : ℕ) → q < k + 1 → AreWokenFrom q b
freed-more a b k so was now q lt = elim (cases_eq q k) as (λ _. AreWokenFrom q b) [
  | inl same ↦ subst (λ m. AreWokenFrom m b) (sym same) now
  | inr other ↦ freed-stays a b so q (was q (omega (arith, lt, other)))
]

-- ---- one item is woken
module _ (set later : ItemSet) (kept : Keeping) (i : ℕ) (awake : AreAwake set kept) (lt : i < length kept.lacks) (row : (n : ℕ) → n < set.items → has later.row n ≡ (has set.row n || (i == n))) where
  pub wake-rouses : Rouses (joined set kept) (joined later kept)
  wake-rouses = record {
    resources = refl;
    items = refl;
    rest = λ n low none. ((or_parts (has set.row n) (i == n) (sym (row n (omega (arith, low, awake.items))) ∙ none)).0, refl);
  }

  pub wake-here : has later.row i ≡ true
  wake-here = row i (omega (arith, lt, awake.items)) ∙ Rattle.std.proofs.lemmas.Bool.or_right (has set.row i) (i == i) (eq-eqb i i refl)

  pub wake-awake : later.items ≡ set.items → slice_index kept.lacks i ≡ 0 → AreAwake later kept
  wake-awake same free = record {
    items = same ∙ awake.items;
    free = λ n low here. elim (or_cases (has set.row n) (i == n) (sym (row n (omega (arith, low, awake.items))) ∙ here)) as (λ _. slice_index kept.lacks n ≡ 0) [
      | inl before ↦ awake.free n low before
      | inr this ↦ ap (slice_index kept.lacks) (sym (eqb-true i n this)) ∙ free
    ];
  }

-- ---- an item that is kept at a resource is taken from there and woken
abbrev pub kept_sum : Keeping → ℕ
kept_sum kept = sum_below (length kept.lacks) (slice_index kept.lacks)

module _ (woken later : ItemSet) (kept less : Keeping) (i q : ℕ) (awake : AreAwake woken kept) (lt : i < length kept.lacks) (own : slice_index kept.lacks i ≡ q + 1) (popped : less ≡ record kept { lacks = set kept.lacks i 0 }) (same : later.items ≡ woken.items)
    (row : (n : ℕ) → n < woken.items → has later.row n ≡ (has woken.row n || (i == n))) where
  lacks-less : less.lacks ≡ set kept.lacks i 0
  lacks-less = ap (λ k. k.lacks) popped

  length-less : length less.lacks ≡ length kept.lacks
  length-less = ap length lacks-less ∙ length-set kept.lacks i 0

  at-own : slice_index less.lacks i ≡ 0
  at-own = ap (λ l. slice_index l i) lacks-less ∙ get_or-set_same kept.lacks i 0 0 lt

  at-other : (n : ℕ) → (n ≡ i → ⊥) → slice_index less.lacks n ≡ slice_index kept.lacks n
  at-other n apart = ap (λ l. slice_index l n) lacks-less ∙ get_or-set_other kept.lacks i n 0 0 apart

  pub pop-awake : AreAwake later less
  pop-awake = record {
    items = same ∙ awake.items ∙ sym length-less;
    free = λ n low here. elim (cases_eq n i) as (λ _. slice_index less.lacks n ≡ 0) [
      | inl this ↦ ap (slice_index less.lacks) this ∙ at-own
      | inr apart ↦ at-other n apart ∙ free n (omega (arith, low, length-less)) apart here
    ];
  }
    where
      free : (n : ℕ) → n < length kept.lacks → (n ≡ i → ⊥) → has later.row n ≡ true → slice_index kept.lacks n ≡ 0
      free n low apart here = elim (or_cases (has woken.row n) (i == n) (sym (row n (omega (arith, low, awake.items))) ∙ here)) as (λ _. slice_index kept.lacks n ≡ 0) [
        | inl before ↦ awake.free n low before
        | inr this ↦ absurd (apart (sym (eqb-true i n this)))
      ]

  pub pop-rouses : Rouses (joined woken kept) (joined later less)
  pop-rouses = record {
    resources = ap (λ k. k.resources) popped;
    items = length-less;
    rest = λ n low none.
        let parts = or_parts (has woken.row n) (i == n) (sym (row n (omega (arith, low, awake.items))) ∙ none) in
        (parts.0, at-other n (λ e. eqb-false i n parts.1 (sym e)));
  }

  pub pop-less : kept_sum less < kept_sum kept
  pop-less =
      let but = sum_below-but (length kept.lacks) i (slice_index kept.lacks) (slice_index less.lacks) lt (λ j low apart. sym (at-other j apart)) in
      let sums : kept_sum less ≡ sum_below (length kept.lacks) (slice_index less.lacks) = ap (λ n. sum_below n (slice_index less.lacks)) length-less in
      omega (arith, but, sums, at-own, own)

-- none is left there once none is taken
pub none-left : (woken : ItemSet) (kept : Keeping) (q : ℕ) → AreFreeOf q kept.lacks → AreWokenFrom q (joined woken kept)
none-left woken kept q free n lt none is = free n lt is

-- ---- an item is let go
module _ (woken later : ItemSet) (kept less : Keeping) (i x : ℕ) (awake : AreAwake woken kept) (lt : i < length kept.lacks) (here : has woken.row i ≡ true) (same : later.items ≡ woken.items)
    (row : (n : ℕ) → n < woken.items → has later.row n ≡ (has woken.row n && not (i == n))) where
  row-parts : (n : ℕ) → n < length kept.lacks → (n ≡ i → ⊥) → has later.row n ≡ has woken.row n
  row-parts n low apart = let e : (i == n) ≡ false = ne_eqb i n (λ q. apart (sym q)) in row n (omega (arith, low, awake.items)) ∙ ap (λ b. has woken.row n && not b) e ∙ and-true (has woken.row n)
    where
      and-true : (a : Bool) → (a && true) ≡ a
      and-true true = refl
      and-true false = refl

  row-own : has later.row i ≡ false
  row-own = let e : (i == i) ≡ true = eq-eqb i i refl in row i (omega (arith, lt, awake.items)) ∙ ap (λ b. has woken.row i && not b) e ∙ Rattle.std.proofs.lemmas.Bool.and_right (has woken.row i) false refl

  pub rest-goes : IsLetGo i 0 (joined woken kept) (joined later kept)
  rest-goes = record {
    resources = refl;
    items = refl;
    own = awake.free i lt here;
    rest = λ n low apart none. (sym (row-parts n low apart) ∙ none, refl);
  }

  pub rest-awake : AreAwake later kept
  rest-awake = record {
    items = same ∙ awake.items;
    free = λ n low there. awake.free n low ((and_parts (has woken.row n) (not (i == n)) (sym (row n (omega (arith, low, awake.items))) ∙ there)).0);
  }

  module _ (put : less ≡ record kept { lacks = set kept.lacks i x }) where
    lacks-put : less.lacks ≡ set kept.lacks i x
    lacks-put = ap (λ k. k.lacks) put

    length-put : length less.lacks ≡ length kept.lacks
    length-put = ap length lacks-put ∙ length-set kept.lacks i x

    put-other : (n : ℕ) → (n ≡ i → ⊥) → slice_index less.lacks n ≡ slice_index kept.lacks n
    put-other n apart = ap (λ l. slice_index l n) lacks-put ∙ get_or-set_other kept.lacks i n x 0 apart

    pub keep-goes : IsLetGo i x (joined woken kept) (joined later less)
    keep-goes = record {
      resources = ap (λ k. k.resources) put;
      items = length-put;
      own = ap (λ l. slice_index l i) lacks-put ∙ get_or-set_same kept.lacks i x 0 lt;
      rest = λ n low apart none. (sym (row-parts n low apart) ∙ none, put-other n apart);
    }

    pub keep-awake : AreAwake later less
    keep-awake = record {
      items = same ∙ awake.items ∙ sym length-put;
      free = λ n low there. elim (cases_eq n i) as (λ _. slice_index less.lacks n ≡ 0) [
        | inl this ↦ absurd (both_ways (has later.row n) (ap (has later.row) this ∙ row-own) there)
        | inr apart ↦ put-other n apart ∙ awake.free n (omega (arith, low, length-put)) (sym (row-parts n (omega (arith, low, length-put)) apart) ∙ there)
      ];
    }
