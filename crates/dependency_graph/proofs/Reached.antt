-- The rows of what items take of, as they grow.
use Rattle.std.proofs.Common.{◌≡◌, ℕ, zero, suc, ◌+◌, ◌<◌, Bool, true, false, ◌&&◌, ◌||◌, ◌==◌, if◌then◌else◌, List, [], ◌∷◌, ◌++◌, length, slice_index, inl, inr, refl, sym, ap, ◌∙◌, subst, arith, eq-eqb, ne_eqb}
use Rattle.std.proofs.lemmas.Bool.{cases_Bool, cases_eq, cases_lt}
use Rattle.std.proofs.lemmas.List.{get_or_append_left, get_or_push}
use Rattle.rollout_rules.specs.Wan.{Problem, switch_of, width_of}
use Rattle.rollout_rules.specs.Items.{Resource, the_link, the_table, is_resource, item_at}
use Rattle.rollout_rules.specs.declared.item.Item.TheVariants as item
use Rattle.dependency_graph.specs.Cells.{resource_count, resource_number, has, AreOnce, AreTouched, TakesNothing}
use Rattle.dependency_graph.specs.Touched.{ItemRow, IsItemRow, AreRows, no_row}
use Rattle.dependency_graph.proofs.Elements.{length-push, each-push}
use Rattle.dependency_graph.proofs.Raised.{has-not}

-- ---- one number more
has-left : (row more : List ℕ) (q : ℕ) → has row q ≡ true → has (row ++ more) q ≡ true
has-left [] more q e = absurd (cc)
has-left (x ∷ row) more q e = elim (cases_Bool (x == q)) as (λ _. has (x ∷ row ++ more) q ≡ true) [
  | inl here ↦ rw here refl
  | inr away ↦ let rest : has row q ≡ true = subst (λ b. (b || has row q) ≡ true) away e in let more' = has-left row more q rest in rw (away, more') refl
]

has-last : (row : List ℕ) (q : ℕ) → has (row ++ q ∷ []) q ≡ true
has-last [] q = let e = eq-eqb q q refl in rw e refl
has-last (x ∷ row) q = elim (cases_Bool (x == q)) as (λ _. has (x ∷ row ++ q ∷ []) q ≡ true) [
  | inl here ↦ rw here refl
  | inr away ↦ let e = has-last row q in rw (away, e) refl
]

-- the later row has what the row had, and a number too
pub record IsWith (q : ℕ) (row later : List ℕ) : Type 0 where
  pub once : AreOnce row → AreOnce later
  pub here : has later q ≡ true
  pub kept : (k : ℕ) → has row k ≡ true → has later k ≡ true
  pub inside : (n : ℕ) → q < n → ((k : ℕ) → k < length row → slice_index row k < n) → (k : ℕ) → k < length later → slice_index later k < n

pub with-push : (q : ℕ) (row : List ℕ) → has row q ≡ false → IsWith q row (row ++ q ∷ [])
with-push q row away = record {
  once = once;
  here = has-last row q;
  kept = λ k e. has-left row (q ∷ []) k e;
  inside = λ n lt below k inside. each-push (λ m x. x < n) row q 0 (length row) refl below lt k (omega (arith, inside, length-push row q));
}
  where
    left : (k : ℕ) → k < length row → slice_index (row ++ q ∷ []) k ≡ slice_index row k
    left k lt = get_or_append_left row (q ∷ []) 0 k lt

    last : (k : ℕ) → k ≡ length row → slice_index (row ++ q ∷ []) k ≡ q
    last k e = ap (slice_index (row ++ q ∷ [])) e ∙ get_or_push row q 0 (length row) refl

    once : AreOnce row → AreOnce (row ++ q ∷ [])
    once so a b lt lt' e = elim (cases_lt a (length row)) as (λ _. a ≡ b) [
      | inl low ↦ elim (cases_lt b (length row)) as (λ _. a ≡ b) [
        | inl low' ↦ so a b low low' (sym (left a low) ∙ e ∙ left b low')
        | inr high' ↦ absurd (has-not row q away a low (sym (left a low) ∙ e ∙ last b (omega (arith, high', lt', length-push row q))))
      ]
      | inr high ↦ elim (cases_lt b (length row)) as (λ _. a ≡ b) [
        | inl low' ↦ absurd (has-not row q away b low' (sym (left b low') ∙ sym e ∙ last a (omega (arith, high, lt, length-push row q))))
        | inr high' ↦ omega (arith, high, high', lt, lt', length-push row q)
      ]
    ]

-- ---- the table of an entry
pub table-touched : (p : Problem) (t h q : ℕ) → q ≡ length p.links + switch_of p t h → switch_of p t h < length p.switches → AreTouched p (item.Entry t h) (q ∷ [])
table-touched p t h q is low = record {
  inside = inside;
  once = λ a b lt lt' e. omega (arith, lt, lt');
  rest = rest;
}
  where
    inside : (k : ℕ) → k < length (q ∷ []) → slice_index (q ∷ []) k < resource_count p
    inside zero lt = omega (arith, is, low)
    inside (suc k) lt = absurd (omega (arith, lt))

    rest : (u : Resource) → is_resource p u ≡ true → has (q ∷ []) (resource_number p u) ≡ false → TakesNothing p (item.Entry t h) u
    rest (the_link l) here away = λ rate there. refl
    rest (the_table w) here away = λ rate there. elim (cases_eq (switch_of p t h) w) as (λ _. (if (switch_of p t h == w) && there t h then width_of p t else 0) ≡ 0) [
      | inl same ↦ let e = eq-eqb q (length p.links + w) (omega (arith, is, same)) in absurd (clash (q == length p.links + w) e away)
      | inr other ↦ ap (λ b. if b && there t h then width_of p t else 0) (ne_eqb (switch_of p t h) w other)
    ]
      where
        clash : (b : Bool) → b ≡ true → (b || false) ≡ false → ⊥
        clash true e n = cc
        clash false e n = cc

pub table-row : (p : Problem) (t h : ℕ) (row : ItemRow) → row.resources ≡ (length p.links + switch_of p t h) ∷ [] → switch_of p t h < length p.switches → IsItemRow p (item.Entry t h) row
table-row p t h row is low = record {
  touched = subst (AreTouched p (item.Entry t h)) (sym is) (table-touched p t h (length p.links + switch_of p t h) refl low);
  each = λ k lt.
      let first : k ≡ 0 = omega (arith, lt, ap length is) in
      ap (slice_index row.resources) first ∙ ap (λ xs. slice_index xs 0) is;
}

-- ---- rows of all items
pub rows-none : (p : Problem) → AreRows p [] 0
rows-none p = record { count = refl; each = λ k lt. absurd (omega (arith, lt)) }

pub rows-push : (p : Problem) (rows : List ItemRow) (n : ℕ) (row : ItemRow) → AreRows p rows n → IsItemRow p (item_at p n) row → AreRows p (rows ++ row ∷ []) (n + 1)
rows-push p rows n row so here = record {
  count = omega (arith, length-push rows row, so.count);
  each = each-push (λ k xs. IsItemRow p (item_at p k) xs) rows row no_row n so.count so.each here;
}
