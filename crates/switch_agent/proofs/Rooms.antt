-- How many items there are, and may be.
use Rattle.std.proofs.Common.{◌≡◌, ◌∙◌, ◌==◌, ◌||◌, ℕ, ◌+◌, ◌<◌, ◌≤◌, Bool, true, false, [], ◌∷◌, ◌++◌, length, Option, Some, is_some, refl, sym, ap, inl, inr, nat_eq, nat_lt, eqb-true, ltb-true, true≢false, arith, length-append}
use Rattle.std.specs.List.{IsDistinct, list_any}
use Rattle.std.specs.Map.{keys_of, lookup}
use Rattle.std.specs.Cmp.{nat_eq_equiv}
use Rattle.std.proofs.lemmas.Bool.{cases_Bool, cond-false, cond-true}
use Rattle.std.proofs.lemmas.List.Folds.{list_any-append}
use Rattle.std.proofs.lemmas.Map.Keys.{IsDistinct-push}
use Rattle.std.proofs.lemmas.Map.Made.{is_some-lookup}
use Rattle.std.proofs.lemmas.Map.Steps.{length-le_from_distinct_below}
use Rattle.indexmap.specs.IndexMap.{insert_entry}
use Rattle.rollout_rules.specs.Items.{item_count}
use Rattle.rollout_rules.specs.Network.{IsNetwork}
use Rattle.rollout_rules.specs.Wan.{Problem, hops}
use Rattle.rollout_rules.proofs.Below.{sum_below-most}
use Rattle.wan_edge.specs.Frames.{CommandFrame}
use Rattle.switch_agent.specs.Items.{Items, most_items, seen}

pub few-items : (p : Problem) → IsNetwork p → item_count p ≤ most_items
few-items p net =
    omega (arith, net.flows.count, net.few, sum_below-most (length p.tunnels) 17 (hops p) (λ t lt. (net.tunnels t lt).path.most))

length-keys : (items : Items) → length (keys_of items) ≡ length items
length-keys [] = omega arith
length-keys (e ∷ es) = omega (arith, length-keys es)

or-last : (a b : Bool) → (a || (b || false)) ≡ true → a ≡ false → b ≡ true
or-last true b has isnt = absurd (true≢false isnt)
or-last false true has isnt = refl
or-last false false has isnt = has

-- Keys below a bound, of which no two are equal, and one more such: there are fewer of them than the bound.
pub room-below : (n : ℕ) (items : Items) → IsDistinct nat_eq (keys_of items) → ((q : ℕ) → seen items q ≡ true → q < n) → (item : ℕ) → item < n → seen items item ≡ false → length items < n
room-below n items apart below item lt unseen =
    omega (arith, length-le_from_distinct_below (keys_of items ++ item ∷ []) n more all_below, length-append (keys_of items) (item ∷ []), length-keys items)
  where
    more : IsDistinct nat_eq (keys_of items ++ item ∷ [])
    more = IsDistinct-push nat_eq_equiv (keys_of items) item apart (sym (is_some-lookup (λ key. item == key) items) ∙ unseen)

    all_below : (q : ℕ) → list_any (nat_eq q) (keys_of items ++ item ∷ []) ≡ true → q < n
    all_below q has = elim (cases_Bool (list_any (nat_eq q) (keys_of items))) [
      | inl is ↦ below q (is_some-lookup (λ key. q == key) items ∙ is)
      | inr isnt ↦
          let e : q ≡ item = eqb-true q item (or-last (list_any (nat_eq q) (keys_of items)) (nat_eq q item) (sym (list_any-append (nat_eq q) (keys_of items) (item ∷ [])) ∙ has) isnt) in
          omega (arith, lt, e)
    ]

-- ---- an item more

-- there is room where the item was seen, and where it wasn't if there is a place
pub room-seen : (result is_seen fits : Bool) → result ≡ is_seen → result ≡ true → result ≡ (is_seen || fits)
room-seen result true fits is holds = holds
room-seen result false fits is holds = absurd (true≢false (sym holds ∙ is))

pub room-unseen : (result is_seen fits here : Bool) → result ≡ is_seen → result ≡ false → here ≡ fits → here ≡ (is_seen || fits)
room-unseen result true fits here is fails same = absurd (true≢false (sym is ∙ fails))
room-unseen result false fits here is fails same = same

-- where there is no room the item wasn't seen
pub unseen-without : (is_seen fits has : Bool) → has ≡ (is_seen || fits) → has ≡ false → is_seen ≡ false
unseen-without true fits has is isnt = absurd (true≢false (sym is ∙ isnt))
unseen-without false fits has is isnt = refl

-- and where there is, an item that wasn't has a place
place-more : (is_seen has : Bool) (n m : ℕ) → has ≡ (is_seen || nat_lt n m) → has ≡ true → is_seen ≡ false → n < m
place-more true has n m is holds unseen = absurd (true≢false unseen)
place-more false has n m is holds unseen = ltb-true n m (sym is ∙ holds)

-- an item takes a place at most, and none where it is there
insert-most : (items : Items) (item : ℕ) (last : Option CommandFrame) → length (insert_entry nat_eq items item last) ≤ length items + 1
insert-most [] item last = omega arith
insert-most (e ∷ es) item last = elim (cases_Bool (nat_eq item e.0)) [
  | inl is ↦
      let put : length (insert_entry nat_eq (e ∷ es) item last) ≡ length ((e.0, last) ∷ es) = ap length (cond-true (nat_eq item e.0) ((e.0, last) ∷ es) (e ∷ insert_entry nat_eq es item last) is) in
      omega (arith, put)
  | inr isnt ↦
      let put : length (insert_entry nat_eq (e ∷ es) item last) ≡ length (e ∷ insert_entry nat_eq es item last) = ap length (cond-false (nat_eq item e.0) ((e.0, last) ∷ es) (e ∷ insert_entry nat_eq es item last) isnt) in
      omega (arith, put, insert-most es item last)
]

insert-seen : (items : Items) (item : ℕ) (last : Option CommandFrame) → seen items item ≡ true → length (insert_entry nat_eq items item last) ≡ length items
insert-seen [] item last has = absurd (true≢false (sym has))
insert-seen (e ∷ es) item last has = elim (cases_Bool (nat_eq item e.0)) [
  | inl is ↦
      let put : length (insert_entry nat_eq (e ∷ es) item last) ≡ length ((e.0, last) ∷ es) = ap length (cond-true (nat_eq item e.0) ((e.0, last) ∷ es) (e ∷ insert_entry nat_eq es item last) is) in
      omega (arith, put)
  | inr isnt ↦
      let later : seen es item ≡ true = sym (ap is_some (cond-false (item == e.0) (Some e.1) (lookup (λ key. item == key) es) isnt)) ∙ has in
      let put : length (insert_entry nat_eq (e ∷ es) item last) ≡ length (e ∷ insert_entry nat_eq es item last) = ap length (cond-false (nat_eq item e.0) ((e.0, last) ∷ es) (e ∷ insert_entry nat_eq es item last) isnt) in
      omega (arith, put, insert-seen es item last later)
]

-- so there are no more than may be
pub few-more : (items now : Items) (item : ℕ) (last : Option CommandFrame) (has : Bool) → now ≡ insert_entry nat_eq items item last → has ≡ (seen items item || nat_lt (length items) most_items) → has ≡ true
    → length items ≤ most_items → length now ≤ most_items
few-more items now item last has is room holds few = elim (cases_Bool (seen items item)) [
  | inl there ↦ omega (arith, ap length is, insert-seen items item last there, few)
  | inr unseen ↦ omega (arith, ap length is, insert-most items item last, place-more (seen items item) has (length items) most_items room holds unseen)
]
