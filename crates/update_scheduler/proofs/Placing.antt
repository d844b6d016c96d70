-- Operations kept by item: at which place one stands, and what an entry makes of them.
use Rattle.std.proofs.Common.{◌≡◌, ℕ, zero, suc, ◌+◌, ◌<◌, ◌≤◌, true, false, ◌==◌, nat_lt, List, [], ◌∷◌, ◌++◌, length, length-append, take, drop, get_or, refl, inl, inr, sym, ap, ap₂, ◌∙◌, arith, ltb-true, lt-ltb}
use Rattle.std.specs.List.{AllByRecursion}
use Rattle.std.specs.List.Sorted.{IsPartitionedBy}
use Rattle.std.proofs.lemmas.Bool.{cases_Bool, cases_eq, cases_lt, cond_both, ltb-false, ne_eqb}
use Rattle.std.proofs.lemmas.List.{map-append}
use Rattle.rollout_rules.specs.declared.op.Op.{Op}
use Rattle.rollout_rules.specs.declared.op.Entry.TheVariants.{Begin}
use Rattle.update_scheduler.specs.Rows.{bit, times, Rises}
use Rattle.update_scheduler.specs.InFlight.{items_of, ahead, behind, with_entry}
use Rattle.update_scheduler.proofs.Rows.{times-append}

-- ---- those of lower items, and the others
pub ahead-behind : (n : ℕ) (ops : List Op) → ahead n ops ++ behind n ops ≡ ops
ahead-behind n [] = refl
ahead-behind n (op ∷ ops) = elim (cases_Bool (nat_lt op.item n)) as (λ c. ahead n (op ∷ ops) ++ behind n (op ∷ ops) ≡ op ∷ ops) [
  | inl low ↦ rw low (ap (λ os. op ∷ os) (ahead-behind n ops))
  | inr high ↦ rw high refl
]

all-append : {X : Type 0} (P : X → Type 0) (xs ys : List X) → AllByRecursion P xs → AllByRecursion P ys → AllByRecursion P (xs ++ ys)
all-append P [] ys left right = right
all-append P (x ∷ xs) ys left right = (left.0, all-append P xs ys left.1 right)

all-ahead : (P : Op → Type 0) (n : ℕ) (ops : List Op) → AllByRecursion P ops → AllByRecursion P (ahead n ops)
all-ahead P n [] all = tt
all-ahead P n (op ∷ ops) all = cond_both (nat_lt op.item n) (op ∷ ahead n ops) [] (AllByRecursion P) (λ _. (all.0, all-ahead P n ops all.1)) (λ _. tt)

all-behind : (P : Op → Type 0) (n : ℕ) (ops : List Op) → AllByRecursion P ops → AllByRecursion P (behind n ops)
all-behind P n [] all = tt
all-behind P n (op ∷ ops) all = cond_both (nat_lt op.item n) (behind n ops) (op ∷ ops) (AllByRecursion P) (λ _. all-behind P n ops all.1) (λ _. all)

ahead-low : (n : ℕ) (ops : List Op) → AllByRecursion (λ op. op.item ≤ n) (ahead n ops)
ahead-low n [] = tt
ahead-low n (op ∷ ops) = cond_both (nat_lt op.item n) (op ∷ ahead n ops) [] (AllByRecursion (λ o. o.item ≤ n)) (λ low. (omega (arith, ltb-true op.item n low), ahead-low n ops)) (λ _. tt)

from-items : (n : ℕ) (ops : List Op) → AllByRecursion (λ m. n ≤ m) (items_of ops) → AllByRecursion (λ op. n ≤ op.item) ops
from-items n [] all = tt
from-items n (op ∷ ops) all = (all.0, from-items n ops all.1)

to-items : (P : ℕ → Type 0) (ops : List Op) → AllByRecursion (λ op. P op.item) ops → AllByRecursion P (items_of ops)
to-items P [] all = tt
to-items P (op ∷ ops) all = (all.0, to-items P ops all.1)

all-higher : (n m : ℕ) (ops : List Op) → n ≤ m → AllByRecursion (λ op. m ≤ op.item) ops → AllByRecursion (λ op. n ≤ op.item) ops
all-higher n m [] le all = tt
all-higher n m (op ∷ ops) le all = (omega (arith, le, all.0), all-higher n m ops le all.1)

behind-high : (n : ℕ) (ops : List Op) → Rises (items_of ops) → AllByRecursion (λ op. n ≤ op.item) (behind n ops)
behind-high n [] up = tt
behind-high n (op ∷ ops) up = cond_both (nat_lt op.item n) (behind n ops) (op ∷ ops) (AllByRecursion (λ o. n ≤ o.item)) (λ _. behind-high n ops up.1)
    (λ high. let le : n ≤ op.item = ltb-false op.item n high in (le, all-higher n op.item ops le (from-items op.item ops up.0)))

rises-ahead : (n : ℕ) (ops : List Op) → Rises (items_of ops) → Rises (items_of (ahead n ops))
rises-ahead n [] up = tt
rises-ahead n (op ∷ ops) up = cond_both (nat_lt op.item n) (op ∷ ahead n ops) [] (λ os. Rises (items_of os)) (λ _. (to-items (λ m. op.item ≤ m) (ahead n ops) (all-ahead (λ o. op.item ≤ o.item) n ops (from-items op.item ops up.0)), rises-ahead n ops up.1)) (λ _. tt)

rises-behind : (n : ℕ) (ops : List Op) → Rises (items_of ops) → Rises (items_of (behind n ops))
rises-behind n [] up = tt
rises-behind n (op ∷ ops) up = cond_both (nat_lt op.item n) (behind n ops) (op ∷ ops) (λ os. Rises (items_of os)) (λ _. rises-behind n ops up.1) (λ _. up)

rises-append : (n : ℕ) (xs ys : List Op) → Rises (items_of xs) → Rises (items_of ys) → AllByRecursion (λ op. op.item ≤ n) xs → AllByRecursion (λ op. n ≤ op.item) ys → Rises (items_of (xs ++ ys))
rises-append n [] ys up down low high = down
rises-append n (x ∷ xs) ys up down low high = (
  to-items (λ m. x.item ≤ m) (xs ++ ys) (all-append (λ o. x.item ≤ o.item) xs ys (from-items x.item xs up.0) (all-higher x.item n ys low.0 high)),
  rises-append n xs ys up.1 down low.1 high,
)

-- ---- the place of an item
all-at : (P : Op → Type 0) (ops : List Op) → AllByRecursion P ops → (j : ℕ) (d : Op) → j < length ops → P (get_or ops j d)
all-at P [] all j d lt = absurd (omega (arith, lt))
all-at P (op ∷ ops) all zero d lt = all.0
all-at P (op ∷ ops) all (suc j) d lt = all-at P ops all.1 j d (omega (arith, lt))

-- those of lower items come first
pub rises-parted : (n : ℕ) (ops : List Op) → Rises (items_of ops) → IsPartitionedBy (λ op. nat_lt op.item n) ops
rises-parted n [] up i j d le lt low = absurd (omega (arith, lt))
rises-parted n (op ∷ ops) up zero zero d le lt low = low
rises-parted n (op ∷ ops) up zero (suc j) d le lt low =
    lt-ltb op.item n (omega (arith, all-at (λ o. op.item ≤ o.item) ops (from-items op.item ops up.0) j d (omega (arith, lt)), ltb-true (get_or ops j d).item n low))
rises-parted n (op ∷ ops) up (suc i) zero d le lt low = absurd (omega (arith, le))
rises-parted n (op ∷ ops) up (suc i) (suc j) d le lt low = rises-parted n ops up.1 i j d (omega (arith, le)) (omega (arith, lt)) low

-- so the place parts them
pub placed : (n : ℕ) (ops : List Op) (r : ℕ) → r ≤ length ops → ((k : ℕ) (d : Op) → k < r → nat_lt (get_or ops k d).item n ≡ true) → ((k : ℕ) (d : Op) → r ≤ k → k < length ops → nat_lt (get_or ops k d).item n ≡ false)
    → (take r ops ≡ ahead n ops) × (drop r ops ≡ behind n ops)
placed n [] zero le low high = (refl, refl)
placed n [] (suc r) le low high = absurd (omega (arith, le))
placed n (op ∷ ops) zero le low high = let first = high 0 op (omega arith) (omega arith) in (rw first refl, rw first refl)
placed n (op ∷ ops) (suc r) le low high =
    let first = low 0 op (omega arith) in
    let rest = placed n ops r (omega (arith, le)) (λ k d lt. low (suc k) d (omega (arith, lt))) (λ k d from lt. high (suc k) d (omega (arith, from)) (omega (arith, lt))) in
    (rw first (ap (λ os. op ∷ os) rest.0), rw first rest.1)

-- how many there are
long-parts : (n : ℕ) (ops : List Op) → length (ahead n ops) + length (behind n ops) ≡ length ops
long-parts n ops = sym (length-append (ahead n ops) (behind n ops)) ∙ ap length (ahead-behind n ops)

long-drop : (ops : List Op) → length (drop 1 ops) ≤ length ops
long-drop [] = omega arith
long-drop (op ∷ ops) = omega arith

pub long-in : (op : Op) (ops : List Op) → length (with_entry ops (Begin op)) ≡ length ops + 1
long-in op ops = omega (arith, length-append (ahead op.item ops) (op ∷ behind op.item ops), long-parts op.item ops)

pub long-out : (n : ℕ) (ops : List Op) → length (ahead n ops ++ drop 1 (behind n ops)) ≤ length ops
long-out n ops = omega (arith, length-append (ahead n ops) (drop 1 (behind n ops)), long-parts n ops, long-drop (behind n ops))

-- ---- an operation that comes in
pub rises-in : (op : Op) (ops : List Op) → Rises (items_of ops) → Rises (items_of (with_entry ops (Begin op)))
rises-in op ops up =
    let n = op.item in
    rises-append n (ahead n ops) (op ∷ behind n ops) (rises-ahead n ops up) (to-items (λ m. n ≤ m) (behind n ops) (behind-high n ops up), rises-behind n ops up) (ahead-low n ops) (omega arith, behind-high n ops up)

pub all-in : (P : Op → Type 0) (op : Op) (ops : List Op) → AllByRecursion P ops → P op → AllByRecursion P (with_entry ops (Begin op))
all-in P op ops all here = let n = op.item in all-append P (ahead n ops) (op ∷ behind n ops) (all-ahead P n ops all) (here, all-behind P n ops all)

times-parts : (n m : ℕ) (ops : List Op) → times m (items_of (ahead n ops)) + times m (items_of (behind n ops)) ≡ times m (items_of ops)
times-parts n m ops =
    let low = ahead n ops in
    let high = behind n ops in
    sym (ap (times m) (map-append (λ o. o.item) low high) ∙ times-append m (items_of low) (items_of high)) ∙ ap (λ os. times m (items_of os)) (ahead-behind n ops)

pub times-in : (m : ℕ) (op : Op) (ops : List Op) → times m (items_of (with_entry ops (Begin op))) ≡ times m (items_of ops) + bit (op.item == m)
times-in m op ops =
    let low = ahead op.item ops in
    let high = behind op.item ops in
    let both = ap (times m) (map-append (λ o. o.item) low (op ∷ high)) ∙ times-append m (items_of low) (items_of (op ∷ high)) in
    omega (arith, both, times-parts op.item m ops)

-- ---- an operation that goes
all-drop : (P : Op → Type 0) (ops : List Op) → AllByRecursion P ops → AllByRecursion P (drop 1 ops)
all-drop P [] all = tt
all-drop P (op ∷ ops) all = all.1

rises-drop : (ops : List Op) → Rises (items_of ops) → Rises (items_of (drop 1 ops))
rises-drop [] up = tt
rises-drop (op ∷ ops) up = up.1

pub rises-out : (n : ℕ) (ops : List Op) → Rises (items_of ops) → Rises (items_of (ahead n ops ++ drop 1 (behind n ops)))
rises-out n ops up =
    rises-append n (ahead n ops) (drop 1 (behind n ops)) (rises-ahead n ops up) (rises-drop (behind n ops) (rises-behind n ops up)) (ahead-low n ops) (all-drop (λ o. n ≤ o.item) (behind n ops) (behind-high n ops up))

pub all-out : (P : Op → Type 0) (n : ℕ) (ops : List Op) → AllByRecursion P ops → AllByRecursion P (ahead n ops ++ drop 1 (behind n ops))
all-out P n ops all = all-append P (ahead n ops) (drop 1 (behind n ops)) (all-ahead P n ops all) (all-drop P (behind n ops) (all-behind P n ops all))

ahead-lower : (n : ℕ) (ops : List Op) → AllByRecursion (λ op. op.item < n) (ahead n ops)
ahead-lower n [] = tt
ahead-lower n (op ∷ ops) = cond_both (nat_lt op.item n) (op ∷ ahead n ops) [] (AllByRecursion (λ o. o.item < n)) (λ low. (ltb-true op.item n low, ahead-lower n ops)) (λ _. tt)

none-lower : (n : ℕ) (ops : List Op) → AllByRecursion (λ op. op.item < n) ops → times n (items_of ops) ≡ 0
none-lower n [] all = refl
none-lower n (op ∷ ops) all = omega (arith, ap bit (ne_eqb op.item n (λ e. omega (arith, all.0, e))), none-lower n ops all.1)

none-higher : (n : ℕ) (ops : List Op) → AllByRecursion (λ op. suc n ≤ op.item) ops → times n (items_of ops) ≡ 0
none-higher n [] all = refl
none-higher n (op ∷ ops) all = omega (arith, ap bit (ne_eqb op.item n (λ e. omega (arith, all.0, e))), none-higher n ops all.1)

-- of operations none of which is of a lower item the first is that of the item
first-goes : (n m : ℕ) (ops : List Op) → AllByRecursion (λ op. n ≤ op.item) ops → Rises (items_of ops) → times n (items_of ops) ≡ 1 → times m (items_of ops) ≡ bit (n == m) + times m (items_of (drop 1 ops))
first-goes n m [] all up one = absurd (omega (arith, one))
first-goes n m (op ∷ ops) all up one = elim (cases_eq op.item n) as (λ c. bit (op.item == m) + times m (items_of ops) ≡ bit (n == m) + times m (items_of ops)) [
  | inl same ↦ ap (λ k. bit (k == m) + times m (items_of ops)) same
  | inr apart ↦
      let higher : suc n ≤ op.item = above n op.item all.0 apart in
      let none = none-higher n ops (all-higher (suc n) op.item ops higher (from-items op.item ops up.0)) in
      absurd (omega (arith, one, none, ap bit (ne_eqb op.item n apart)))
]
  where
    above : (x y : ℕ) → x ≤ y → (y ≡ x → ⊥) → suc x ≤ y
    above x y le other = elim (cases_lt x y) as (λ c. suc x ≤ y) [ inl lt ↦ omega (arith, lt) | inr ge ↦ absurd (other (omega (arith, le, ge))) ]

pub times-out : (n m : ℕ) (ops : List Op) → Rises (items_of ops) → times n (items_of ops) ≡ 1 → times m (items_of (ahead n ops ++ drop 1 (behind n ops))) + bit (n == m) ≡ times m (items_of ops)
times-out n m ops up one =
    let low = ahead n ops in
    let high = behind n ops in
    let both = ap (times m) (map-append (λ o. o.item) low (drop 1 high)) ∙ times-append m (items_of low) (items_of (drop 1 high)) in
    let here : times n (items_of high) ≡ 1 = omega (arith, one, times-parts n n ops, none-lower n low (ahead-lower n ops)) in
    omega (arith, both, times-parts n m ops, first-goes n m high (behind-high n ops up) (rises-behind n ops up) here)

drop-next : (k : ℕ) (ops : List Op) → drop (suc k) ops ≡ drop 1 (drop k ops)
drop-next zero ops = refl
drop-next (suc k) [] = refl
drop-next (suc k) (op ∷ ops) = drop-next k ops

-- what is left where the one at the place is taken out
pub gone : (n k : ℕ) (ops row new : List Op) → row ≡ ops → new ≡ take k ops ++ drop (suc k) ops → take k row ≡ ahead n row → drop k row ≡ behind n row → new ≡ ahead n ops ++ drop 1 (behind n ops)
gone n k ops row new same is front rest =
    is ∙ ap₂ (λ low high. low ++ high) (ap (take k) (sym same) ∙ front ∙ ap (ahead n) same) (drop-next k ops ∙ ap (drop 1) (ap (drop k) (sym same) ∙ rest ∙ ap (behind n) same))
