-- Each item has a number below the count, and each such number is an item's.
use Rattle.std.proofs.Common.{◌≡◌, ℕ, zero, suc, ◌+◌, ◌-◌, ◌<◌, true, false, List, [], ◌∷◌, length, get_or, inl, inr, refl, ap, ap₂, ◌∙◌, arith, lt-ltb, le-ltb, ltb-true, nat_lt}
use Rattle.std.proofs.lemmas.Bool.{and_parts, and_from, cases_lt}
use Rattle.rollout_rules.specs.Sums.{sum_below}
use Rattle.rollout_rules.specs.Wan.{Problem, Tunnel, hops, no_tunnel}
use Rattle.rollout_rules.specs.Items.{is_item, item_count, number_of, entry_from, item_at}
use Rattle.rollout_rules.specs.declared.item.Item.{Item}
use Rattle.rollout_rules.specs.declared.item.Item.TheVariants as item
use Rattle.rollout_rules.proofs.Below.{sum_below-front, sum_below-up}

-- how many switches stand on the path of a row
abbrev hops_of : List Tunnel → ℕ → ℕ
hops_of rows k = length (get_or rows k no_tunnel).path

entry_from-at : (rows : List Tunnel) (t k h n : ℕ) → k < length rows → h < hops_of rows k → n ≡ sum_below k (hops_of rows) + h → entry_from rows t n ≡ item.Entry (t + k) h
entry_from-at [] t k h n lt fits e = absurd (omega arith)
entry_from-at (row ∷ rows) t zero h n lt fits e =
    let test : nat_lt n (length row.path) ≡ true = lt-ltb n (length row.path) (omega arith) in
    rw test (ap₂ item.Entry (omega arith) (omega arith))
entry_from-at (row ∷ rows) t (suc k) h n lt fits e =
    let front = sum_below-front k (hops_of (row ∷ rows)) in
    let past : nat_lt n (length row.path) ≡ false = le-ltb n (length row.path) (omega arith) in
    rw past (entry_from-at rows (t + 1) k h (n - length row.path) (omega arith) fits (omega arith) ∙ ap (λ x. item.Entry x h) (omega arith))

-- where the entry with a number stands
record IsEntryAt (rows : List Tunnel) (t n : ℕ) : Type 0 where
  row : ℕ
  hop : ℕ
  below : row < length rows
  fits : hop < hops_of rows row
  number : n ≡ sum_below row (hops_of rows) + hop
  is : entry_from rows t n ≡ item.Entry (t + row) hop

entry_from-is : (rows : List Tunnel) (t n : ℕ) → n < sum_below (length rows) (hops_of rows) → IsEntryAt rows t n
entry_from-is [] t n lt = absurd (omega arith)
entry_from-is (row ∷ rows) t n lt = elim (cases_lt n (length row.path)) as (λ c. IsEntryAt (row ∷ rows) t n) [
  | inl here ↦ record { row = 0; hop = n; below = omega arith; fits = here; number = omega arith; is = entry_from-at (row ∷ rows) t 0 n n (omega arith) here (omega arith) }
  | inr past ↦
      let front = sum_below-front (length rows) (hops_of (row ∷ rows)) in
      let there = entry_from-is rows (t + 1) (n - length row.path) (omega arith) in
      let before = sum_below-front there.row (hops_of (row ∷ rows)) in
      let number : n ≡ sum_below (suc there.row) (hops_of (row ∷ rows)) + there.hop = omega (arith, there.number) in
      record {
        row = suc there.row;
        hop = there.hop;
        below = omega (arith, there.below);
        fits = there.fits;
        number = number;
        is = entry_from-at (row ∷ rows) t (suc there.row) there.hop n (omega (arith, there.below)) there.fits number;
      }
]

pub number_of-below : (p : Problem) (i : Item) → is_item p i ≡ true → number_of p i < item_count p
number_of-below p (item.Flow f) here = omega (arith, ltb-true f (length p.flows) here)
number_of-below p (item.Entry t h) here =
    let both = and_parts (nat_lt t (length p.tunnels)) (nat_lt h (hops p t)) here in
    omega (arith, sum_below-up (suc t) (length p.tunnels) (hops p) (ltb-true t (length p.tunnels) both.0), ltb-true h (hops p t) both.1)

pub item_at-number_of : (p : Problem) (i : Item) → is_item p i ≡ true → item_at p (number_of p i) ≡ i
item_at-number_of p (item.Flow f) here = rw here
item_at-number_of p (item.Entry t h) here =
    let both = and_parts (nat_lt t (length p.tunnels)) (nat_lt h (hops p t)) here in
    let past : nat_lt (number_of p (item.Entry t h)) (length p.flows) ≡ false = le-ltb (number_of p (item.Entry t h)) (length p.flows) (omega arith) in
    rw past (entry_from-at p.tunnels 0 t h (number_of p (item.Entry t h) - length p.flows) (ltb-true t (length p.tunnels) both.0) (ltb-true h (hops p t) both.1) (omega arith) ∙ ap (λ x. item.Entry x h) (omega arith))

-- the number below the count is that of an item
record IsNumber (p : Problem) (n : ℕ) : Type 0 where
  this : Item
  found : is_item p this ≡ true
  number : number_of p this ≡ n
  at : item_at p n ≡ this

number-is : (p : Problem) (n : ℕ) → n < item_count p → IsNumber p n
number-is p n lt = elim (cases_lt n (length p.flows)) as (λ c. IsNumber p n) [
  | inl flow ↦ record { this = item.Flow n; found = lt-ltb n (length p.flows) flow; number = refl; at = rw (lt-ltb n (length p.flows) flow) }
  | inr entry ↦
      let there = entry_from-is p.tunnels 0 (n - length p.flows) (omega arith) in
      record {
        this = item.Entry there.row there.hop;
        found = and_from (nat_lt there.row (length p.tunnels)) (nat_lt there.hop (hops p there.row)) (lt-ltb there.row (length p.tunnels) there.below) (lt-ltb there.hop (hops p there.row) there.fits);
        number = omega (arith, there.number);
        at = rw (le-ltb n (length p.flows) entry) (there.is ∙ ap (λ t. item.Entry t there.hop) (omega arith));
      }
]

pub is_item-item_at : (p : Problem) (n : ℕ) → n < item_count p → is_item p (item_at p n) ≡ true
is_item-item_at p n lt = let there = number-is p n lt in ap (is_item p) there.at ∙ there.found

pub number_of-item_at : (p : Problem) (n : ℕ) → n < item_count p → number_of p (item_at p n) ≡ n
number_of-item_at p n lt = let there = number-is p n lt in ap (number_of p) there.at ∙ there.number
