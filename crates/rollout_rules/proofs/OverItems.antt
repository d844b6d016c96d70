-- The laws of sums and of the least over all items, and of tests over all resources.
use Rattle.std.proofs.Common.{◌≡◌, ℕ, ◌+◌, ◌<◌, ◌≤◌, ◌⊎◌, Bool, true, length, inl, inr, arith, lt-ltb, ltb-true, nat_lt}
use Rattle.std.proofs.lemmas.Bool.{and_parts, and_from, cases_lt}
use Rattle.rollout_rules.specs.Wan.{Problem, hops}
use Rattle.rollout_rules.specs.Items.{Resource, the_link, the_table, is_item, sum_items, least_items, is_resource, all_resources}
use Rattle.rollout_rules.specs.Sums.{sum_below, least_below}
use Rattle.rollout_rules.specs.declared.item.Item.{Item}
use Rattle.rollout_rules.specs.declared.item.Item.TheVariants as item
use Rattle.rollout_rules.proofs.Below.{sum_below-same, sum_below-but, sum_below-mono, least_below-top, least_below-at, least_below-from, least_below-is, all_below-at, all_below-from}

pub is_item-flow : (p : Problem) (f : ℕ) → f < length p.flows → is_item p (item.Flow f) ≡ true
is_item-flow p f lt = lt-ltb f (length p.flows) lt

pub is_item-entry : (p : Problem) (t h : ℕ) → t < length p.tunnels → h < hops p t → is_item p (item.Entry t h) ≡ true
is_item-entry p t h lt low = and_from (nat_lt t (length p.tunnels)) (nat_lt h (hops p t)) (lt-ltb t (length p.tunnels) lt) (lt-ltb h (hops p t) low)

-- what says that an entry is an item
pub record IsEntry (p : Problem) (t h : ℕ) : Type 0 where
  pub row : t < length p.tunnels
  pub hop : h < hops p t

pub entry-is_item : (p : Problem) (t h : ℕ) → is_item p (item.Entry t h) ≡ true → IsEntry p t h
entry-is_item p t h here =
    let both = and_parts (nat_lt t (length p.tunnels)) (nat_lt h (hops p t)) here in
    record { row = ltb-true t (length p.tunnels) both.0; hop = ltb-true h (hops p t) both.1 }

pub sum_items-mono : (p : Problem) (f g : Item → ℕ) → ((i : Item) → is_item p i ≡ true → f i ≤ g i) → sum_items p f ≤ sum_items p g
sum_items-mono p f g le =
    let flows = sum_below-mono (length p.flows) (λ n. f (item.Flow n)) (λ n. g (item.Flow n)) (λ n lt. le (item.Flow n) (is_item-flow p n lt)) in
    let entries = sum_below-mono (length p.tunnels) (λ t. sum_below (hops p t) (λ h. f (item.Entry t h))) (λ t. sum_below (hops p t) (λ h. g (item.Entry t h)))
    (λ t lt. sum_below-mono (hops p t) (λ h. f (item.Entry t h)) (λ h. g (item.Entry t h)) (λ h low. le (item.Entry t h) (is_item-entry p t h lt low))) in
    omega (arith, flows, entries)

pub sum_items-same : (p : Problem) (f g : Item → ℕ) → ((i : Item) → is_item p i ≡ true → f i ≡ g i) → sum_items p f ≡ sum_items p g
sum_items-same p f g same =
    let flows = sum_below-same (length p.flows) (λ n. f (item.Flow n)) (λ n. g (item.Flow n)) (λ n lt. same (item.Flow n) (is_item-flow p n lt)) in
    let entries = sum_below-same (length p.tunnels) (λ t. sum_below (hops p t) (λ h. f (item.Entry t h))) (λ t. sum_below (hops p t) (λ h. g (item.Entry t h)))
    (λ t lt. sum_below-same (hops p t) (λ h. f (item.Entry t h)) (λ h. g (item.Entry t h)) (λ h low. same (item.Entry t h) (is_item-entry p t h lt low))) in
    omega (arith, flows, entries)

-- two functions that differ at one item alone
pub sum_items-but : (p : Problem) (f g : Item → ℕ) (i : Item) → is_item p i ≡ true → ((k : Item) → is_item p k ≡ true → (k ≡ i → ⊥) → f k ≡ g k) → sum_items p f + g i ≡ sum_items p g + f i
sum_items-but p f g (item.Flow m) here same =
    let flows = sum_below-but (length p.flows) m (λ n. f (item.Flow n)) (λ n. g (item.Flow n)) (ltb-true m (length p.flows) here)
    (λ n lt other. same (item.Flow n) (is_item-flow p n lt) (λ e. other (flow-number n m e))) in
    let entries = sum_below-same (length p.tunnels) (λ t. sum_below (hops p t) (λ h. f (item.Entry t h))) (λ t. sum_below (hops p t) (λ h. g (item.Entry t h)))
    (λ t lt. sum_below-same (hops p t) (λ h. f (item.Entry t h)) (λ h. g (item.Entry t h)) (λ h low. same (item.Entry t h) (is_item-entry p t h lt low) (λ e. cc))) in
    omega (arith, flows, entries)
  where
    flow-number : (n m : ℕ) → item.Flow n ≡ item.Flow m → n ≡ m
    flow-number n m e = cc
sum_items-but p f g (item.Entry u k) here same =
    let place = entry-is_item p u k here in
    let flows = sum_below-same (length p.flows) (λ n. f (item.Flow n)) (λ n. g (item.Flow n)) (λ n lt. same (item.Flow n) (is_item-flow p n lt) (λ e. cc)) in
    let row = sum_below-but (hops p u) k (λ h. f (item.Entry u h)) (λ h. g (item.Entry u h)) place.hop
    (λ h low other. same (item.Entry u h) (is_item-entry p u h place.row low) (λ e. other (entry-hop u h u k e))) in
    let rows = sum_below-but (length p.tunnels) u (λ t. sum_below (hops p t) (λ h. f (item.Entry t h))) (λ t. sum_below (hops p t) (λ h. g (item.Entry t h))) place.row
    (λ t lt other. sum_below-same (hops p t) (λ h. f (item.Entry t h)) (λ h. g (item.Entry t h)) (λ h low. same (item.Entry t h) (is_item-entry p t h lt low) (λ e. other (entry-tunnel t h u k e)))) in
    omega (arith, flows, row, rows)
  where
    entry-hop : (t h u k : ℕ) → item.Entry t h ≡ item.Entry u k → h ≡ k
    entry-hop t h u k e = cc

    entry-tunnel : (t h u k : ℕ) → item.Entry t h ≡ item.Entry u k → t ≡ u
    entry-tunnel t h u k e = cc

-- the least over the entries alone
abbrev least_entries : Problem → ℕ → (Item → ℕ) → ℕ
least_entries p top f = least_below (length p.tunnels) top (λ t. least_below (hops p t) top (λ h. f (item.Entry t h)))

pub least_items-top : (p : Problem) (top : ℕ) (f : Item → ℕ) → least_items p top f ≤ top
least_items-top p top f = omega (arith, least_below-top (length p.flows) top (λ n. f (item.Flow n)))

pub least_items-at : (p : Problem) (top : ℕ) (f : Item → ℕ) (i : Item) → is_item p i ≡ true → least_items p top f ≤ f i
least_items-at p top f (item.Flow n) here = omega (arith, least_below-at (length p.flows) top (λ n. f (item.Flow n)) n (ltb-true n (length p.flows) here))
least_items-at p top f (item.Entry t h) here =
    let there = entry-is_item p t h here in
    omega (arith, least_below-at (length p.tunnels) top (λ t. least_below (hops p t) top (λ h. f (item.Entry t h))) t there.row, least_below-at (hops p t) top (λ h. f (item.Entry t h)) h there.hop)

pub least_items-from : (p : Problem) (top : ℕ) (f : Item → ℕ) (b : ℕ) → b ≤ top → ((i : Item) → is_item p i ≡ true → b ≤ f i) → b ≤ least_items p top f
least_items-from p top f b low le =
    let flows = least_below-from (length p.flows) top (λ n. f (item.Flow n)) b low (λ n lt. le (item.Flow n) (is_item-flow p n lt)) in
    let entries = least_below-from (length p.tunnels) top (λ t. least_below (hops p t) top (λ h. f (item.Entry t h))) b low
    (λ t lt. least_below-from (hops p t) top (λ h. f (item.Entry t h)) b low (λ h near. le (item.Entry t h) (is_item-entry p t h lt near))) in
    omega (arith, flows, entries)

-- the least is the top, or attained
pub record IsLeast (p : Problem) (f : Item → ℕ) (least : ℕ) : Type 0 where
  pub this : Item
  pub found : is_item p this ≡ true
  pub is : least ≡ f this

least_entries-is : (p : Problem) (top : ℕ) (f : Item → ℕ) → (least_entries p top f ≡ top) ⊎ IsLeast p f (least_entries p top f)
least_entries-is p top f = elim (least_below-is (length p.tunnels) top (λ t. least_below (hops p t) top (λ h. f (item.Entry t h)))) as (λ c. (least_entries p top f ≡ top) ⊎ IsLeast p f (least_entries p top f)) [
  | inl e ↦ inl e
  | inr row ↦ elim (least_below-is (hops p row.0) top (λ h. f (item.Entry row.0 h))) as (λ c. (least_entries p top f ≡ top) ⊎ IsLeast p f (least_entries p top f)) [
    | inl e ↦ inl (omega (arith, e, row.2))
    | inr hop ↦ inr (record { this = item.Entry row.0 hop.0; found = is_item-entry p row.0 hop.0 row.1 hop.1; is = omega (arith, row.2, hop.2) })
  ]
]

pub least_items-is : (p : Problem) (top : ℕ) (f : Item → ℕ) → least_items p top f < top → IsLeast p f (least_items p top f)
least_items-is p top f below = elim (cases_lt (least_entries p top f) (least_below (length p.flows) top (λ n. f (item.Flow n)))) as (λ c. IsLeast p f (least_items p top f)) [
  | inl entries ↦ elim (least_entries-is p top f) as (λ c. IsLeast p f (least_items p top f)) [
    | inl e ↦ absurd (omega arith)
    | inr there ↦ record { this = there.this; found = there.found; is = omega (arith, there.is) }
  ]
  | inr flows ↦ elim (least_below-is (length p.flows) top (λ n. f (item.Flow n))) as (λ c. IsLeast p f (least_items p top f)) [
    | inl e ↦ absurd (omega arith)
    | inr there ↦ record { this = item.Flow there.0; found = is_item-flow p there.0 there.1; is = omega (arith, there.2) }
  ]
]

pub all_resources-at : (p : Problem) (test : Resource → Bool) → all_resources p test ≡ true → (r : Resource) → is_resource p r ≡ true → test r ≡ true
all_resources-at p test all (the_link l) here = all_below-at (length p.links) (λ l. test (the_link l)) (and_parts _ _ all).0 l (ltb-true l (length p.links) here)
all_resources-at p test all (the_table w) here = all_below-at (length p.switches) (λ w. test (the_table w)) (and_parts _ _ all).1 w (ltb-true w (length p.switches) here)

pub all_resources-from : (p : Problem) (test : Resource → Bool) → ((r : Resource) → is_resource p r ≡ true → test r ≡ true) → all_resources p test ≡ true
all_resources-from p test each =
    and_from _ _
    (all_below-from (length p.links) (λ l. test (the_link l)) (λ l lt. each (the_link l) (lt-ltb l (length p.links) lt)))
    (all_below-from (length p.switches) (λ w. test (the_table w)) (λ w lt. each (the_table w) (lt-ltb w (length p.switches) lt)))
