-- What is counted over tunnels: loads, which stay small, and the entries of tables.
use Rattle.std.proofs.Common.{◌≡◌, ℕ, zero, suc, ◌+◌, ◌*◌, ◌^◌, ◌<◌, ◌≤◌, ◌==◌, max, Bool, true, false, ◌&&◌, List, [], ◌∷◌, ◌++◌, length, replicate, slice_index, unwrap_or, if◌then◌else◌, refl, sym, ap, ap₂, ◌∙◌, add-one, inl, inr, arith, append-nil, drop, take}
use Rattle.std.proofs.lemmas.Bool.{cases_lt}
use Rattle.std.proofs.lemmas.List.{drop_all, get_or-replicate, length-replicate, take_all}
use Rattle.rollout_rules.specs.Network.{IsNetwork}
use Rattle.rollout_rules.specs.Sums.{list_below, sum_below}
use Rattle.rollout_rules.specs.Wan.{Problem, crosses, hops, switch_of, tunnel_at, width_of}
use Rattle.rollout_rules.specs.declared.limits.TheConstants.{LARGEST_CAPACITY, LARGEST_TABLE}
use Rattle.rollout_rules.proofs.Below.{sum_below-same}
use Rattle.rollout_rules.proofs.Rows.{list_below-at, list_below-length}
use Rattle.wan_model.specs.declared.side.Side.{Side}
use Rattle.wan_model.specs.declared.side.Side.TheVariants.{Old, New}
use Rattle.wan_model.specs.Sides.{rate_on}
use Rattle.plan_check.specs.LeastSlack.{AreLoads}
use Rattle.plan_check.specs.Parts.{GrownBy, added}
use Rattle.plan_check.proofs.Rows.{list_below-from}
use Rattle.case_gen.specs.Cases.{capacity_for, least_capacity, table_for}
use Rattle.case_gen.specs.Conditions.{HasSmallRates}

-- rates up to 1,000 add up to no more than so many times that
share_most : (b : Bool) (x : ℕ) → x ≤ 1_000 → (if b then x else 0) ≤ 1_000
share_most true x le = le
share_most false x le = omega arith

sum_most : (p : Problem) (rate : ℕ → ℕ) (l n : ℕ) → ((t : ℕ) → t < n → rate t ≤ 1_000) → sum_below n (λ t. if crosses p t l then rate t else 0) ≤ n * 1_000
sum_most p rate l zero small = omega arith
sum_most p rate l (suc n) small = omega (arith, sum_most p rate l n (λ t lt. small t (omega arith)), share_most (crosses p n l) (rate n) (small n (omega arith)))

rate_small : (side : Side) (p : Problem) → HasSmallRates p → (t : ℕ) → t < length p.tunnels → unwrap_or (rate_on side (tunnel_at p t)) 0 ≤ 1_000
rate_small Old p small t lt = small.was t lt
rate_small New p small t lt = small.becomes t lt

pub loads_small : (side : Side) (p : Problem) (sums : List ℕ) → IsNetwork p → HasSmallRates p → AreLoads side p sums → (l : ℕ) → l < length sums → slice_index sums l ≤ 4_096_000
loads_small side p sums net small are l lt =
    omega (arith, are.each l (omega (arith, are.count)), sum_most p (λ t. unwrap_or (rate_on side (tunnel_at p t)) 0) l (length p.tunnels) (rate_small side p small), net.few)

-- the capacity for the greater of both loads, and one capacity more
pub is_capacity : (k l load capacity : ℕ) (p : Problem) (old new : List ℕ) → AreLoads Old p old → AreLoads New p new → l < length p.links → load ≡ max (slice_index old l) (slice_index new l) → capacity ≡ least_capacity k load
    → capacity ≡ capacity_for k p l
is_capacity k l load capacity p old new was becomes lt greater is =
    is ∙ ap (least_capacity k) greater ∙ ap₂ (λ a b. least_capacity k (max a b)) (was.each l lt) (becomes.each l lt)

pub capacity_more : (k l capacity : ℕ) (p : Problem) (capacities : List ℕ) → capacities ≡ list_below l (capacity_for k p) → capacity ≡ capacity_for k p l → capacities ++ capacity ∷ [] ≡ list_below (l + 1) (capacity_for k p)
capacity_more k l capacity p capacities so is = rw (add-one l) (ap₂ (λ cs c. cs ++ c ∷ []) so is)

pub within_more : (k l capacity : ℕ) (p : Problem) → ((j : ℕ) → j < l → capacity_for k p j ≤ LARGEST_CAPACITY) → capacity ≡ capacity_for k p l → capacity ≤ LARGEST_CAPACITY
    → (j : ℕ) → j < l + 1 → capacity_for k p j ≤ LARGEST_CAPACITY
within_more k l capacity p so is fits j lt = elim (cases_lt j l) as (λ _. capacity_for k p j ≤ LARGEST_CAPACITY) [
  | inl below ↦ so j below
  | inr above ↦ let at : l ≡ j = omega arith in omega (arith, is, fits, ap (capacity_for k p) at)
]

pub capacities_within : (k n : ℕ) (p : Problem) (capacities : List ℕ) → capacities ≡ list_below n (capacity_for k p) → ((j : ℕ) → j < n → capacity_for k p j ≤ LARGEST_CAPACITY)
    → (j : ℕ) → j < length capacities → slice_index capacities j ≤ LARGEST_CAPACITY
capacities_within k n p capacities are so j lt =
    let below : j < n = omega (arith, ap length are, list_below-length n (capacity_for k p)) in
    omega (arith, ap (λ cs. slice_index cs j) are, list_below-at n (capacity_for k p) j 0 below, so j below)

-- what tunnel t takes of the table of switch w
abbrev pub taken_by : Problem → ℕ → ℕ → ℕ
taken_by p t w = sum_below (hops p t) (λ h. if (switch_of p t h == w) && true then width_of p t else 0)

-- what the first so many tunnels take of each table
pub record AreCounts (p : Problem) (tables : List ℕ) (n : ℕ) : Type 0 where
  pub count : length tables ≡ length p.switches
  pub each : (w : ℕ) → w < length p.switches → slice_index tables w ≡ sum_below n (λ t. taken_by p t w)
  pub few : (w : ℕ) → w < length p.switches → slice_index tables w ≤ n * 17

pub counts_none : (p : Problem) (tables : List ℕ) → tables ≡ replicate (length p.switches) 0 → AreCounts p tables 0
counts_none p tables are = record {
  count = ap length are ∙ length-replicate {A = ℕ} (length p.switches) 0;
  each = λ w lt. ap (λ ts. slice_index ts w) are ∙ get_or-replicate {A = ℕ} (length p.switches) w 0 0 lt;
  few = λ w lt. omega (arith, ap (λ ts. slice_index ts w) are, get_or-replicate {A = ℕ} (length p.switches) w 0 0 lt);
}

one_wide : (b : Bool) (width : ℕ) → width ≡ 1 → (if b then 1 else 0) ≡ (if b && true then width else 0)
one_wide true width one = sym one
one_wide false width one = refl

module _ (p : Problem) (net : IsNetwork p) (t : ℕ) (inside : t < length p.tunnels) (path : List ℕ) (is : path ≡ (tunnel_at p t).path) (tables : List ℕ) (so : AreCounts p tables t) where
  pub path_known : (h : ℕ) → h < length path → slice_index path h < length tables
  path_known h lt = omega (arith, ap (λ way. slice_index way h) is, (net.tunnels t inside).path.switches h (omega (arith, ap length is)), so.count)

  pub path_room : (w : ℕ) → w < length tables → slice_index tables w + length path < 2 ^ 32
  path_room w lt = omega (arith, so.few w (omega (arith, so.count)), ap length is, (net.tunnels t inside).path.most, net.few)

  pub counts_more : (after : List ℕ) → p.format ≡ 1 → GrownBy tables after (added path 1) (length path) → AreCounts p after (t + 1)
  counts_more after plain by =
      let wide : width_of p t ≡ 1 = (net.tunnels t inside).width.plain plain in
      let takes : (w : ℕ) → added path 1 w ≡ taken_by p t w = λ w.
      ap (λ way. added way 1 w) is
      ∙ sum_below-same (hops p t) (λ h. if switch_of p t h == w then 1 else 0) (λ h. if (switch_of p t h == w) && true then width_of p t else 0) (λ h lt. one_wide (switch_of p t h == w) (width_of p t) wide) in
      record {
        count = omega (arith, by.count, so.count);
        each = λ w lt. rw (add-one t) (omega (arith, by.each w (omega (arith, so.count)), so.each w lt, takes w));
        few = λ w lt. omega (arith, by.few w (omega (arith, so.count)), so.few w lt, ap length is, (net.tunnels t inside).path.most);
      }

module _ (p : Problem) (tables : List ℕ) (n : ℕ) (all : n ≡ length p.tunnels) (so : AreCounts p tables n) where
  pub counts_all : tables ≡ list_below (length p.switches) (table_for p)
  counts_all = list_below-from tables (length p.switches) (table_for p) so.count (λ w lt. so.each w lt ∙ ap (λ m. sum_below m (λ t. taken_by p t w)) all)

  pub counts_within : IsNetwork p → (w : ℕ) → w < length tables → slice_index tables w ≤ LARGEST_TABLE
  counts_within net w lt = omega (arith, so.few w (omega (arith, so.count)), all, net.few)

-- what was written to a slice of as many numbers is all that stands
pub written_back : (len : ℕ) (items new : List ℕ) → len ≡ length items → length new ≡ length items → take len (new ++ drop (length new) items) ≡ new
written_back len items new long same =
    let none : drop (length new) items ≡ [] = drop_all (length new) items (omega arith) in
    ap (λ rest. take len (new ++ rest)) none ∙ ap (take len) (append-nil new) ∙ take_all len new (omega arith)
