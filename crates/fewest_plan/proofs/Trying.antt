-- The flows of an order, tried one after another.
use Rattle.std.proofs.Common.{◌≡◌, ℕ, zero, suc, ◌+◌, ◌-◌, ◌*◌, ◌^◌, ◌<◌, ◌≤◌, max, Bool, true, false, List, length, slice_index, slice_set, if◌then◌else◌, refl, sym, ap, ap₂, ◌∙◌, inl, inr, subst, add-one, arith}
use Rattle.std.specs.Prelude.{◌/◌}
use Rattle.std.proofs.Math.Nat.{mul-div-le, mul-le-mul_left}
use Rattle.std.proofs.lemmas.Bool.{cases_eq}
use Rattle.std.proofs.lemmas.Nat.{mul-le}
use Rattle.std.proofs.lemmas.List.{get_or-set_same, get_or-set_other, length-set}
use Rattle.lists.proofs.Conditions.{if_most}
use Rattle.rollout_rules.specs.declared.limits.TheConstants.{LARGEST_RATE, LARGEST_SCALE, LARGEST_CAPACITY, MOST_TUNNELS}
use Rattle.rollout_rules.specs.Sums.{sum_below}
use Rattle.rollout_rules.specs.Wan.{Problem, Tunnel, tunnel_at, link_at, crosses, old_rate, new_rate}
use Rattle.rollout_rules.specs.Network.{IsNetwork}
use Rattle.rollout_rules.proofs.Below.{sum_below-same, least_below-top, least_below-at, sum_below-most}
use Rattle.rollout_rules.proofs.Rows.{list_below-length, list_below-at}
use Rattle.plan_check.specs.Parts.{GrownBy, rate_share}
use Rattle.plan_check.proofs.Shares.{AreSums}
use Rattle.plan_check.proofs.Rows.{list_below-from}
use Rattle.scratch_plan.specs.Scratch.{blended}
use Rattle.rollout_rules.proofs.Rates.{rate_within}
use Rattle.fewest_plan.specs.declared.gain.Gain.{Gain}
use Rattle.fewest_plan.specs.Growth.{gains_of, gain_at, gained, AreGains}
use Rattle.fewest_plan.specs.Greedy.{rate_after, top, tops, lets, reach, far, moved, tried, step, AreShares}
use Rattle.fewest_plan.proofs.Gaining.{gained-gains_of}
use Rattle.fewest_plan.proofs.Moving.{top-later}

-- ---- how far a flow goes
pub reach-most : (p : Problem) (d : ℕ) (sums : List ℕ) (gains : List Gain) (left : ℕ) → reach p d sums gains left ≤ left
reach-most p d sums gains left = least_below-top (length gains) left (λ i. lets p d sums (gain_at gains i))

pub within : (g n room far : ℕ) → far ≤ room / g → room ≤ n → g * far ≤ n
within g n room far le few = omega (arith, mul-le-mul_left g le, mul-div-le room g)

pub reach-fits : (p : Problem) (d : ℕ) (sums : List ℕ) (gains : List Gain) (left i : ℕ) → IsNetwork p → AreGains p gains → d ≤ LARGEST_SCALE → i < length gains → (gain_at gains i).growth * reach p d sums gains left < 2 ^ 64
reach-fits p d sums gains left i net are small lt =
    let g = gain_at gains i in
    let at = least_below-at (length gains) left (λ k. lets p d sums (gain_at gains k)) i lt in
    let capacity = mul-le (link_at p g.link).capacity d LARGEST_CAPACITY LARGEST_SCALE (net.links.capacities g.link (are i lt).link) small in
    omega (arith, within g.growth ((link_at p g.link).capacity * d) ((link_at p g.link).capacity * d - slice_index sums g.link) (reach p d sums gains left) at (omega arith), capacity)

-- ---- how large a top gets

pub blended-most : (d a : ℕ) (row : Tunnel) → a ≤ d → old_rate row ≤ LARGEST_RATE → new_rate row ≤ LARGEST_RATE → blended d a row ≤ d * LARGEST_RATE
blended-most d a row le old new =
    let was = mul-le (d - a) (old_rate row) (d - a) LARGEST_RATE (omega arith) old in
    let is = mul-le a (new_rate row) a LARGEST_RATE (omega arith) new in
    omega (arith, was, is)

module _ (p : Problem) (d : ℕ) (net : IsNetwork p) where
  pub rate_after-most : (shares : List ℕ) (t : ℕ) → AreShares p d shares → t < length p.tunnels → rate_after p d shares t ≤ d * LARGEST_RATE
  rate_after-most shares t are lt =
      blended-most d (slice_index shares (tunnel_at p t).flow) (tunnel_at p t) (are.most (tunnel_at p t).flow (net.tunnels t lt).flow)
      (rate_within (tunnel_at p t).old (net.tunnels t lt).old) (rate_within (tunnel_at p t).new (net.tunnels t lt).new)

  pub top-small : (before after : List ℕ) (l : ℕ) → d ≤ LARGEST_SCALE → AreShares p d before → AreShares p d after → top p d before after l < 2 ^ 64
  unfolding top
  top-small before after l small are later =
      let each = sum_below-most (length p.tunnels) (d * LARGEST_RATE) (λ t. if crosses p t l then max (rate_after p d before t) (rate_after p d after t) else 0)
      (λ t lt. if_most (crosses p t l) (max (rate_after p d before t) (rate_after p d after t)) (d * LARGEST_RATE)
      (omega (arith, rate_after-most before t are lt, rate_after-most after t later lt))) in
      omega (arith, each, mul-le (length p.tunnels) (d * LARGEST_RATE) MOST_TUNNELS (LARGEST_SCALE * LARGEST_RATE) net.few (mul-le d LARGEST_RATE LARGEST_SCALE LARGEST_RATE small (omega arith)))

-- ---- the tops before any flow has moved
pub tops-from : (p : Problem) (d : ℕ) (shares sums : List ℕ) (n : ℕ) → n ≡ length p.tunnels → AreSums sums (length p.links) n (rate_share p (rate_after p d shares)) → sums ≡ tops p d shares shares
unfolding top
tops-from p d shares sums n all so =
    list_below-from sums (length p.links) (top p d shares shares) so.count (λ l lt.
    so.each l lt
    ∙ ap (λ m. sum_below m (λ t. rate_share p (rate_after p d shares) t l)) all
    ∙ sum_below-same (length p.tunnels) (λ t. rate_share p (rate_after p d shares) t l) (λ t. if crosses p t l then max (rate_after p d shares t) (rate_after p d shares t) else 0)
    (λ t low. same (crosses p t l) (rate_after p d shares t)))
  where
    same : (b : Bool) (x : ℕ) → (if b then x else 0) ≡ (if b then max x x else 0)
    same true x = omega arith
    same false x = refl

-- ---- one flow
module _ (p : Problem) (d : ℕ) (before after : List ℕ) (f : ℕ) (are : AreShares p d after) (lt : f < length p.flows) where
  far-most : far p d before after f ≤ d - slice_index after f
  far-most = reach-most p d (tops p d before after) (gains_of p f) (d - slice_index after f)

  pub part-most : slice_index after f + far p d before after f ≤ d
  part-most = omega (arith, far-most, are.most f lt)

  pub moved-are : AreShares p d (moved p d before after f)
  moved-are = record {
    count = length-set after f (slice_index after f + far p d before after f) ∙ are.count;
    most = λ h inside. elim (cases_eq h f) as (λ _. slice_index (moved p d before after f) h ≤ d) [
      | inl same ↦
          let at = ap (slice_index (moved p d before after f)) same ∙ get_or-set_same after f (slice_index after f + far p d before after f) 0 (omega (arith, are.count)) in
          omega (arith, at, part-most)
      | inr other ↦
          let at = get_or-set_other after f h (slice_index after f + far p d before after f) 0 other in
          omega (arith, at, are.most h inside)
    ];
  }

  -- no share falls
  pub moved-grows : (h : ℕ) → slice_index after h ≤ slice_index (moved p d before after f) h
  moved-grows h = elim (cases_eq h f) as (λ _. slice_index after h ≤ slice_index (moved p d before after f) h) [
    | inl same ↦
        let at = ap (slice_index (moved p d before after f)) same ∙ get_or-set_same after f (slice_index after f + far p d before after f) 0 (omega (arith, are.count)) in
        omega (arith, at, ap (slice_index after) same)
    | inr other ↦
        let at = get_or-set_other after f h (slice_index after f + far p d before after f) 0 other in
        omega (arith, at)
  ]

  -- the tops after it
  pub tops-moved : (sums later : List ℕ) (most : ℕ) → IsNetwork p → slice_index before f ≤ slice_index after f → sums ≡ tops p d before after → GrownBy sums later (gained (gains_of p f) (far p d before after f)) most → later ≡ tops p d before (moved p d before after f)
  tops-moved sums later most net grows is by =
      let count : length sums ≡ length p.links = ap length is ∙ list_below-length (length p.links) (top p d before after) in
      list_below-from later (length p.links) (top p d before (moved p d before after f)) (by.count ∙ count)
      (λ l low.
      by.each l (omega (arith, count))
      ∙ ap₂ (λ x y. x + y) (ap (λ xs. slice_index xs l) is ∙ list_below-at (length p.links) (top p d before after) l 0 low) (gained-gains_of (far p d before after f) l p f low)
      ∙ sym (top-later p d before after f (far p d before after f) net lt are.count grows part-most l))

-- ---- the first flows of an order
module _ (p : Problem) (d : ℕ) (order before : List ℕ) (are : AreShares p d before) (known : (i : ℕ) → i < length order → slice_index order i < length p.flows) where
  pub tried-are : (n : ℕ) → n ≤ length order → AreShares p d (tried p d order before n)
  unfolding tried
  tried-are zero le = are
  tried-are (suc n) le = moved-are p d before (tried p d order before n) (slice_index order n) (tried-are n (omega arith)) (known n (omega arith))

  pub tried-grows : (n : ℕ) → n ≤ length order → (h : ℕ) → slice_index before h ≤ slice_index (tried p d order before n) h
  unfolding tried
  tried-grows zero le h = omega arith
  tried-grows (suc n) le h =
      omega (arith, tried-grows n (omega arith) h, moved-grows p d before (tried p d order before n) (slice_index order n) (tried-are n (omega arith)) (known n (omega arith)) h)

pub tried-more : (p : Problem) (d : ℕ) (order before : List ℕ) (n : ℕ) → tried p d order before (n + 1) ≡ moved p d before (tried p d order before n) (slice_index order n)
unfolding tried
tried-more p d order before n = rw add-one refl

-- what is so once the first n flows were tried
pub record AreTried (p : Problem) (d : ℕ) (order before : List ℕ) (n : ℕ) (sums shares : List ℕ) : Type 0 where
  pub shares_are : shares ≡ tried p d order before n
  pub sums_are : sums ≡ tops p d before (tried p d order before n)

pub none-tried : (p : Problem) (d : ℕ) (order before sums : List ℕ) → sums ≡ tops p d before before → AreTried p d order before 0 sums before
unfolding tried
none-tried p d order before sums is = record { shares_are = refl; sums_are = is }

pub all-tried : (p : Problem) (d : ℕ) (order before : List ℕ) (n : ℕ) (sums shares : List ℕ) → n ≡ length order → AreTried p d order before n sums shares → shares ≡ step p d order before
unfolding step
all-tried p d order before n sums shares all so = so.shares_are ∙ ap (tried p d order before) all

module _ (p : Problem) (d : ℕ) (order before : List ℕ) (n : ℕ) (sums shares : List ℕ) (net : IsNetwork p) (small : d ≤ LARGEST_SCALE) (known : (i : ℕ) → i < length order → slice_index order i < length p.flows) (are : AreShares p d before) (lt : n < length order) (so : AreTried p d order before n sums shares) where
  abbrev flow : ℕ
  flow = slice_index order n

  abbrev here : List ℕ
  here = tried p d order before n

  here-are : AreShares p d here
  here-are = tried-are p d order before are known n (omega arith)

  pub shares-are : AreShares p d shares
  shares-are = subst (λ xs. AreShares p d xs) (sym so.shares_are) here-are

  pub share-most : slice_index shares flow ≤ d
  share-most = shares-are.most flow (known n lt)

  pub sums-count : length sums ≡ length p.links
  sums-count = ap length so.sums_are ∙ list_below-length (length p.links) (top p d before here)

  pub sums-small : (k : ℕ) → k < length sums → slice_index sums k < 2 ^ 64
  sums-small k low =
      let inside : k < length p.links = omega (arith, sums-count) in
      let at = ap (λ xs. slice_index xs k) so.sums_are ∙ list_below-at (length p.links) (top p d before here) k 0 inside in
      omega (arith, at, top-small p d net before here k small are here-are)

  pub next-tried : (gains : List Gain) (later next : List ℕ) (most : ℕ) → gains ≡ gains_of p flow → next ≡ slice_set shares flow (slice_index shares flow + reach p d sums gains (d - slice_index shares flow)) → GrownBy sums later (gained gains (reach p d sums gains (d - slice_index shares flow))) most → AreTried p d order before (n + 1) later next
  next-tried gains later next most is set by =
      let far_is : reach p d sums gains (d - slice_index shares flow) ≡ far p d before here flow =
      ap (λ s. reach p d s gains (d - slice_index shares flow)) so.sums_are
      ∙ ap (λ g. reach p d (tops p d before here) g (d - slice_index shares flow)) is
      ∙ ap (λ xs. reach p d (tops p d before here) (gains_of p flow) (d - slice_index xs flow)) so.shares_are in
      let grown : GrownBy sums later (gained (gains_of p flow) (far p d before here flow)) most =
      subst (λ g. GrownBy sums later (gained g (far p d before here flow)) most) is (subst (λ k. GrownBy sums later (gained gains k) most) far_is by) in
      record {
        shares_are = set ∙ ap₂ (λ xs k. slice_set xs flow (slice_index xs flow + k)) so.shares_are far_is ∙ sym (tried-more p d order before n);
        sums_are =
            tops-moved p d before here flow here-are (known n lt) sums later most net (tried-grows p d order before are known n (omega arith) flow) so.sums_are grown
            ∙ ap (tops p d before) (sym (tried-more p d order before n));
      }

-- the shares once all were tried
pub step-are : (p : Problem) (d : ℕ) (order before : List ℕ) → AreShares p d before → ((i : ℕ) → i < length order → slice_index order i < length p.flows) → AreShares p d (step p d order before)
unfolding step
step-are p d order before are known = tried-are p d order before are known (length order) (omega arith)
