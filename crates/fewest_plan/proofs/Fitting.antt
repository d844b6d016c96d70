-- That a rate step of the rule passes SWAN's test, and that a flow which does not arrive is stopped by a link.
use Rattle.std.proofs.Common.{◌≡◌, ℕ, zero, suc, ◌+◌, ◌-◌, ◌*◌, ◌<◌, ◌≤◌, max, Bool, true, false, List, [], ◌∷◌, ◌++◌, length, slice_index, if◌then◌else◌, refl, sym, ap, ◌∙◌, inl, inr, subst, arith, lt-ltb}
use Rattle.std.specs.Prelude.{All, nat_lt, ◌/◌}
use Rattle.std.proofs.lemmas.Bool.{cases_Bool, cases_lt}
use Rattle.std.proofs.lemmas.List.Elements.{All-append}
use Rattle.std.proofs.lemmas.List.{length-append, get_or_append_left, get_or_push, get_or-set_same}
use Rattle.rollout_rules.specs.Wan.{Problem, link_at, crosses}
use Rattle.rollout_rules.specs.Network.{IsNetwork}
use Rattle.rollout_rules.proofs.Below.{sum_below-mono, least_below-at, least_below-is}
use Rattle.rollout_rules.proofs.Rows.{list_below-at}
use Rattle.fewest_plan.specs.declared.gain.Gain.{Gain}
use Rattle.fewest_plan.specs.Growth.{growth, gain_on, gains_in, gains_of, gain_at, no_gain}
use Rattle.fewest_plan.specs.Greedy.{rate_after, top, tops, lets, far, moved, tried, step, AreShares}
use Rattle.fewest_plan.specs.Fits.{Fits, IsFull}
use Rattle.fewest_plan.proofs.Gaining.{gains_of-are}
use Rattle.fewest_plan.proofs.Moving.{top-later}
use Rattle.fewest_plan.proofs.Trying.{within, part-most, tried-are, tried-grows}

-- ---- the links on which a flow grows are all there, each with its growth
abbrev on : ℕ → ℕ → Gain
on l n = record { link = l; growth = n }

there : (l n : ℕ) → 0 < n → gain_on l n ≡ on l n ∷ []
there l n some = rw (lt-ltb 0 n some) refl

abbrev Found : (ℕ → ℕ) → ℕ → List Gain → Type 0
Found g l gains = (i : ℕ) × (i < length gains) × (gain_at gains i ≡ on l (g l))

found-in : (g : ℕ → ℕ) (n l : ℕ) → l < n → 0 < g l → Found g l (gains_in g n)
found-in g zero l lt some = absurd (omega arith)
found-in g (suc n) l lt some = elim (cases_lt l n) as (λ _. Found g l (gains_in g (suc n))) [
  | inl below ↦
      let at = found-in g n l below some in
      (at.0, omega (arith, at.1, length-append (gains_in g n) (gain_on n (g n))), get_or_append_left (gains_in g n) (gain_on n (g n)) no_gain at.0 at.1 ∙ at.2)
  | inr above ↦
      let same : n ≡ l = omega arith in
      subst (λ m. Found g l (gains_in g n ++ gain_on m (g m))) (sym same)
      (subst (λ gains. Found g l (gains_in g n ++ gains)) (sym (there l (g l) some))
      (length (gains_in g n), omega (arith, length-append (gains_in g n) (on l (g l) ∷ [])), get_or_push (gains_in g n) (on l (g l)) no_gain (length (gains_in g n)) refl))
]

found : (p : Problem) (f l : ℕ) → l < length p.links → 0 < growth p f l → Found (growth p f) l (gains_of p f)
unfolding gains_of
found p f l lt some = found-in (growth p f) (length p.links) l lt some

abbrev IsTold : (ℕ → ℕ) → Gain → Type 0
IsTold g gain = gain.growth ≡ g gain.link

on-told : (g : ℕ → ℕ) (l : ℕ) → All (IsTold g) (gain_on l (g l))
on-told g l = elim (cases_Bool (nat_lt 0 (g l))) as (λ _. All (IsTold g) (gain_on l (g l))) [
  | inl some ↦ rw some one
  | inr none ↦ rw none nothing
]
  where
    nothing : All (IsTold g) []
    nothing k d low = absurd (omega arith)

    one : All (IsTold g) (on l (g l) ∷ [])
    one zero d low = refl
    one (suc k) d low = absurd (omega arith)

in-told : (g : ℕ → ℕ) (n : ℕ) → All (IsTold g) (gains_in g n)
in-told g zero = none
  where
    none : All (IsTold g) []
    none k d low = absurd (omega arith)
in-told g (suc n) = All-append (IsTold g) (gains_in g n) (gain_on n (g n)) (in-told g n) (on-told g n)

told : (p : Problem) (f i : ℕ) → i < length (gains_of p f) → IsTold (growth p f) (gain_at (gains_of p f) i)
unfolding gains_of
told p f i lt = in-told (growth p f) (length p.links) i no_gain lt

-- ---- one flow
stopped : (g room far : ℕ) → 0 < g → far ≡ room / g → room < g * far + g
stopped g room far some e = rw e (omega arith)

module _ (p : Problem) (d : ℕ) (before after : List ℕ) (f : ℕ) (net : IsNetwork p) (are : AreShares p d after) (lt : f < length p.flows) (grows : slice_index before f ≤ slice_index after f) where
  abbrev went : ℕ
  went = far p d before after f

  abbrev sums : List ℕ
  sums = tops p d before after

  abbrev room : ℕ → ℕ
  room l = (link_at p l).capacity * d - slice_index sums l

  abbrev by_gain : ℕ → ℕ
  by_gain i = lets p d sums (gain_at (gains_of p f) i)

  top-is : (l : ℕ) → l < length p.links → slice_index sums l ≡ top p d before after l
  top-is l low = list_below-at (length p.links) (top p d before after) l 0 low

  moved-top : (l : ℕ) → top p d before (moved p d before after f) l ≡ top p d before after l + growth p f l * went
  moved-top l = top-later p d before after f went net lt are.count grows (part-most p d before after f are lt) l

  fits-on : (l : ℕ) → l < length p.links → growth p f l * went ≤ room l
  fits-on l low = elim (cases_lt 0 (growth p f l)) as (λ _. growth p f l * went ≤ room l) [
    | inl some ↦
        let at = found p f l low some in
        let least : went ≤ by_gain at.0 = least_below-at (length (gains_of p f)) (d - slice_index after f) by_gain at.0 at.1 in
        let same : by_gain at.0 ≡ room l / growth p f l = ap (lets p d sums) at.2 in
        within (growth p f l) (room l) (room l) went (subst (λ n. went ≤ n) same least) (omega arith)
    | inr none ↦ let e : growth p f l ≡ 0 = omega arith in rw e (omega arith)
  ]

  pub moved-fits : Fits p d before after → Fits p d before (moved p d before after f)
  moved-fits fits = record { each = λ l low. omega (arith, moved-top l, fits-on l low, top-is l low, fits.each l low) }

  pub goes-far : (slice_index (moved p d before after f) f ≡ d → ⊥) → (l : ℕ) × IsFull p d before (moved p d before after f) f l
  goes-far short = elim (least_below-is (length (gains_of p f)) (d - slice_index after f) by_gain) as (λ _. (l : ℕ) × IsFull p d before (moved p d before after f) f l) [
    | inl all ↦
        let set : slice_index (moved p d before after f) f ≡ slice_index after f + went = get_or-set_same after f (slice_index after f + went) 0 (omega (arith, lt, are.count)) in
        let all_is : went ≡ d - slice_index after f = all in
        absurd (short (omega (arith, set, all_is, are.most f lt)))
    | inr at ↦
        let gain : Gain = gain_at (gains_of p f) at.0 in
        let is = gains_of-are p f at.0 at.1 in
        let same : gain.growth ≡ growth p f gain.link = told p f at.0 at.1 in
        let some : 0 < growth p f gain.link = omega (arith, is.growth, same) in
        let far_is : went ≡ room gain.link / growth p f gain.link = at.2 ∙ ap (λ g. room gain.link / g) same in (
          gain.link,
          record {
            known = is.link;
            grows = some;
            full = omega (arith, moved-top gain.link, stopped (growth p f gain.link) (room gain.link) went some far_is, top-is gain.link is.link);
          },
        )
  ]

-- ---- a rate step
module _ (p : Problem) (d : ℕ) (order before : List ℕ) (net : IsNetwork p) (are : AreShares p d before) (known : (i : ℕ) → i < length order → slice_index order i < length p.flows) where
  tried-fits : (n : ℕ) → n ≤ length order → Fits p d before before → Fits p d before (tried p d order before n)
  unfolding tried
  tried-fits zero le fits = fits
  tried-fits (suc n) le fits =
      moved-fits p d before (tried p d order before n) (slice_index order n) net
      (tried-are p d order before are known n (omega arith)) (known n (omega arith)) (tried-grows p d order before are known n (omega arith) (slice_index order n))
      (tried-fits n (omega arith) fits)

pub step-fits : (p : Problem) (d : ℕ) (order before : List ℕ) → IsNetwork p → AreShares p d before → ((i : ℕ) → i < length order → slice_index order i < length p.flows) → Fits p d before before → Fits p d before (step p d order before)
unfolding step
step-fits p d order before net are known fits = tried-fits p d order before net are known (length order) (omega arith) fits

larger : (b : Bool) (x y : ℕ) → (if b then max y y else 0) ≤ (if b then max x y else 0)
larger true x y = omega arith
larger false x y = omega arith

less : (p : Problem) (d : ℕ) (before after : List ℕ) (l : ℕ) → top p d after after l ≤ top p d before after l
unfolding top
less p d before after l =
    sum_below-mono (length p.tunnels) (λ t. if crosses p t l then max (rate_after p d after t) (rate_after p d after t) else 0) (λ t. if crosses p t l then max (rate_after p d before t) (rate_after p d after t) else 0)
    (λ t low. larger (crosses p t l) (rate_after p d before t) (rate_after p d after t))

pub next-fits : (p : Problem) (d : ℕ) (before after : List ℕ) → Fits p d before after → Fits p d after after
next-fits p d before after fits = record { each = λ l low. omega (arith, less p d before after l, fits.each l low) }
