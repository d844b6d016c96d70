-- The sums of links and their peaks, entry by entry.
use Rattle.std.proofs.Common.{◌≡◌, ℕ, suc, ◌+◌, ◌-◌, ◌<◌, ◌≤◌, Bool, true, false, not, ◌==◌, if◌then◌else◌, max, List, [], ◌∷◌, length, get_or, inl, inr, refl, sym, ap, ap₂, ◌∙◌, subst, arith, eqb-true}
use Rattle.std.proofs.lemmas.Bool.{cases_Bool}
use Rattle.lists.proofs.Conditions.{unequal_clash}
use Rattle.rollout_rules.specs.Sums.{all_below}
use Rattle.rollout_rules.specs.Wan.{Problem, Plan, flow_at, tunnel_at, tunnel_of, crosses}
use Rattle.rollout_rules.specs.Items.{load}
use Rattle.rollout_rules.specs.History.{History, begins_in, dones_in, settled, begun}
use Rattle.rollout_rules.specs.Network.{IsNetwork}
use Rattle.rollout_rules.specs.Operations.{stand_after}
use Rattle.rollout_rules.specs.Release.{most_below}
use Rattle.rollout_rules.specs.declared.item.Item.TheVariants as item
use Rattle.rollout_rules.specs.declared.op.Entry.{Entry}
use Rattle.rollout_rules.specs.declared.op.Entry.TheVariants.{Begin, Done}
use Rattle.rollout_rules.proofs.Below.{sum_below-same, all_below-at, all_below-fails}
use Rattle.rollout_report.specs.Peaks.{larger_rate, link_sum, front}
use Rattle.rollout_report.specs.Counts.{item_of}
use Rattle.rollout_report.specs.Course.{next_stand}
use Rattle.rollout_report.specs.Loads.{LinkLoads, larger_at, AreSums, AreLoads, AreLinkPeaks, AreLoadsAt, AreRefreshed, AreRaised}
use Rattle.rollout_report.proofs.Counting.{settled-more, begun-more}
use Rattle.rollout_report.proofs.Adding.{found}

none_if : (m n : ℕ) → (m ≡ n → ⊥) → (if m == n then 1 else 0) + 0 ≡ 0
none_if m n other = elim (cases_Bool (m == n)) as (λ c. (if m == n then 1 else 0) + 0 ≡ 0) [
  | inl same ↦ absurd (other (eqb-true m n same))
  | inr apart ↦ rw apart (omega arith)
]

pub settled-other : (e : Entry) (n : ℕ) → (item_of e ≡ n → ⊥) → dones_in (e ∷ []) n ≡ 0
settled-other (Begin op) n other = refl
settled-other (Done op) n other = none_if op.item n other

pub begun-other : (e : Entry) (n : ℕ) → (item_of e ≡ n → ⊥) → begins_in (e ∷ []) n ≡ 0
begun-other (Begin op) n other = none_if op.item n other
begun-other (Done op) n other = refl

-- the larger rate of a tunnel by its flow's counts
larger_by : Problem → Plan → ℕ → ℕ → ℕ → ℕ
larger_by p plan t s b = larger_at plan (stand_after p plan (item.Flow (tunnel_at p t).flow) s) (next_stand p plan (item.Flow (tunnel_at p t).flow) s b) t

load-same : (p : Problem) (rates : List ℕ) (f : ℕ → ℕ) → ((t : ℕ) → t < length p.tunnels → get_or rates t 0 ≡ f t) → (l : ℕ) → load p (λ t. get_or rates t 0) l ≡ load p f l
load-same p rates f same l = sum_below-same (length p.tunnels) _ _ (λ t lt. ap (λ x. if crosses p t l then x else 0) (same t lt))

pub sum-is : (p : Problem) (plan : Plan) (g : History) (rates sums : List ℕ) → AreLoads p plan g rates sums → (l : ℕ) → l < length p.links → get_or sums l 0 ≡ link_sum p plan g l
sum-is p plan g rates sums loads l lt = loads.are_sums.each l lt ∙ load-same p rates (larger_rate p plan g) loads.each_rate l

pub first_peaks : (p : Problem) (plan : Plan) (h : History) (rates sums : List ℕ) → AreLoads p plan (front h 0) rates sums → AreLinkPeaks p plan h 0 sums
first_peaks p plan h rates sums loads = record { links = loads.are_sums.links; each = λ l lt. omega (arith, sum-is p plan (front h 0) rates sums loads l lt) }

-- the peak of one entry more
pub next_peak : (k peak was new : ℕ) (f : ℕ → ℕ) → was ≡ most_below (k + 1) f → new ≡ f (k + 1) → peak ≡ max was new → peak ≡ most_below (k + 1 + 1) f
next_peak k peak was new f e is raised =
    let more : k + 1 + 1 ≡ suc (k + 1) = omega arith in
    subst (λ j. peak ≡ most_below j f) (sym more) (raised ∙ ap₂ max e is)

-- the peak so far is at least the sum now
pub peak-holds : (k was : ℕ) (f : ℕ → ℕ) → was ≡ most_below (k + 1) f → f k ≤ was
peak-holds k was f e =
    let more : k + 1 ≡ suc k = omega arith in
    let here : was ≡ most_below (suc k) f = subst (λ j. was ≡ most_below j f) more e in
    omega (arith, here)

module _ (p : Problem) (plan : Plan) (net : IsNetwork p) (h : History) (k : ℕ) (e : Entry) (lt : k < length h.entries) (at : get_or h.entries k e ≡ e) where
  -- an entry of another item
  rate-stays : (t : ℕ) → (item_of e ≡ (tunnel_at p t).flow → ⊥) → larger_rate p plan (front h (k + 1)) t ≡ larger_rate p plan (front h k) t
  unfolding larger_by
  rate-stays t other =
      let s : settled (front h (k + 1)) (tunnel_at p t).flow ≡ settled (front h k) (tunnel_at p t).flow = settled-more h k (tunnel_at p t).flow e lt at ∙ omega (arith, settled-other e (tunnel_at p t).flow other) in
      let b : begun (front h (k + 1)) (tunnel_at p t).flow ≡ begun (front h k) (tunnel_at p t).flow = begun-more h k (tunnel_at p t).flow e lt at ∙ omega (arith, begun-other e (tunnel_at p t).flow other) in
      ap₂ (λ x y. larger_by p plan t x y) s b

  loads-kept : (rates sums : List ℕ) → length p.flows ≤ item_of e → AreLoads p plan (front h k) rates sums → AreLoads p plan (front h (k + 1)) rates sums
  loads-kept rates sums past loads = record {
    are_sums = loads.are_sums;
    each_rate = λ t low. loads.each_rate t low ∙ sym (rate-stays t (λ q. omega (arith, q, (net.tunnels t low).flow, past)));
  }

  -- an entry that is no flow's
  pub links-kept : (loads : LinkLoads) → length p.flows ≤ item_of e → AreLoadsAt p plan h k loads → AreLoadsAt p plan h (k + 1) loads
  links-kept loads past was =
      let after = loads-kept loads.rates loads.sums past was.loads in
      record {
        loads = after;
        peaks = record {
          links = was.peaks.links;
          each = λ l low.
              next_peak k (get_or loads.peaks l 0) (get_or loads.peaks l 0) (get_or loads.sums l 0) (λ i. link_sum p plan (front h i) l) (was.peaks.each l low) (sum-is p plan (front h (k + 1)) loads.rates loads.sums after l low)
              (omega (arith, peak-holds k (get_or loads.peaks l 0) (λ i. link_sum p plan (front h i) l) (was.peaks.each l low), sum-is p plan (front h k) loads.rates loads.sums was.loads l low));
        };
      }

  -- an entry of a flow
  module _ (here next : ℕ) (before after : LinkLoads) (was : AreLoadsAt p plan h k before) (small : item_of e < length p.flows)
      (stands : here ≡ stand_after p plan (item.Flow (item_of e)) (settled (front h (k + 1)) (item_of e)))
      (goes : next ≡ next_stand p plan (item.Flow (item_of e)) (settled (front h (k + 1)) (item_of e)) (begun (front h (k + 1)) (item_of e)))
      (sums : AreSums p after.rates after.sums) (fresh : AreRefreshed p plan (item_of e) here next before.rates after.rates) where
    loads-taken : AreLoads p plan (front h (k + 1)) after.rates after.sums
    loads-taken = record {
      are_sums = sums;
      each_rate = λ t low. elim (cases_Bool (item_of e == (tunnel_at p t).flow)) as (λ c. get_or after.rates t 0 ≡ larger_rate p plan (front h (k + 1)) t) [
        | inl q ↦
            let own : item_of e ≡ (tunnel_at p t).flow = eqb-true (item_of e) (tunnel_at p t).flow q in
            fresh.own t low (sym own)
            ∙ ap₂ (λ x y. larger_at plan x y t) stands goes
            ∙ ap (λ f. larger_at plan (stand_after p plan (item.Flow f) (settled (front h (k + 1)) f)) (next_stand p plan (item.Flow f) (settled (front h (k + 1)) f) (begun (front h (k + 1)) f)) t) own
        | inr q ↦
            let other : item_of e ≡ (tunnel_at p t).flow → ⊥ = λ i. unequal_clash (item_of e) (tunnel_at p t).flow i q in
            fresh.others t low (λ i. other (sym i)) ∙ was.loads.each_rate t low ∙ sym (rate-stays t other)
      ];
    }

    -- where none of its tunnels crosses a link the link's sum is as before
    sum-stays : (l : ℕ) → l < length p.links → ((t : ℕ) → t < length p.tunnels → (tunnel_at p t).flow ≡ item_of e → crosses p t l ≡ false) → get_or after.sums l 0 ≡ get_or before.sums l 0
    sum-stays l low none =
        sums.each l low
        ∙ sum_below-same (length p.tunnels) _ _ (λ t inside. elim (cases_Bool ((tunnel_at p t).flow == item_of e)) as (λ c. (if crosses p t l then get_or after.rates t 0 else 0) ≡ (if crosses p t l then get_or before.rates t 0 else 0)) [
          | inl q ↦ same_if (crosses p t l) (get_or after.rates t 0) (get_or before.rates t 0) (none t inside (eqb-true (tunnel_at p t).flow (item_of e) q))
          | inr q ↦ ap (λ x. if crosses p t l then x else 0) (fresh.others t inside (λ i. unequal_clash (tunnel_at p t).flow (item_of e) i q))
        ])
        ∙ sym (was.loads.are_sums.each l low)
      where
        same_if : (b : Bool) (x y : ℕ) → b ≡ false → (if b then x else 0) ≡ (if b then y else 0)
        same_if true x y q = cc
        same_if false x y q = refl

    module _ (raised : AreRaised p (item_of e) (flow_at p (item_of e)).tunnels after.sums before.peaks after.peaks) where
      peak-is : (l : ℕ) → l < length p.links → get_or after.peaks l 0 ≡ max (get_or before.peaks l 0) (get_or after.sums l 0)
      peak-is l low = elim (cases_Bool (all_below (flow_at p (item_of e)).tunnels (λ j. not (crosses p (tunnel_of p (item_of e) j) l)))) as (λ c. get_or after.peaks l 0 ≡ max (get_or before.peaks l 0) (get_or after.sums l 0)) [
        | inl none ↦
            let same = sum-stays l low (λ t inside of_f. apart t inside of_f none) in
            let held = peak-holds k (get_or before.peaks l 0) (λ i. link_sum p plan (front h i) l) (was.peaks.each l low) in
            omega (arith, raised.least l, raised.most l, same, held, sum-is p plan (front h k) before.rates before.sums was.loads l low)
        | inr some ↦
            let there = all_below-fails (flow_at p (item_of e)).tunnels (λ j. not (crosses p (tunnel_of p (item_of e) j) l)) some in
            let place = found l (tunnel_at p (tunnel_of p (item_of e) there.0)).links (was_not (crosses p (tunnel_of p (item_of e) there.0) l) there.2) in
            let top : get_or after.sums l 0 ≤ get_or after.peaks l 0 = subst (λ x. get_or after.sums x 0 ≤ get_or after.peaks x 0) place.2 (raised.crossed there.0 place.0 there.1 place.1) in
            omega (arith, raised.least l, raised.most l, top)
      ]
        where
          was_not : (b : Bool) → not b ≡ false → b ≡ true
          was_not true q = refl
          was_not false q = cc

          is_not : (b : Bool) → not b ≡ true → b ≡ false
          is_not true q = cc
          is_not false q = refl

          apart : (t : ℕ) → t < length p.tunnels → (tunnel_at p t).flow ≡ item_of e → all_below (flow_at p (item_of e)).tunnels (λ j. not (crosses p (tunnel_of p (item_of e) j) l)) ≡ true → crosses p t l ≡ false
          apart t inside of_f none =
              let row = net.tunnels t inside in
              let first : (flow_at p (item_of e)).first ≤ t = subst (λ g. (flow_at p g).first ≤ t) of_f row.behind in
              let last : t < (flow_at p (item_of e)).first + (flow_at p (item_of e)).tunnels = subst (λ g. t < (flow_at p g).first + (flow_at p g).tunnels) of_f row.ahead in
              let place : tunnel_of p (item_of e) (t - (flow_at p (item_of e)).first) ≡ t = omega arith in
              is_not (crosses p t l)
              (subst (λ u. not (crosses p u l) ≡ true) place (all_below-at (flow_at p (item_of e)).tunnels (λ j. not (crosses p (tunnel_of p (item_of e) j) l)) none (t - (flow_at p (item_of e)).first) (omega arith)))

      pub links-taken : AreLoadsAt p plan h (k + 1) after
      links-taken = record {
        loads = loads-taken;
        peaks = record {
          links = raised.links ∙ was.peaks.links;
          each = λ l low. next_peak k (get_or after.peaks l 0) (get_or before.peaks l 0) (get_or after.sums l 0) (λ i. link_sum p plan (front h i) l) (was.peaks.each l low) (sum-is p plan (front h (k + 1)) after.rates after.sums loads-taken l low) (peak-is l low);
        };
      }
