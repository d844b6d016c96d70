-- The sums of tables and their peaks, entry by entry.
use Rattle.std.proofs.Common.{◌≡◌, ℕ, ◌+◌, ◌<◌, Bool, true, false, ◌&&◌, ◌||◌, ◌==◌, if◌then◌else◌, max, List, length, get_or, set, inl, inr, refl, sym, ap, ap₂, ◌∙◌, subst, arith, eqb-true, get_or-set_same, get_or-set_other}
use Rattle.std.proofs.lemmas.Bool.{cases_Bool, cases_lt}
use Rattle.std.proofs.Math.ListN.{length-set}
use Rattle.lists.proofs.Conditions.{unequal_clash}
use Rattle.rollout_rules.specs.Wan.{Problem, Plan, hops, switch_of, width_of, mark_at}
use Rattle.rollout_rules.specs.Items.{item_count, number_of}
use Rattle.rollout_rules.specs.History.{History, settled, begun}
use Rattle.rollout_rules.specs.Network.{IsNetwork}
use Rattle.rollout_rules.specs.Operations.{stand_after}
use Rattle.rollout_rules.specs.declared.item.Item.TheVariants as item
use Rattle.rollout_rules.specs.declared.op.Entry.{Entry}
use Rattle.rollout_rules.proofs.Below.{sum_below-same}
use Rattle.rollout_rules.proofs.Numbers.{number_of-below}
use Rattle.rollout_rules.proofs.OverItems.{is_item-entry}
use Rattle.rollout_report.specs.Peaks.{either_there, table_sum, front}
use Rattle.rollout_report.specs.Counts.{item_of}
use Rattle.rollout_report.specs.Course.{next_stand}
use Rattle.rollout_report.specs.Fills.{TableFills, either_at, marked, AreTallies, AreHeld, AreTablePeaks, AreFillsAt}
use Rattle.rollout_report.proofs.Counting.{settled-more, begun-more}
use Rattle.rollout_report.proofs.Loading.{settled-other, begun-other, next_peak, peak-holds}
use Rattle.rollout_report.proofs.Marking.{same_entry}

-- whether an entry is there in either, by its counts
either_by : Problem → Plan → ℕ → ℕ → ℕ → ℕ → Bool
either_by p plan t n s b = either_at plan (stand_after p plan (item.Entry t n) s) (next_stand p plan (item.Entry t n) s b) t

pub tally-is : (p : Problem) (plan : Plan) (g : History) (marks : List Bool) (sums : List ℕ) → AreHeld p plan g marks sums → (w : ℕ) → w < length p.switches → get_or sums w 0 ≡ table_sum p plan g w
tally-is p plan g marks sums held w lt =
    held.tallies.each w lt
    ∙ sum_below-same (length p.tunnels) _ _ (λ t low. sum_below-same (hops p t) _ _ (λ n small. ap (λ x. if (switch_of p t n == w) && x then width_of p t else 0) (held.each_mark t n low small)))

pub first_table_peaks : (p : Problem) (plan : Plan) (h : History) (marks : List Bool) (sums : List ℕ) → AreHeld p plan (front h 0) marks sums → AreTablePeaks p plan h 0 sums
first_table_peaks p plan h marks sums held = record { switches = held.tallies.switches; each = λ w lt. omega (arith, tally-is p plan (front h 0) marks sums held w lt) }

module _ (p : Problem) (plan : Plan) (h : History) (k : ℕ) (e : Entry) (lt : k < length h.entries) (at : get_or h.entries k e ≡ e) where
  -- an entry of another item
  mark-stays : (t n : ℕ) → (item_of e ≡ number_of p (item.Entry t n) → ⊥) → either_there p plan (front h (k + 1)) t n ≡ either_there p plan (front h k) t n
  unfolding either_by
  mark-stays t n other =
      let i = number_of p (item.Entry t n) in
      let s : settled (front h (k + 1)) i ≡ settled (front h k) i = settled-more h k i e lt at ∙ omega (arith, settled-other e i other) in
      let b : begun (front h (k + 1)) i ≡ begun (front h k) i = begun-more h k i e lt at ∙ omega (arith, begun-other e i other) in
      ap₂ (λ x y. either_by p plan t n x y) s b

  -- an entry of the history that is of no entry of a table
  pub tables-kept : (fills : TableFills) → ((t n : ℕ) → t < length p.tunnels → n < hops p t → item_of e ≡ number_of p (item.Entry t n) → ⊥) → AreFillsAt p plan h k fills → AreFillsAt p plan h (k + 1) fills
  tables-kept fills apart was =
      let after : AreHeld p plan (front h (k + 1)) fills.marks fills.sums = record {
        tallies = was.held.tallies;
        each_mark = λ t n low small. was.held.each_mark t n low small ∙ sym (mark-stays t n (apart t n low small));
      } in
      record {
        held = after;
        peaks = record {
          switches = was.peaks.switches;
          each = λ w low.
              next_peak k (get_or fills.peaks w 0) (get_or fills.peaks w 0) (get_or fills.sums w 0) (λ i. table_sum p plan (front h i) w) (was.peaks.each w low) (tally-is p plan (front h (k + 1)) fills.marks fills.sums after w low)
              (omega (arith, peak-holds k (get_or fills.peaks w 0) (λ i. table_sum p plan (front h i) w) (was.peaks.each w low), tally-is p plan (front h k) fills.marks fills.sums was.held w low));
        };
      }

  -- one of a table's entry
  module _ (net : IsNetwork p) (t n here next : ℕ) (row : t < length p.tunnels) (hop : n < hops p t) (number : item_of e ≡ number_of p (item.Entry t n))
      (stands : here ≡ stand_after p plan (item.Entry t n) (settled (front h (k + 1)) (item_of e)))
      (goes : next ≡ next_stand p plan (item.Entry t n) (settled (front h (k + 1)) (item_of e)) (begun (front h (k + 1)) (item_of e)))
      (before after : TableFills) (was : AreFillsAt p plan h k before) (tallies : AreTallies p after.marks after.sums)
      (marks : after.marks ≡ set before.marks (item_of e) (either_at plan here next t)) where
    held-taken : AreHeld p plan (front h (k + 1)) after.marks after.sums
    held-taken = record {
      tallies = tallies;
      each_mark = λ u m low small. elim (cases_Bool (number_of p (item.Entry u m) == item_of e)) as (λ c. marked p after.marks u m ≡ either_there p plan (front h (k + 1)) u m) [
        | inl q ↦
            let own : number_of p (item.Entry u m) ≡ item_of e = eqb-true (number_of p (item.Entry u m)) (item_of e) q in
            let same : item.Entry u m ≡ item.Entry t n = same_entry p u m t n low small row hop (own ∙ number) in
            let tunnel : u ≡ t = cc in
            ap₂ (λ l i. get_or l i false) marks own
            ∙ get_or-set_same before.marks (item_of e) (either_at plan here next t) false (omega (arith, was.held.tallies.items, number, number_of-below p (item.Entry t n) (is_item-entry p t n row hop)))
            ∙ ap₂ (λ x y. either_at plan x y t) stands goes
            ∙ ap₂ (λ i j. either_at plan (stand_after p plan i (settled (front h (k + 1)) j)) (next_stand p plan i (settled (front h (k + 1)) j) (begun (front h (k + 1)) j)) t) (sym same) (sym own)
            ∙ ap (λ v. either_at plan (stand_after p plan (item.Entry u m) (settled (front h (k + 1)) (number_of p (item.Entry u m)))) (next_stand p plan (item.Entry u m) (settled (front h (k + 1)) (number_of p (item.Entry u m))) (begun (front h (k + 1)) (number_of p (item.Entry u m)))) v) (sym tunnel)
        | inr q ↦
            let other : number_of p (item.Entry u m) ≡ item_of e → ⊥ = λ i. unequal_clash (number_of p (item.Entry u m)) (item_of e) i q in
            ap (λ l. marked p l u m) marks
            ∙ get_or-set_other before.marks (item_of e) (number_of p (item.Entry u m)) (either_at plan here next t) false other
            ∙ was.held.each_mark u m low small ∙ sym (mark-stays u m (λ i. other (sym i)))
      ];
    }

    module _ (sums : (w : ℕ) → (switch_of p t n ≡ w → ⊥) → get_or after.sums w 0 ≡ get_or before.sums w 0)
        (raised : after.peaks ≡ set before.peaks (switch_of p t n) (max (get_or before.peaks (switch_of p t n) 0) (get_or after.sums (switch_of p t n) 0))) where
      peak-is : (w : ℕ) → w < length p.switches → get_or after.peaks w 0 ≡ max (get_or before.peaks w 0) (get_or after.sums w 0)
      peak-is w low = elim (cases_Bool (switch_of p t n == w)) as (λ c. get_or after.peaks w 0 ≡ max (get_or before.peaks w 0) (get_or after.sums w 0)) [
        | inl q ↦
            let here : switch_of p t n ≡ w = eqb-true (switch_of p t n) w q in
            subst (λ x. get_or after.peaks x 0 ≡ max (get_or before.peaks x 0) (get_or after.sums x 0)) here
            (ap (λ l. get_or l (switch_of p t n) 0) raised ∙ get_or-set_same before.peaks (switch_of p t n) _ 0 (omega (arith, was.peaks.switches, (net.tunnels t row).path.switches n hop)))
        | inr q ↦
            let apart : switch_of p t n ≡ w → ⊥ = λ i. unequal_clash (switch_of p t n) w i q in
            let kept : get_or after.peaks w 0 ≡ get_or before.peaks w 0 = ap (λ l. get_or l w 0) raised ∙ get_or-set_other before.peaks (switch_of p t n) w _ 0 (λ i. apart (sym i)) in
            let held = peak-holds k (get_or before.peaks w 0) (λ i. table_sum p plan (front h i) w) (was.peaks.each w low) in
            omega (arith, kept, sums w apart, held, tally-is p plan (front h k) before.marks before.sums was.held w low)
      ]

      pub tables-taken : AreFillsAt p plan h (k + 1) after
      tables-taken = record {
        held = held-taken;
        peaks = record {
          switches = ap length raised ∙ length-set before.peaks (switch_of p t n) _ ∙ was.peaks.switches;
          each = λ w low. next_peak k (get_or after.peaks w 0) (get_or before.peaks w 0) (get_or after.sums w 0) (λ i. table_sum p plan (front h i) w) (was.peaks.each w low) (tally-is p plan (front h (k + 1)) after.marks after.sums held-taken w low) (peak-is w low);
        };
      }

-- at the start nothing is in flight
pub there-first : (p : Problem) (plan : Plan) (h : History) (t n : ℕ) → either_there p plan (front h 0) t n ≡ mark_at plan (stand_after p plan (item.Entry t n) (settled (front h 0) (number_of p (item.Entry t n)))) t
there-first p plan h t n =
    let i = number_of p (item.Entry t n) in
    let s = settled (front h 0) i in
    let flag : (begun (front h 0) i == s + 1) ≡ false = differ (begun (front h 0) i) s (omega arith) in
    ap (λ b. mark_at plan (stand_after p plan (item.Entry t n) s) t || mark_at plan (stand_after p plan (item.Entry t n) (if b then s + 1 else s)) t) flag
    ∙ or-same (mark_at plan (stand_after p plan (item.Entry t n) s) t)
  where
    differ : (x y : ℕ) → x ≡ y → (x == y + 1) ≡ false
    differ x y e = grind arith

    or-same : (b : Bool) → (b || b) ≡ b
    or-same true = refl
    or-same false = refl

-- the first marks, one item after another
module _ (p : Problem) (plan : Plan) (h : History) (number : ℕ) (marks : List Bool) (before : (t n : ℕ) → t < length p.tunnels → n < hops p t → number_of p (item.Entry t n) < number → marked p marks t n ≡ either_there p plan (front h 0) t n) where
  pub none-marked : ((t n : ℕ) → t < length p.tunnels → n < hops p t → number ≡ number_of p (item.Entry t n) → ⊥)
      → (t n : ℕ) → t < length p.tunnels → n < hops p t → number_of p (item.Entry t n) < number + 1 → marked p marks t n ≡ either_there p plan (front h 0) t n
  none-marked apart t n row hop lt = elim (cases_lt (number_of p (item.Entry t n)) number) as (λ c. marked p marks t n ≡ either_there p plan (front h 0) t n) [
    | inl below ↦ before t n row hop below
    | inr above ↦ absurd (apart t n row hop (omega arith))
  ]

  pub one-marked : (u m : ℕ) (mark : Bool) (after : List Bool) → u < length p.tunnels → m < hops p u → number ≡ number_of p (item.Entry u m) → length marks ≡ item_count p → after ≡ set marks number mark → mark ≡ either_there p plan (front h 0) u m
      → (t n : ℕ) → t < length p.tunnels → n < hops p t → number_of p (item.Entry t n) < number + 1 → marked p after t n ≡ either_there p plan (front h 0) t n
  one-marked u m mark after low small own all e is t n row hop lt = elim (cases_lt (number_of p (item.Entry t n)) number) as (λ c. marked p after t n ≡ either_there p plan (front h 0) t n) [
    | inl below ↦ ap (λ l. marked p l t n) e ∙ get_or-set_other marks number (number_of p (item.Entry t n)) mark false (λ q. omega arith) ∙ before t n row hop below
    | inr above ↦
        let here : number_of p (item.Entry t n) ≡ number = omega arith in
        let same : item.Entry u m ≡ item.Entry t n = same_entry p u m t n low small row hop (sym own ∙ sym here) in
        let tunnel : u ≡ t = cc in
        let place : m ≡ n = cc in
        ap₂ (λ l i. get_or l i false) e here
        ∙ get_or-set_same marks number mark false (omega (arith, all, own, number_of-below p (item.Entry u m) (is_item-entry p u m low small)))
        ∙ is ∙ ap₂ (λ x y. either_there p plan (front h 0) x y) tunnel place
  ]
