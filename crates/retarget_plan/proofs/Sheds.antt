-- Where tunnels only give way, one step leads there.
use Rattle.std.proofs.Common.{◌≡◌, ℕ, ◌*◌, ◌<◌, ◌≤◌, ◌⊎◌, min, max, Bool, true, false, ◌&&◌, ◌||◌, ◌==◌, nat_le, if◌then◌else◌, List, length, get_or, Option, Some, None, is_some, option_map, unwrap_or, inl, inr, refl, sym, ap, ap₂, ◌∙◌, subst, arith, eq-eqb, le-leb, ltb-true, le_refl}
use Rattle.std.specs.List.{list_any}
use Rattle.std.proofs.lemmas.Bool.{and_from, or_left, or_right, cases_Bool}
use Rattle.lists.proofs.Conditions.{if_mono}
use Rattle.rollout_rules.specs.Sums.{sum_below, all_below, list_below}
use Rattle.rollout_rules.specs.Wan.{Problem, Plan, Tunnel, tunnel_at, flow_at, tunnel_of, hops, switch_of, width_of, crosses, old_rate, new_rate, stage_at, rate_at, mark_at}
use Rattle.rollout_rules.specs.Network.{IsNetwork, IsRate}
use Rattle.rollout_rules.specs.Items.{Resource, the_link, the_table, is_resource, all_resources, capacity_of, load, entries_at, greater_rate, either_mark}
use Rattle.rollout_rules.specs.Slack.{old_load, was_installed}
use Rattle.rollout_rules.specs.Valid.{is_valid_plan, has_shape, begins_at_old, ends_at_new, fits_each_step, carries_what_flows, keeps_totals, same_mark, step_total, is_carried_at, flow_total, old_total, new_total, keeps_total_at}
use Rattle.rollout_rules.proofs.Below.{sum_below-same, sum_below-mono, all_below-from}
use Rattle.rollout_rules.proofs.OverItems.{all_resources-from}
use Rattle.rollout_rules.proofs.Totals.{step_total-load, step_total-entries_at}
use Rattle.rollout_rules.proofs.Tunnels.{tunnel_of-below}
use Rattle.rollout_rules.proofs.Rows.{list_below-length, list_below-at}
use Rattle.rollout_rules.proofs.Alike.{same_mark-from}
use Rattle.wan_model.specs.Rates.{AreRates}
use Rattle.wan_model.proofs.Rated.{rated-count, rated-at, rated-is_network}
use Rattle.retarget_plan.specs.Standing.{OldSideFits}
use Rattle.retarget_plan.specs.Shedding.{shed_rate, shed, OnlyGivesWay, one_step}

both-stages : (test : ℕ → Bool) → test 0 ≡ true → test 1 ≡ true → all_below 2 test ≡ true
both-stages test first second = and_from (all_below 1 test) (test 1) (and_from (all_below 0 test) (test 0) refl first) second

-- a tunnel that isn't there has no rate
none-there : (r : Option ℕ) → is_some r ≡ false → unwrap_or r 0 ≡ 0
none-there None e = refl
none-there (Some n) e = cc

low-between : (x a b : ℕ) → x ≡ a → (nat_le (min a b) x && nat_le x (max a b)) ≡ true
low-between x a b e = and_from (nat_le (min a b) x) (nat_le x (max a b)) (le-leb (min a b) x (omega (arith, e))) (le-leb x (max a b) (omega (arith, e)))

high-between : (x a b : ℕ) → x ≡ b → (nat_le (min a b) x && nat_le x (max a b)) ≡ true
high-between x a b e = and_from (nat_le (min a b) x) (nat_le x (max a b)) (le-leb (min a b) x (omega (arith, e))) (le-leb x (max a b) (omega (arith, e)))

either-same : (a b c : Bool) → a ≡ c → b ≡ c → (a || b) ≡ c
either-same true b c first second = first
either-same false b c first second = second

all-three : (a b c : Bool) → a ≡ true → b ≡ true → c ≡ true → (a && b && c) ≡ true
all-three a b c first second third = and_from (a && b) c (and_from a b first second) third

one-time : (n : ℕ) → 1 * n ≡ n
one-time n = omega arith

module _ (q : Problem) where
  abbrev plan : Plan
  plan = one_step q

  abbrev n : ℕ
  n = length q.tunnels

  old-rates : (t : ℕ) → t < n → rate_at plan 0 t ≡ old_rate (tunnel_at q t)
  old-rates t lt = list_below-at n (λ k. old_rate (tunnel_at q k)) t 0 lt

  new-rates : (t : ℕ) → t < n → rate_at plan 1 t ≡ new_rate (tunnel_at q t)
  new-rates t lt = list_below-at n (λ k. new_rate (tunnel_at q k)) t 0 lt

  old-marks : (t : ℕ) → t < n → mark_at plan 0 t ≡ is_some (tunnel_at q t).old
  old-marks t lt = list_below-at n (λ k. is_some (tunnel_at q k).old) t false lt

  new-marks : (t : ℕ) → t < n → mark_at plan 1 t ≡ is_some (tunnel_at q t).new
  new-marks t lt = list_below-at n (λ k. is_some (tunnel_at q k).new) t false lt

  shape : has_shape q plan ≡ true
  shape = both-stages (λ s. (length (stage_at plan s).rates == n) && (length (stage_at plan s).installed == n))
      (and_from _ _ (eq-eqb _ _ (list_below-length n (λ k. old_rate (tunnel_at q k)))) (eq-eqb _ _ (list_below-length n (λ k. is_some (tunnel_at q k).old))))
      (and_from _ _ (eq-eqb _ _ (list_below-length n (λ k. new_rate (tunnel_at q k)))) (eq-eqb _ _ (list_below-length n (λ k. is_some (tunnel_at q k).new))))

  begins : begins_at_old q plan ≡ true
  begins = all_below-from n (λ t. (rate_at plan 0 t == plan.scale * old_rate (tunnel_at q t)) && same_mark (mark_at plan 0 t) (is_some (tunnel_at q t).old)) (λ t lt.
      let rate : rate_at plan 0 t ≡ plan.scale * old_rate (tunnel_at q t) = old-rates t lt ∙ sym (one-time (old_rate (tunnel_at q t))) in
      and_from (rate_at plan 0 t == plan.scale * old_rate (tunnel_at q t)) (same_mark (mark_at plan 0 t) (is_some (tunnel_at q t).old))
      (eq-eqb (rate_at plan 0 t) (plan.scale * old_rate (tunnel_at q t)) rate) (same_mark-from (mark_at plan 0 t) (is_some (tunnel_at q t).old) (old-marks t lt)))

  ends : ends_at_new q plan ≡ true
  ends = all_below-from n (λ t. (rate_at plan 1 t == plan.scale * new_rate (tunnel_at q t)) && same_mark (mark_at plan 1 t) (is_some (tunnel_at q t).new)) (λ t lt.
      let rate : rate_at plan 1 t ≡ plan.scale * new_rate (tunnel_at q t) = new-rates t lt ∙ sym (one-time (new_rate (tunnel_at q t))) in
      and_from (rate_at plan 1 t == plan.scale * new_rate (tunnel_at q t)) (same_mark (mark_at plan 1 t) (is_some (tunnel_at q t).new))
      (eq-eqb (rate_at plan 1 t) (plan.scale * new_rate (tunnel_at q t)) rate) (same_mark-from (mark_at plan 1 t) (is_some (tunnel_at q t).new) (new-marks t lt)))

  module _ (net : IsNetwork q) where
    -- each flow has its old total at first, and then its new one
    first-total : (f : ℕ) → f < length q.flows → flow_total q (rate_at plan 0) f ≡ old_total q plan f
    first-total f lt =
        sum_below-same (flow_at q f).tunnels (λ j. rate_at plan 0 (tunnel_of q f j)) (λ j. old_rate (tunnel_at q (tunnel_of q f j))) (λ j few. old-rates (tunnel_of q f j) (tunnel_of-below q f j net lt few))
        ∙ sym (one-time (flow_total q (λ t. old_rate (tunnel_at q t)) f))

    last-total : (f : ℕ) → f < length q.flows → flow_total q (rate_at plan 1) f ≡ new_total q plan f
    last-total f lt =
        sum_below-same (flow_at q f).tunnels (λ j. rate_at plan 1 (tunnel_of q f j)) (λ j. new_rate (tunnel_at q (tunnel_of q f j))) (λ j few. new-rates (tunnel_of q f j) (tunnel_of-below q f j net lt few))
        ∙ sym (one-time (flow_total q (λ t. new_rate (tunnel_at q t)) f))

    totals : keeps_totals q plan ≡ true
    totals = both-stages (λ s. all_below (length q.flows) (keeps_total_at q plan s))
        (all_below-from (length q.flows) (keeps_total_at q plan 0) (λ f lt. low-between (flow_total q (rate_at plan 0) f) (old_total q plan f) (new_total q plan f) (first-total f lt)))
        (all_below-from (length q.flows) (keeps_total_at q plan 1) (λ f lt. high-between (flow_total q (rate_at plan 1) f) (old_total q plan f) (new_total q plan f) (last-total f lt)))

    module _ (gives : OnlyGivesWay q) (old : OldSideFits q) where
      -- a step takes no more than the old split
      step-rate : (s t : ℕ) → (s ≡ 0) ⊎ (s ≡ 1) → t < n → greater_rate plan s t ≤ old_rate (tunnel_at q t)
      step-rate s t (inl e) lt = subst (λ (k : ℕ). greater_rate plan k t ≤ old_rate (tunnel_at q t)) (sym e) (omega (arith, old-rates t lt, new-rates t lt, gives.rates t lt))
      step-rate s t (inr e) lt = subst (λ (k : ℕ). greater_rate plan k t ≤ old_rate (tunnel_at q t)) (sym e) (omega (arith, new-rates t lt, gives.rates t lt))

      last-mark : (t : ℕ) → t < n → mark_at plan 1 t ≡ was_installed q t 0
      last-mark t lt = new-marks t lt ∙ gives.marks t lt

      step-mark : (s t : ℕ) → (s ≡ 0) ⊎ (s ≡ 1) → t < n → either_mark plan s t ≡ was_installed q t 0
      step-mark s t (inl e) lt = subst (λ (k : ℕ). either_mark plan k t ≡ was_installed q t 0) (sym e) (either-same (mark_at plan 0 t) (mark_at plan 1 t) (was_installed q t 0) (old-marks t lt) (last-mark t lt))
      step-mark s t (inr e) lt = subst (λ (k : ℕ). either_mark plan k t ≡ was_installed q t 0) (sym e) (either-same (mark_at plan 1 t) (mark_at plan 1 t) (was_installed q t 0) (last-mark t lt) (last-mark t lt))

      link-fits : (s l : ℕ) → (s ≡ 0) ⊎ (s ≡ 1) → l < length q.links → step_total q plan s (the_link l) ≤ capacity_of q plan (the_link l)
      link-fits s l is lt =
          let up : load q (greater_rate plan s) l ≤ old_load q l = sum_below-mono n _ _ (λ t low. if_mono (crosses q t l) (greater_rate plan s t) (old_rate (tunnel_at q t)) (step-rate s t is low)) in
          omega (arith, step_total-load q plan s l net, up, old.links l lt)

      table-fits : (s w : ℕ) → (s ≡ 0) ⊎ (s ≡ 1) → w < length q.switches → step_total q plan s (the_table w) ≤ capacity_of q plan (the_table w)
      table-fits s w is lt =
          let same : entries_at q (λ t h. either_mark plan s t) w ≡ entries_at q (was_installed q) w =
          sum_below-same n _ _ (λ t low. ap (λ (b : Bool). sum_below (hops q t) (λ h. if (switch_of q t h == w) && b then width_of q t else 0)) (step-mark s t is low)) in
          omega (arith, step_total-entries_at q plan s w, same, old.tables w lt)

      resource-fits : (s : ℕ) → (s ≡ 0) ⊎ (s ≡ 1) → (r : Resource) → is_resource q r ≡ true → step_total q plan s r ≤ capacity_of q plan r
      resource-fits s is (the_link l) here = link-fits s l is (ltb-true l (length q.links) here)
      resource-fits s is (the_table w) here = table-fits s w is (ltb-true w (length q.switches) here)

      step-fits : (s : ℕ) → (s ≡ 0) ⊎ (s ≡ 1) → all_resources q (λ r. nat_le (step_total q plan s r) (capacity_of q plan r)) ≡ true
      step-fits s is = all_resources-from q (λ r. nat_le (step_total q plan s r) (capacity_of q plan r)) (λ r here. le-leb (step_total q plan s r) (capacity_of q plan r) (resource-fits s is r here))

      fits : fits_each_step q plan ≡ true
      fits = both-stages (λ s. all_resources q (λ r. nat_le (step_total q plan s r) (capacity_of q plan r))) (step-fits 0 (inl refl)) (step-fits 1 (inr refl))

      -- what carries traffic was there
      carried-first : (t : ℕ) → t < n → is_carried_at plan 0 t ≡ true
      carried-first t lt = by_mark (cases_Bool (is_some (tunnel_at q t).old))
        where
          by_mark : (is_some (tunnel_at q t).old ≡ true) ⊎ (is_some (tunnel_at q t).old ≡ false) → is_carried_at plan 0 t ≡ true
          by_mark (inl there) = or_right (rate_at plan 0 t == 0) (mark_at plan 0 t && mark_at plan 0 t && mark_at plan 1 t) (all-three (mark_at plan 0 t) (mark_at plan 0 t) (mark_at plan 1 t) (old-marks t lt ∙ there) (old-marks t lt ∙ there) (last-mark t lt ∙ there))
          by_mark (inr gone) = or_left (rate_at plan 0 t == 0) (mark_at plan 0 t && mark_at plan 0 t && mark_at plan 1 t) (eq-eqb (rate_at plan 0 t) 0 (old-rates t lt ∙ none-there (tunnel_at q t).old gone))

      carried-last : (t : ℕ) → t < n → is_carried_at plan 1 t ≡ true
      carried-last t lt = by_mark (cases_Bool (is_some (tunnel_at q t).old))
        where
          by_mark : (is_some (tunnel_at q t).old ≡ true) ⊎ (is_some (tunnel_at q t).old ≡ false) → is_carried_at plan 1 t ≡ true
          by_mark (inl there) = or_right (rate_at plan 1 t == 0) (mark_at plan 0 t && mark_at plan 1 t && mark_at plan 1 t) (all-three (mark_at plan 0 t) (mark_at plan 1 t) (mark_at plan 1 t) (old-marks t lt ∙ there) (last-mark t lt ∙ there) (last-mark t lt ∙ there))
          by_mark (inr gone) = or_left (rate_at plan 1 t == 0) (mark_at plan 0 t && mark_at plan 1 t && mark_at plan 1 t) (eq-eqb (rate_at plan 1 t) 0 (new-rates t lt ∙ none-there (tunnel_at q t).new (gives.marks t lt ∙ gone)))

      carries : carries_what_flows q plan ≡ true
      carries = both-stages (λ s. all_below n (is_carried_at plan s)) (all_below-from n (is_carried_at plan 0) carried-first) (all_below-from n (is_carried_at plan 1) carried-last)

      pub one_step-is_valid : is_valid_plan q plan ≡ true
      one_step-is_valid = and_from _ _ (and_from _ _ (and_from _ _ (and_from _ _ (and_from _ _ shape begins) ends) fits) carries) totals

-- ---- shedding a link

shed-le : (r : Option ℕ) (crossing : Bool) → unwrap_or (option_map (λ n. if crossing then 0 else n) r) 0 ≤ unwrap_or r 0
shed-le None crossing = omega arith
shed-le (Some n) true = omega arith
shed-le (Some n) false = le_refl n

shed-some : (r : Option ℕ) (f : ℕ → ℕ) → is_some (option_map f r) ≡ is_some r
shed-some None f = refl
shed-some (Some n) f = refl

shed-none : (r : Option ℕ) (crossing : Bool) → crossing ≡ true → unwrap_or (option_map (λ n. if crossing then 0 else n) r) 0 ≡ 0
shed-none None crossing e = refl
shed-none (Some n) true e = refl
shed-none (Some n) false e = cc

shed-rate : (r : Option ℕ) (crossing : Bool) → IsRate r → IsRate (option_map (λ n. if crossing then 0 else n) r)
shed-rate None crossing is = is
shed-rate (Some n) true is = omega arith
shed-rate (Some n) false is = is

module _ (q : Problem) (l : ℕ) where
  abbrev olds : List (Option ℕ)
  olds = list_below (length q.tunnels) (λ t. (tunnel_at q t).old)

  abbrev news : List (Option ℕ)
  news = list_below (length q.tunnels) (shed_rate q l)

  abbrev r : Problem
  r = shed q l

  old-is : (t : ℕ) → t < length q.tunnels → (tunnel_at r t).old ≡ (tunnel_at q t).old
  old-is t lt = ap (λ (u : Tunnel). u.old) (rated-at q olds news t lt) ∙ list_below-at (length q.tunnels) (λ k. (tunnel_at q k).old) t None lt

  new-is : (t : ℕ) → t < length q.tunnels → (tunnel_at r t).new ≡ shed_rate q l t
  new-is t lt = ap (λ (u : Tunnel). u.new) (rated-at q olds news t lt) ∙ list_below-at (length q.tunnels) (shed_rate q l) t None lt

  inside : (t : ℕ) → t < length r.tunnels → t < length q.tunnels
  inside t lt = omega (arith, lt, rated-count q olds news)

  pub shed-gives_way : OnlyGivesWay r
  shed-gives_way = record {
    rates = λ t lt.
        let here = inside t lt in
        let was = ap (λ (x : Option ℕ). unwrap_or x 0) (old-is t here) in
        let becomes = ap (λ (x : Option ℕ). unwrap_or x 0) (new-is t here) in
        omega (arith, was, becomes, shed-le (tunnel_at q t).old (crosses q t l));
    marks = λ t lt.
        let here = inside t lt in
        ap (λ (x : Option ℕ). is_some x) (new-is t here) ∙ shed-some (tunnel_at q t).old (λ n. if crosses q t l then 0 else n) ∙ sym (ap (λ (x : Option ℕ). is_some x) (old-is t here));
  }

  -- what crosses the link carries nothing more
  pub shed-empties : (t : ℕ) → t < length q.tunnels → crosses q t l ≡ true → new_rate (tunnel_at r t) ≡ 0
  shed-empties t lt crossing = ap (λ (x : Option ℕ). unwrap_or x 0) (new-is t lt) ∙ shed-none (tunnel_at q t).old (crosses q t l) crossing

  module _ (net : IsNetwork q) where
    olds-are : AreRates q olds
    olds-are = record {
      count = list_below-length (length q.tunnels) (λ t. (tunnel_at q t).old);
      within = λ t lt. subst IsRate (sym (list_below-at (length q.tunnels) (λ k. (tunnel_at q k).old) t None lt)) (net.tunnels t lt).old;
    }

    news-are : AreRates q news
    news-are = record {
      count = list_below-length (length q.tunnels) (shed_rate q l);
      within = λ t lt. subst IsRate (sym (list_below-at (length q.tunnels) (shed_rate q l) t None lt)) (shed-rate (tunnel_at q t).old (crosses q t l) (net.tunnels t lt).old);
    }

    pub shed-is_network : IsNetwork r
    shed-is_network = rated-is_network q olds news net olds-are news-are

    -- its old side is that of the network
    load-same : (k : ℕ) → old_load r k ≡ old_load q k
    load-same k =
        ap (λ (m : ℕ). sum_below m (λ t. if crosses r t k then old_rate (tunnel_at r t) else 0)) (rated-count q olds news)
        ∙ sum_below-same (length q.tunnels) _ _ (λ t lt.
        ap₂ (λ (b : Bool) (x : Option ℕ). if b then unwrap_or x 0 else 0) (ap (λ (u : Tunnel). list_any (λ j. j == k) u.links) (rated-at q olds news t lt)) (old-is t lt))

    entry-same : (w t h : ℕ) → t < length q.tunnels → (if (switch_of r t h == w) && was_installed r t h then width_of r t else 0) ≡ (if (switch_of q t h == w) && was_installed q t h then width_of q t else 0)
    entry-same w t h lt =
        ap (λ (u : Tunnel). if (get_or u.path h 0 == w) && is_some u.old then u.width else 0) (rated-at q olds news t lt)
        ∙ ap (λ (x : Option ℕ). if (switch_of q t h == w) && is_some x then width_of q t else 0) (list_below-at (length q.tunnels) (λ k. (tunnel_at q k).old) t None lt)

    entries-same : (w : ℕ) → entries_at r (was_installed r) w ≡ entries_at q (was_installed q) w
    entries-same w =
        ap (λ (m : ℕ). sum_below m (λ t. sum_below (hops r t) (λ h. if (switch_of r t h == w) && was_installed r t h then width_of r t else 0))) (rated-count q olds news)
        ∙ sum_below-same (length q.tunnels) _ _ (λ t lt.
        ap (λ (m : ℕ). sum_below m (λ h. if (switch_of r t h == w) && was_installed r t h then width_of r t else 0)) (ap (λ (u : Tunnel). length u.path) (rated-at q olds news t lt))
        ∙ sum_below-same (hops q t) _ _ (λ h low. entry-same w t h lt))

    shed-fits : OldSideFits q → OldSideFits r
    shed-fits old = record {
      links = λ k lt. omega (arith, load-same k, old.links k lt);
      tables = λ w lt. omega (arith, entries-same w, old.tables w lt);
    }

    pub shed-is_planned : OldSideFits q → is_valid_plan r (one_step r) ≡ true
    shed-is_planned old = one_step-is_valid r shed-is_network shed-gives_way (shed-fits old)
