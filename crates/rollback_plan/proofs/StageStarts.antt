-- Each stage of a valid plan is a sound start, with its own contents.
use Rattle.std.proofs.Common.{◌≡◌, ℕ, ◌+◌, ◌-◌, ◌<◌, ◌≤◌, Bool, true, false, ◌||◌, ◌==◌, if◌then◌else◌, List, length, slice_index, nat_le, nat_eq, inl, inr, refl, sym, ap, ◌∙◌, subst, arith, le_refl, le_trans, le_of_eq, le-leb, leb-false, ltb-true, eq-eqb}
use Rattle.std.proofs.lemmas.Bool.{cases_lt, or_left, or_right}
use Rattle.rollout_rules.specs.Wan.{Problem, Plan, flow_at, tunnel_at, tunnel_of, hops, rate_at, mark_at, last_stage}
use Rattle.rollout_rules.specs.Network.{IsNetwork}
use Rattle.rollout_rules.specs.Items.{Resource, is_item, item_count, item_at, number_of, content, use_at, step_maximum}
use Rattle.rollout_rules.specs.Operations.{changes_to, operations, stand_after, content_after}
use Rattle.rollout_rules.specs.History.{Places, started, places_of, stand}
use Rattle.rollout_rules.specs.Needs.{installed_since, idle_since, entries_past, needs_met_at}
use Rattle.rollout_rules.specs.Room.{least_stage, share}
use Rattle.rollout_rules.specs.Valid.{is_valid_plan}
use Rattle.rollout_rules.specs.Legal.{is_sound}
use Rattle.rollout_rules.specs.declared.item.Item.{Item}
use Rattle.rollout_rules.specs.declared.item.Item.TheVariants as item
use Rattle.rollout_rules.proofs.Below.{all_below-from}
use Rattle.rollout_rules.proofs.Numbers.{item_at-number_of, number_of-below}
use Rattle.rollout_rules.proofs.Tunnels.{tunnel_of-below}
use Rattle.rollout_rules.proofs.OverItems.{sum_items-mono, least_items-from, is_item-flow, is_item-entry, entry-is_item}
use Rattle.rollout_rules.proofs.Rows.{list_below-at}
use Rattle.rollout_laws.specs.Good.{IsGood}
use Rattle.rollout_laws.proofs.Histories.{flies-started}
use Rattle.rollout_laws.proofs.Standing.{changes-up, stand-passes, stand-past, content-kept}
use Rattle.rollout_laws.proofs.Contents.{use-same, step-begins}
use Rattle.rollout_laws.proofs.Shares.{share_from}
use Rattle.rollout_laws.proofs.Runs.{run_start-most, run_start-before}
use Rattle.rollout_laws.proofs.SoundStarts.{begun_at-started, good-sound}
use Rattle.rollout_laws.proofs.Validity.{IsValid, plan-is_valid, carried-installed}
use Rattle.rollback_plan.specs.Turning.{back_problem, back_plan}
use Rattle.rollback_plan.specs.Levels.{stage_start, back_start, HasContentsOf}
use Rattle.rollback_plan.proofs.Alike.{count-turned, item_at-turned}
use Rattle.rollback_plan.proofs.Mirror.{last-turned, content-mirrored, changes-mirrored}
use Rattle.rollback_plan.proofs.Networks.{back-is_network}
use Rattle.rollback_plan.proofs.Ways.{back-is_valid}

-- an operation up to a stage begins before it
pub leads-before : (p : Problem) (plan : Plan) (i : Item) (s k : ℕ) → k < changes_to p plan i s → stand_after p plan i k < s
leads-before p plan i s k lt = elim (cases_lt (stand_after p plan i k) s) as (λ c. stand_after p plan i k < s) [
  | inl before ↦ before
  | inr past ↦ absurd (omega (arith, lt, changes-up p plan i s (stand_after p plan i k) past, stand-passes p plan i k))
]

module _ (p : Problem) (plan : Plan) (s : ℕ) where
  abbrev start : List ℕ
  start = stage_start p plan s

  abbrev at : Places
  at = places_of p (started start)

  -- the number of an item there is that of its operations up to the stage
  pub start-at : (n : ℕ) → n < item_count p → slice_index start n ≡ changes_to p plan (item_at p n) s
  start-at n lt = list_below-at (item_count p) (λ k. changes_to p plan (item_at p k) s) n 0 lt

  settled-at : (i : Item) → is_item p i ≡ true → at.settled i ≡ changes_to p plan i s
  settled-at i here =
      let number = start-at (number_of p i) (number_of-below p i here) in
      let same = ap (λ k. changes_to p plan k s) (item_at-number_of p i here) in
      omega (arith, number, same)

  -- with it the item has the content of the stage
  pub contents-at : s ≤ last_stage plan → HasContentsOf p plan s start
  contents-at most n lt =
      let i = item_at p n in
      ap (λ j. content_after p plan i j) (start-at n lt)
      ∙ sym (content-kept p plan i (changes_to p plan i s) s (le_refl (changes_to p plan i s)) (stand-past p plan i (changes_to p plan i s) s most (le_refl (changes_to p plan i s))))

  module _ (net : IsNetwork p) (is_valid : is_valid_plan p plan ≡ true) (most : s ≤ last_stage plan) where
    valid : IsValid p plan
    valid = plan-is_valid p plan is_valid

    -- each item stands at the stage or past it
    stands : (i : Item) → is_item p i ≡ true → s ≤ stand p plan at i
    stands i here = stand-past p plan i (at.settled i) s most (le_of_eq (sym (settled-at i here)))

    -- what a step up to the stage needs has been reached by all items
    met-before : (m : ℕ) → m < s → (i : Item) → is_item p i ≡ true → needs_met_at p plan at i m ≡ true
    met-before m before (item.Flow f) here =
        all_below-from (flow_at p f).tunnels _ (λ j few. tunnel (tunnel_of p f j) (tunnel_of-below p f j net (ltb-true f (length p.flows) here) few))
      where
        installed : (t : ℕ) → t < length p.tunnels → 0 < rate_at plan (m + 1) t → installed_since plan t (m + 1) ≤ m
        installed t lt carries =
            let behind : m + 1 - 1 ≡ m = omega arith in
            run_start-before (λ u. mark_at plan u t) m (subst (λ u. mark_at plan u t ≡ true) behind (carried-installed p plan valid (m + 1) t (omega (arith, before, most)) lt carries).before)

        tunnel : (t : ℕ) → t < length p.tunnels → (nat_eq (rate_at plan (m + 1) t) 0 || entries_past p plan at t (installed_since plan t (m + 1))) ≡ true
        tunnel t lt = elim (cases_lt 0 (rate_at plan (m + 1) t)) as (λ c. (nat_eq (rate_at plan (m + 1) t) 0 || entries_past p plan at t (installed_since plan t (m + 1))) ≡ true) [
          | inl carries ↦ or_right (nat_eq (rate_at plan (m + 1) t) 0) (entries_past p plan at t (installed_since plan t (m + 1)))
              (all_below-from (hops p t) (λ h. nat_le (installed_since plan t (m + 1)) (stand p plan at (item.Entry t h)))
              (λ h low. le-leb (installed_since plan t (m + 1)) (stand p plan at (item.Entry t h)) (omega (arith, installed t lt carries, before, stands (item.Entry t h) (is_item-entry p t h lt low)))))
          | inr none ↦ or_left (nat_eq (rate_at plan (m + 1) t) 0) (entries_past p plan at t (installed_since plan t (m + 1))) (eq-eqb (rate_at plan (m + 1) t) 0 (omega (arith, none)))
        ]
    met-before m before (item.Entry t h) here =
        let flow = item.Flow (tunnel_at p t).flow in
        or_right (mark_at plan (m + 1) t) (nat_le (idle_since plan t m) (stand p plan at flow))
        (le-leb (idle_since plan t m) (stand p plan at flow) (omega (arith, before, run_start-most (λ u. rate_at plan u t == 0) m, stands flow (is_item-flow p (tunnel_at p t).flow (net.tunnels t (entry-is_item p t h here).row).flow))))

    -- from the stage on an item adds at most its step's maximum
    share-at : (u : ℕ) → s ≤ u → (r : Resource) (i : Item) → is_item p i ≡ true → share p plan at u r i ≤ step_maximum p plan u i r
    share-at u from r i here = subst (λ fl. share_from p plan i r u (at.settled i) fl ≤ step_maximum p plan u i r) (sym (flies-started start (number_of p i))) (bound (nat_le (stand p plan at i) u) refl)
      where
        bound : (near : Bool) → nat_le (stand p plan at i) u ≡ near → (if near then step_maximum p plan u i r else use_at p plan (stand p plan at i) i r) ≤ step_maximum p plan u i r
        bound true e = le_refl (step_maximum p plan u i r)
        bound false e =
            let past : u < stand p plan at i = leb-false (stand p plan at i) u e in
            let done : at.settled i ≤ changes_to p plan i u = omega (arith, settled-at i here, changes-up p plan i s u from) in
            le_trans (use-same p plan i r (stand p plan at i) u (sym (content-kept p plan i (at.settled i) u done (omega (arith, past))))) (step-begins p plan i r u)

    least-from : s ≤ least_stage p plan at
    least-from = least_items-from p (last_stage plan) (stand p plan at) s most stands

    good-at : IsGood p plan at
    good-at = record {
      exist = λ i here. omega (arith, begun_at-started p start i, settled-at i here, changes-up p plan i s (last_stage plan) most);
      needs = λ i here k lt.
          let up_to : k < changes_to p plan i s = omega (arith, lt, begun_at-started p start i, settled-at i here) in
          met-before (stand_after p plan i k) (leads-before p plan i s k up_to) i here;
      room = λ u low lt r here.
          let from : s ≤ u = omega (arith, least-from, low) in
          le_trans (sum_items-mono p (share p plan at u r) (λ i. step_maximum p plan u i r) (λ i found. share-at u from r i found)) (valid.step u (omega (arith, lt)) r here);
    }

    pub stage-is_sound : is_sound p plan start ≡ true
    stage-is_sound = good-sound p plan start good-at

module _ (p : Problem) (plan : Plan) (s : ℕ) (is_valid : is_valid_plan p plan ≡ true) (most : s ≤ last_stage plan) where
  abbrev q : Problem
  q = back_problem p

  abbrev there : Plan
  there = back_plan plan

  abbrev left : ℕ
  left = last_stage plan - s

  within : left ≤ last_stage there
  within = omega (arith, last-turned plan)

  pub back_start-is_sound : IsNetwork p → is_sound q there (back_start p plan s) ≡ true
  back_start-is_sound net = stage-is_sound q there left (back-is_network p net) (back-is_valid p plan is_valid) within

  module _ (n : ℕ) (lt : n < item_count p) where
    inside : n < item_count q
    inside = omega (arith, lt, count-turned p)

    same : item_at q n ≡ item_at p n
    same = item_at-turned p n

    here : last_stage plan - left ≡ s
    here = omega (arith, most)

    pub back_start-contents : content_after q there (item_at p n) (slice_index (back_start p plan s) n) ≡ content p plan (item_at p n) s
    back_start-contents =
        subst (λ i. content_after q there i (slice_index (back_start p plan s) n) ≡ content q there i left) same (contents-at q there left within n inside)
        ∙ content-mirrored plan p (plan-is_valid p plan is_valid).stages (item_at p n) left (omega arith)
        ∙ ap (content p plan (item_at p n)) here

    pub back_start-number : slice_index (back_start p plan s) n ≡ operations p plan (item_at p n) - changes_to p plan (item_at p n) s
    back_start-number =
        let number : slice_index (back_start p plan s) n ≡ changes_to q there (item_at p n) left =
        start-at q there left n inside ∙ ap (λ i. changes_to q there i left) same in
        let mirrored = changes-mirrored plan p (plan-is_valid p plan is_valid).stages (item_at p n) left (omega arith) in
        let up_to = ap (changes_to p plan (item_at p n)) here in
        omega (arith, number, mirrored, up_to)
