-- No rollout is stuck: an item at the least stage that has none in flight may begin its next operation.
use Rattle.std.proofs.Common.{◌≡◌, ℕ, ◌+◌, ◌-◌, ◌<◌, ◌≤◌, true, false, ◌&&◌, ◌||◌, ◌==◌, [], ◌∷◌, length, inl, inr, refl, sym, ap, ◌∙◌, subst, arith, le_trans, le_of_eq, le-leb, lt-ltb, ltb-true, eq-eqb, nat_le, nat_eq}
use Rattle.std.proofs.lemmas.Bool.{and_from, cases_lt, cases_eq, or_left, or_right, eqb-false, not_from_false}
use Rattle.rollout_rules.specs.Wan.{Problem, Plan, flow_at, tunnel_at, tunnel_of, hops, rate_at, mark_at, last_stage}
use Rattle.rollout_rules.specs.Network.{IsNetwork}
use Rattle.rollout_rules.specs.Items.{Resource, is_item, item_count, number_of, item_at}
use Rattle.rollout_rules.specs.Operations.{operations, stand_after}
use Rattle.rollout_rules.specs.History.{History, Places, with_entries, settled, flies, places_of, stand}
use Rattle.rollout_rules.specs.Needs.{installed_since, idle_since, entries_past, needs_met_at, needs_met}
use Rattle.rollout_rules.specs.Room.{least_stage, share, fits}
use Rattle.rollout_rules.specs.Legal.{is_next, may_begin, is_legal, is_finished}
use Rattle.rollout_rules.specs.Release.{next_op}
use Rattle.rollout_rules.specs.declared.item.Item.{Item}
use Rattle.rollout_rules.specs.declared.item.Item.TheVariants as item
use Rattle.rollout_rules.specs.declared.op.Op.{Op}
use Rattle.rollout_rules.specs.declared.op.Entry.TheVariants.{Begin}
use Rattle.rollout_rules.proofs.Below.{all_below-from, all_below-fails}
use Rattle.rollout_rules.proofs.Numbers.{item_at-number_of, number_of-item_at, number_of-below, is_item-item_at}
use Rattle.rollout_rules.proofs.Tunnels.{tunnel_of-below}
use Rattle.rollout_rules.proofs.OverItems.{sum_items-mono, least_items-is, is_item-flow, is_item-entry, entry-is_item}
use Rattle.rollout_laws.specs.Good.{IsGood}
use Rattle.rollout_laws.specs.Waiting.{NothingFlies, SomeMayBegin}
use Rattle.rollout_laws.proofs.Histories.{begun-begin_other, settled-begin, is_counted}
use Rattle.rollout_laws.proofs.Standing.{stand-last, stand-left}
use Rattle.rollout_laws.proofs.Shares.{share-later, share-here}
use Rattle.rollout_laws.proofs.Rooms.{least_stage-at, least_stage-up}
use Rattle.rollout_laws.proofs.Runs.{run_start-most, run_start-before}
use Rattle.rollout_laws.proofs.Goods.{room-fits}
use Rattle.rollout_laws.proofs.Moves.{begun_at-same, legal-good}
use Rattle.rollout_laws.proofs.Validity.{IsValid, carried-installed}

module _ (p : Problem) (plan : Plan) (net : IsNetwork p) (valid : IsValid p plan) where
  -- what the step from the least stage needs has been reached by all items
  needs-least : (at : Places) (m : ℕ) → m < last_stage plan → ((i : Item) → is_item p i ≡ true → m ≤ stand p plan at i) → (i : Item) → is_item p i ≡ true → needs_met_at p plan at i m ≡ true
  needs-least at m before least (item.Flow f) here =
      all_below-from (flow_at p f).tunnels _ (λ j few. tunnel (tunnel_of p f j) (tunnel_of-below p f j net (ltb-true f (length p.flows) here) few))
    where
      installed : (t : ℕ) → t < length p.tunnels → 0 < rate_at plan (m + 1) t → installed_since plan t (m + 1) ≤ m
      installed t lt carries =
          let behind : m + 1 - 1 ≡ m = omega arith in
          run_start-before (λ u. mark_at plan u t) m (subst (λ s. mark_at plan s t ≡ true) behind (carried-installed p plan valid (m + 1) t (omega (arith, before)) lt carries).before)

      tunnel : (t : ℕ) → t < length p.tunnels → (nat_eq (rate_at plan (m + 1) t) 0 || entries_past p plan at t (installed_since plan t (m + 1))) ≡ true
      tunnel t lt = elim (cases_lt 0 (rate_at plan (m + 1) t)) as (λ c. (nat_eq (rate_at plan (m + 1) t) 0 || entries_past p plan at t (installed_since plan t (m + 1))) ≡ true) [
        | inl carries ↦ or_right (nat_eq (rate_at plan (m + 1) t) 0) (entries_past p plan at t (installed_since plan t (m + 1)))
            (all_below-from (hops p t) (λ h. nat_le (installed_since plan t (m + 1)) (stand p plan at (item.Entry t h)))
            (λ h low. le-leb (installed_since plan t (m + 1)) (stand p plan at (item.Entry t h)) (le_trans (installed t lt carries) (least (item.Entry t h) (is_item-entry p t h lt low)))))
        | inr none ↦ or_left (nat_eq (rate_at plan (m + 1) t) 0) (entries_past p plan at t (installed_since plan t (m + 1))) (eq-eqb (rate_at plan (m + 1) t) 0 (omega (arith, none)))
      ]
  needs-least at m before least (item.Entry t h) here =
      let flow = item.Flow (tunnel_at p t).flow in
      or_right (mark_at plan (m + 1) t) (nat_le (idle_since plan t m) (stand p plan at flow))
      (le-leb (idle_since plan t m) (stand p plan at flow) (le_trans (run_start-most (λ u. rate_at plan u t == 0) m) (least flow (is_item-flow p (tunnel_at p t).flow (net.tunnels t (entry-is_item p t h here).row).flow))))

  module _ (h : History) (legal : is_legal p plan h ≡ true) where
    abbrev now : Places
    now = places_of p h

    -- an operation begun at the least stage takes no room
    module _ (this : Item) (here : is_item p this ≡ true) (at_least : stand p plan now this ≡ least_stage p plan now) where
      abbrev op : Op
      op = next_op h (number_of p this)

      abbrev later : Places
      later = places_of p (with_entries h (Begin op ∷ []))

      same-stand : (i : Item) → stand p plan later i ≡ stand p plan now i
      same-stand i = ap (stand_after p plan i) (settled-begin h op (number_of p i))

      same-number : (i : Item) → is_item p i ≡ true → number_of p this ≡ number_of p i → this ≡ i
      same-number i found e = sym (item_at-number_of p this here) ∙ ap (item_at p) e ∙ item_at-number_of p i found

      least-same : least_stage p plan now ≤ least_stage p plan later
      least-same = least_stage-up p plan now later (λ i found. le_of_eq (sym (same-stand i)))

      share-same : (s : ℕ) (r : Resource) → least_stage p plan now ≤ s → (i : Item) → is_item p i ≡ true → share p plan later s r i ≤ share p plan now s r i
      share-same s r low i found = elim (cases_eq (number_of p this) (number_of p i)) as (λ c. share p plan later s r i ≤ share p plan now s r i) [
        | inl e ↦
            let near : stand p plan now i ≤ s = subst (λ j. stand p plan now j ≤ s) (same-number i found e) (le_trans (le_of_eq at_least) low) in
            le_of_eq (share-here p plan i r later s (le_trans (le_of_eq (same-stand i)) near) ∙ sym (share-here p plan i r now s near))
        | inr other ↦ share-later p plan i r now later s (le_of_eq (sym (settled-begin h op (number_of p i))))
            (le_of_eq (begun_at-same p h (with_entries h (Begin op ∷ [])) i (begun-begin_other h op (number_of p i) other) (settled-begin h op (number_of p i))))
      ]

      fits-begun : IsGood p plan now → fits p plan later ≡ true
      fits-begun good = room-fits p plan later (λ s low lt r found.
          let from = le_trans least-same low in
          le_trans (sum_items-mono p (share p plan later s r) (share p plan now s r) (share-same s r from)) (good.room s from lt r found))

      pub least-begins : least_stage p plan now < last_stage plan → flies h (number_of p this) ≡ false → may_begin p plan h op ≡ true
      least-begins before idle =
          let n = number_of p this in
          let item_is = item_at-number_of p this here in
          and_from (is_next p plan h op && needs_met p plan now (item_at p n)) (fits p plan later)
          (and_from (is_next p plan h op) (needs_met p plan now (item_at p n)) next
          (subst (λ i. needs_met p plan now i ≡ true) (sym item_is) needs)) (fits-begun (legal-good p plan net h legal))
        where
          left : settled h (number_of p this) < operations p plan this
          left = elim (cases_lt (settled h (number_of p this)) (operations p plan this)) as (λ c. settled h (number_of p this) < operations p plan this) [
            | inl less ↦ less
            | inr none ↦ let last = stand-last p plan this (settled h (number_of p this)) none in absurd (omega (arith, at_least, before, last))
          ]

          needs : needs_met p plan now this ≡ true
          needs = subst (λ m. needs_met_at p plan now this m ≡ true) (sym at_least) (needs-least now (least_stage p plan now) before (least_stage-at p plan now) this here)

          exists : nat_le (settled h (number_of p this) + 1) (operations p plan (item_at p (number_of p this))) ≡ true
          exists = le-leb (settled h (number_of p this) + 1) (operations p plan (item_at p (number_of p this))) (subst (λ i. settled h (number_of p this) + 1 ≤ operations p plan i) (sym (item_at-number_of p this here)) (omega (arith, left)))

          next : is_next p plan h op ≡ true
          next = and_from _ _ (and_from _ _ (and_from _ _ (lt-ltb (number_of p this) (item_count p) (number_of-below p this here)) (not_from_false _ idle)) (eq-eqb (settled h (number_of p this) + 1) (settled h (number_of p this) + 1) refl)) exists

    -- an unfinished history has an item before the last stage
    unfinished-before : is_finished p plan h ≡ false → least_stage p plan now < last_stage plan
    unfinished-before unfinished =
        let there = all_below-fails (item_count p) (λ n. settled h n == operations p plan (item_at p n)) unfinished in
        let n = there.0 in
        let i = item_at p n in
        let counted = is_counted p plan h legal n in
        let differ = eqb-false (settled h n) (operations p plan i) there.2 in
        let left : settled h n < operations p plan i = omega (arith, counted.settled_begun, counted.exist there.1, differ) in
        let stands : stand p plan now i < last_stage plan = subst (λ k. stand_after p plan i (settled h k) < last_stage plan) (sym (number_of-item_at p n there.1)) (stand-left p plan i (settled h n) left) in
        omega (arith, least_stage-at p plan now i (is_item-item_at p n there.1), stands)

    pub some-begins : is_finished p plan h ≡ false → NothingFlies p h → SomeMayBegin p plan h
    some-begins unfinished idle =
        let before = unfinished-before unfinished in
        let least = least_items-is p (last_stage plan) (stand p plan now) before in
        let n = number_of p least.this in
        (n, least-begins least.this least.found (sym least.is) before (idle n (number_of-below p least.this least.found)))
