-- The entries of a tunnel that carries traffic stand, and none of them is being removed.
use Rattle.std.proofs.Common.{◌≡◌, ℕ, zero, suc, ◌+◌, ◌<◌, ◌≤◌, true, false, ◌||◌, ◌==◌, length, inl, inr, sym, ◌∙◌, subst, arith, le_refl, le_trans, leb-true, eqb-true, nat_le, nat_eq}
use Rattle.std.proofs.lemmas.Bool.{cases_Bool, cases_lt, or_cases}
use Rattle.lists.proofs.Conditions.{not_both}
use Rattle.rollout_rules.specs.Wan.{Problem, Plan, tunnel_at, flow_at, hops, rate_at, mark_at, last_stage, next_stage}
use Rattle.rollout_rules.specs.Network.{IsNetwork}
use Rattle.rollout_rules.specs.Items.{is_item, content}
use Rattle.rollout_rules.specs.Operations.{operations, stand_after}
use Rattle.rollout_rules.specs.History.{Places, stand}
use Rattle.rollout_rules.specs.Needs.{installed_since, idle_since, entries_past, needs_met_at}
use Rattle.rollout_rules.specs.declared.item.Item.{Item}
use Rattle.rollout_rules.specs.declared.item.Item.TheVariants as item
use Rattle.rollout_rules.proofs.Below.{all_below-at}
use Rattle.rollout_rules.proofs.OverItems.{is_item-flow, is_item-entry}
use Rattle.rollout_rules.proofs.Tunnels.{place_of, place_of-below, tunnel_of-place_of}
use Rattle.rollout_laws.specs.Good.{begun_at, IsGood}
use Rattle.rollout_laws.proofs.Standing.{stand-most, stand-up, stand-left, stand-moves, content-kept, content-past}
use Rattle.rollout_laws.proofs.Contents.{content-rate, content-mark}
use Rattle.rollout_laws.proofs.Runs.{run_start-most, run_start-passes}
use Rattle.rollout_laws.proofs.Validity.{IsValid, carried-installed}

-- the stages from which on a tunnel is installed until it carries traffic, reached by an entry
record IsInstalledSince (p : Problem) (plan : Plan) (at : Places) (t h x : ℕ) : Type 0 where
  start : ℕ
  reached : start ≤ stand p plan at (item.Entry t h)
  before : start ≤ x
  installed : (s : ℕ) → start ≤ s → s ≤ x → mark_at plan s t ≡ true

module _ (p : Problem) (plan : Plan) (net : IsNetwork p) (valid : IsValid p plan) (at : Places) (good : IsGood p plan at) (t h : ℕ) (row : t < length p.tunnels) (hop : h < hops p t) where
  abbrev flow : Item
  flow = item.Flow (tunnel_at p t).flow

  abbrev entry : Item
  entry = item.Entry t h

  flow_is : is_item p flow ≡ true
  flow_is = is_item-flow p (tunnel_at p t).flow (net.tunnels t row).flow

  entry_is : is_item p entry ≡ true
  entry_is = is_item-entry p t h row hop

  -- the same content of its flow has the same rate of the tunnel
  rate-same : (a b : ℕ) → content p plan flow a ≡ content p plan flow b → rate_at plan a t ≡ rate_at plan b t
  rate-same a b e = subst (λ u. rate_at plan a u ≡ rate_at plan b u) (tunnel_of-place_of p t net row) (content-rate p plan (tunnel_at p t).flow a b e (place_of p t) (place_of-below p t net row))

  installed-where : (s : ℕ) → s ≤ last_stage plan → 0 < rate_at plan s t → mark_at plan s t ≡ true
  installed-where s most some = (carried-installed p plan valid s t most row some).here

  -- what the flow's operation from stage u needs of the tunnel
  needs-tunnel : (u : ℕ) → needs_met_at p plan at flow u ≡ true → 0 < rate_at plan (u + 1) t → installed_since plan t (u + 1) ≤ stand p plan at entry
  needs-tunnel u met some = elim (or_cases (nat_eq (rate_at plan (u + 1) t) 0) (entries_past p plan at t (installed_since plan t (u + 1))) at_place) as (λ c. installed_since plan t (u + 1) ≤ stand p plan at entry) [
    | inl none ↦ let zero : rate_at plan (u + 1) t ≡ 0 = eqb-true (rate_at plan (u + 1) t) 0 none in absurd (omega (arith, some, zero))
    | inr past ↦ leb-true (installed_since plan t (u + 1)) (stand p plan at entry) (all_below-at (hops p t) (λ g. nat_le (installed_since plan t (u + 1)) (stand p plan at (item.Entry t g))) past h hop)
  ]
    where
      at_place : (nat_eq (rate_at plan (u + 1) t) 0 || entries_past p plan at t (installed_since plan t (u + 1))) ≡ true
      at_place = subst (λ k. (nat_eq (rate_at plan (u + 1) k) 0 || entries_past p plan at k (installed_since plan k (u + 1))) ≡ true) (tunnel_of-place_of p t net row) (all_below-at (flow_at p (tunnel_at p t).flow).tunnels _ met (place_of p t) (place_of-below p t net row))

  -- where k operations of the flow, all begun, bring traffic
  installed-since : (k : ℕ) → k ≤ begun_at at flow → 0 < rate_at plan (stand_after p plan flow k) t → IsInstalledSince p plan at t h (stand_after p plan flow k)
  installed-since zero begun some = record {
    start = 0;
    reached = omega arith;
    before = omega arith;
    installed = λ s from to. installed-where s (le_trans to (stand-most p plan flow 0)) (subst (λ n. 0 < n) (sym (rate-same s (stand_after p plan flow 0) (content-kept p plan flow 0 s (omega arith) to))) some);
  }
  installed-since (suc k) begun some =
      let u = stand_after p plan flow k in
      let x = stand_after p plan flow (suc k) in
      let e : k + 1 ≡ suc k = omega arith in
      let left : k < operations p plan flow = omega (arith, begun, good.exist flow flow_is) in
      let moves : u + 1 ≤ x = subst (λ n. u + 1 ≤ stand_after p plan flow n) e (stand-moves p plan flow k left) in
      let past : (s : ℕ) → u < s → s ≤ x → 0 < rate_at plan s t = λ s from to.
      subst (λ n. 0 < n) (sym (rate-same s x (subst (λ n. s ≤ stand_after p plan flow n → content p plan flow s ≡ content p plan flow (stand_after p plan flow n)) e (content-past p plan flow k s from) to))) some in
      let start = installed_since plan t (u + 1) in
      let most = run_start-most (λ s. mark_at plan s t) (u + 1) in
      record {
        start = start;
        reached = needs-tunnel u (good.needs flow flow_is k begun) (past (u + 1) (omega arith) moves);
        before = le_trans most moves;
        installed = λ s from to. elim (cases_lt s (u + 1)) as (λ c. mark_at plan s t ≡ true) [
          | inl earlier ↦ run_start-passes (λ s. mark_at plan s t) (u + 1) s from earlier
          | inr later ↦ installed-where s (le_trans to (stand-most p plan flow (suc k))) (past s (omega (arith, later)) to)
        ];
      }

  -- so a begun operation of the entry can't have removed it
  not-removed : (x : ℕ) → stand p plan at flow ≤ x → x ≤ last_stage plan → 0 < rate_at plan x t → IsInstalledSince p plan at t h x → (n : ℕ) → at.settled entry ≤ n → n ≤ begun_at at entry → mark_at plan (stand_after p plan entry n) t ≡ false → ⊥
  not-removed x flow_to most some since n settled begun gone = elim (cases_lt x (stand_after p plan entry n)) as (λ c. ⊥) [
    | inl past ↦ removed n settled begun gone past
    | inr within ↦ not_both (mark_at plan (stand_after p plan entry n) t) (since.installed (stand_after p plan entry n) (le_trans since.reached (stand-up p plan entry (at.settled entry) n settled)) within) gone
  ]
    where
      here : mark_at plan x t ≡ true
      here = since.installed x since.before (le_refl x)

      removed : (n : ℕ) → at.settled entry ≤ n → n ≤ begun_at at entry → mark_at plan (stand_after p plan entry n) t ≡ false → x < stand_after p plan entry n → ⊥
      removed zero settled begun gone past = not_both (mark_at plan x t) here (content-mark p plan t h x (stand_after p plan entry 0) (content-kept p plan entry 0 x (omega arith) (omega (arith, past))) ∙ gone)
      removed (suc n) settled begun gone past =
          let v = stand_after p plan entry n in
          let y = stand_after p plan entry (suc n) in
          let e : n + 1 ≡ suc n = omega arith in
          let left : n < operations p plan entry = omega (arith, begun, good.exist entry entry_is) in
          let moves : v + 1 ≤ y = subst (λ m. v + 1 ≤ stand_after p plan entry m) e (stand-moves p plan entry n left) in
          let same : (s : ℕ) → v < s → s ≤ y → mark_at plan s t ≡ false = λ s from to.
          content-mark p plan t h s y (subst (λ m. s ≤ stand_after p plan entry m → content p plan entry s ≡ content p plan entry (stand_after p plan entry m)) e (content-past p plan entry n s from) to) ∙ gone in
          elim (cases_lt v x) as (λ c. ⊥) [
            | inl before ↦ not_both (mark_at plan x t) here (same x before (omega (arith, past)))
            | inr from ↦ idle v from (stand-left p plan entry n left) (same (v + 1) (omega arith) moves) (good.needs entry entry_is n begun)
          ]
        where
          idle : (v : ℕ) → x ≤ v → v < last_stage plan → mark_at plan (v + 1) t ≡ false → needs_met_at p plan at entry v ≡ true → ⊥
          idle v from lt gone' met = elim (cases_lt 0 (rate_at plan v t)) as (λ c. ⊥) [
            | inl carries ↦
                let behind : next_stage plan v ≡ v + 1 = omega arith in
                not_both (mark_at plan (v + 1) t) (subst (λ s. mark_at plan s t ≡ true) behind (carried-installed p plan valid v t (omega (arith, lt)) row carries).behind) gone'
            | inr none ↦ elim (or_cases (mark_at plan (v + 1) t) (nat_le (idle_since plan t v) (stand p plan at flow)) met) as (λ c. ⊥) [
              | inl stays ↦ not_both (mark_at plan (v + 1) t) stays gone'
              | inr left ↦ elim (cases_lt x v) as (λ c. ⊥) [
                | inl earlier ↦
                    let zero = eqb-true (rate_at plan x t) 0 (run_start-passes (λ s. rate_at plan s t == 0) v x (le_trans (leb-true (idle_since plan t v) (stand p plan at flow) left) flow_to) earlier) in
                    omega (arith, some, zero)
                | inr now ↦ let e : v ≡ x = omega (arith, from, now) in let zero : rate_at plan x t ≤ 0 = subst (λ s. rate_at plan s t ≤ 0) e none in omega (arith, some, zero)
              ]
            ]
          ]

  -- an entry of a tunnel with traffic is there, whichever of its operations have been applied
  pub entry-stands : (k : ℕ) → at.settled flow ≤ k → k ≤ begun_at at flow → 0 < rate_at plan (stand_after p plan flow k) t → (n : ℕ) → at.settled entry ≤ n → n ≤ begun_at at entry → mark_at plan (stand_after p plan entry n) t ≡ true
  entry-stands k settled begun some n from to = elim (cases_Bool (mark_at plan (stand_after p plan entry n) t)) as (λ c. mark_at plan (stand_after p plan entry n) t ≡ true) [
    | inl there ↦ there
    | inr gone ↦ absurd (not-removed (stand_after p plan flow k) (stand-up p plan flow (at.settled flow) k settled) (stand-most p plan flow k) some (installed-since k begun some) n from to gone)
  ]
