-- A chain goes on with the longest one ahead.
use Rattle.std.proofs.Common.{◌≡◌, ℕ, zero, suc, ◌+◌, ◌<◌, ◌≤◌, max, length, nat_le, Bool, true, false, not, ◌&&◌, ◌==◌, nat_lt, if◌then◌else◌, refl, sym, ap, ap₂, ◌∙◌, subst, inl, inr, arith, le-leb, le-ltb, lt-ltb, eqb-true, leb-true, ltb-true}
use Rattle.std.proofs.lemmas.Bool.{lt-leb, and_parts, and_right, cases_lt, cases_Bool}
use Rattle.rollout_rules.specs.Wan.{Problem, Plan, flow_at, tunnel_at, tunnel_of, hops, rate_at, mark_at, last_stage}
use Rattle.rollout_rules.specs.Network.{IsNetwork}
use Rattle.rollout_rules.specs.Operations.{run_start, changes_behind}
use Rattle.rollout_rules.specs.Needs.{installed_since, idle_since}
use Rattle.rollout_rules.specs.Release.{most_below, needs_departure, chain_within, chain}
use Rattle.rollout_rules.specs.declared.item.Item.{Item}
use Rattle.rollout_rules.specs.declared.item.Item.TheVariants as item
use Rattle.rollout_rules.specs.Valid.{is_valid_plan, has_shape, begins_at_old, ends_at_new, fits_each_step, carries_what_flows, keeps_totals}
use Rattle.rollout_rules.specs.declared.limits.TheConstants.{MOST_STAGES, LARGEST_SCALE}
use Rattle.rollout_rules.proofs.Tunnels.{tunnel_of-below}
use Rattle.rollout_laws.proofs.Validity.{plan-is_valid}
use Rattle.rollout_laws.proofs.Runs.{run_start-most, run_start-passes}
use Rattle.dependency_graph.specs.Chains.{longest_from, longest_own, longest_departure, longest_arrival, is_removed, is_entered}
use Rattle.dependency_graph.proofs.EnoughTurns.{InstalledBefore, most-same, where-same, chain-flow, chain-entry, chain-most, installed-before}
use Rattle.dependency_graph.proofs.LongestFrom.{most-const, longest-run, longest-step}

-- the run in which every stage passes begins at stage 0
all-run : (u : ℕ) → run_start (λ k. true) u ≡ 0
all-run zero = refl
all-run (suc u) = all-run u

and-true : (a : Bool) (x : ℕ) → (if true && a then x else 0) ≡ (if true && a && true then x else 0)
and-true true x = refl
and-true false x = refl

pub own-ahead : (last : ℕ) (counts : ℕ → Bool) (number : ℕ → ℕ) (s : ℕ) → most_below last (λ u. if nat_lt s u && counts u then number u else 0) ≡ longest_from last (λ u. true) counts number (s + 1)
own-ahead last counts number s = most-same last _ _ (λ u low. each u)
  where
    each : (u : ℕ) → (if nat_lt s u && counts u then number u else 0) ≡ (if nat_le (s + 1) u && counts u && nat_le (run_start (λ k. true) u) (s + 1) then number u else 0)
    each u = elim (cases_lt s u) as (λ c. (if nat_lt s u && counts u then number u else 0) ≡ (if nat_le (s + 1) u && counts u && nat_le (run_start (λ k. true) u) (s + 1) then number u else 0)) [
      | inl past ↦
          let a = lt-ltb s u past in
          let b = le-leb (s + 1) u (omega (arith, past)) in
          let c = le-leb (run_start (λ k. true) u) (s + 1) (omega (arith, all-run u)) in
          rw (a, b, c) (and-true (counts u) (number u))
      | inr low ↦
          let a = le-ltb s u low in
          let b = lt-leb (s + 1) u (omega (arith, low)) in
          rw (a, b) refl
    ]

and-assoc : (a b c : Bool) → (a && (b && c)) ≡ (a && b && c)
and-assoc true b c = refl
and-assoc false b c = refl

where-is : (a b : Bool) (x y : ℕ) → a ≡ b → (b ≡ true → x ≡ y) → (if a then x else 0) ≡ (if b then y else 0)
where-is a b x y e same = rw e (where-same b x y same)

module _ (p : Problem) (plan : Plan) where
  -- all entries of a tunnel have the same chains
  entry-within : (a t h s : ℕ) → chain_within a p plan (item.Entry t h) s ≡ chain_within a p plan (item.Entry t 0) s
  entry-within zero t h s = refl
  entry-within (suc a) t h s = ap (λ x. 1 + max x (most_below (last_stage plan) (λ u.
      if mark_at plan (s + 1) t && changes_behind p plan (item.Flow (tunnel_at p t).flow) u && nat_lt 0 (rate_at plan (u + 1) t) && (installed_since plan t (u + 1) == s + 1)
      then chain_within a p plan (item.Flow (tunnel_at p t).flow) u else 0)))
      (most-same (last_stage plan) _ _ (λ u lt. where-same (nat_lt s u && changes_behind p plan (item.Entry t 0) u) _ _ (λ e. entry-within a t h u)))

  pub chain-same : (t h s : ℕ) → chain p plan (item.Entry t h) s ≡ chain p plan (item.Entry t 0) s
  chain-same t h s = entry-within (last_stage plan) t h s

  module _ (before : InstalledBefore plan) where
    pub chain-few : (i : Item) (s : ℕ) → chain p plan i s ≤ last_stage plan + 1
    chain-few i s = chain-most p plan before (last_stage plan) i s

    pub departures-ahead : (t s : ℕ) → 0 < hops p t → most_below (hops p t) (λ h. most_below (last_stage plan) (λ u.
        if changes_behind p plan (item.Entry t h) u && needs_departure plan t s u then chain p plan (item.Entry t h) u else 0)) ≡ (if not (rate_at plan s t == 0) then longest_departure p plan t (s + 1) else 0)
    departures-ahead t s some =
        most-same (hops p t) _ (λ h. most_below (last_stage plan) (λ u. if is_removed p plan t u && (idle_since plan t u == s + 1) then chain p plan (item.Entry t 0) u else 0))
        (λ h lt. most-same (last_stage plan) _ _ (λ u low. where-is (changes_behind p plan (item.Entry t 0) u && needs_departure plan t s u) (is_removed p plan t u && (idle_since plan t u == s + 1)) _ _
        (and-assoc (changes_behind p plan (item.Entry t 0) u) (not (mark_at plan (u + 1) t)) (idle_since plan t u == s + 1)) (λ e. chain-same t h u)))
        ∙ most-const (hops p t) _ some
        ∙ longest-run (last_stage plan) (λ u. rate_at plan u t == 0) (is_removed p plan t) (chain p plan (item.Entry t 0)) s

    pub chain-of_flow : (f s : ℕ) → ((j : ℕ) → j < (flow_at p f).tunnels → 0 < hops p (tunnel_of p f j)) → chain p plan (item.Flow f) s ≡ 1 + max (longest_own p plan (item.Flow f) (s + 1))
        (most_below (flow_at p f).tunnels (λ j. if not (rate_at plan s (tunnel_of p f j) == 0) then longest_departure p plan (tunnel_of p f j) (s + 1) else 0))
    chain-of_flow f s some = chain-flow p plan before f s ∙ ap₂ (λ x y. 1 + max x y)
        (own-ahead (last_stage plan) (changes_behind p plan (item.Flow f)) (chain p plan (item.Flow f)) s)
        (most-same (flow_at p f).tunnels _ _ (λ j lt. departures-ahead (tunnel_of p f j) s (some j lt)))

    arrival : (t s u : ℕ) → u < last_stage plan → (mark_at plan (s + 1) t && changes_behind p plan (item.Flow (tunnel_at p t).flow) u && nat_lt 0 (rate_at plan (u + 1) t) && (installed_since plan t (u + 1) == s + 1)) ≡ (is_entered p plan t u && (run_start (λ k. mark_at plan k t) u == s + 1))
    arrival t s u low = elim (cases_Bool (nat_lt 0 (rate_at plan (u + 1) t))) as (λ c. (mark_at plan (s + 1) t && changes_behind p plan (item.Flow (tunnel_at p t).flow) u && nat_lt 0 (rate_at plan (u + 1) t) && (installed_since plan t (u + 1) == s + 1)) ≡ (is_entered p plan t u && (run_start (λ k. mark_at plan k t) u == s + 1))) [
      | inr idle ↦ none (mark_at plan (s + 1) t) (changes_behind p plan (item.Flow (tunnel_at p t).flow) u) (nat_lt 0 (rate_at plan (u + 1) t)) (installed_since plan t (u + 1) == s + 1) (run_start (λ k. mark_at plan k t) u == s + 1) idle
      | inl carries ↦
          let from = before t u low (ltb-true 0 (rate_at plan (u + 1) t) carries) in
          let here = run_start-passes (λ k. mark_at plan k t) (u + 1) u from (omega arith) in
          let same = start (λ k. mark_at plan k t) u here in
          some (mark_at plan (s + 1) t) (changes_behind p plan (item.Flow (tunnel_at p t).flow) u) (nat_lt 0 (rate_at plan (u + 1) t)) (installed_since plan t (u + 1) == s + 1) (run_start (λ k. mark_at plan k t) u == s + 1)
          (ap (λ n. n == s + 1) same) (λ e. there here (eqb-true (run_start (λ k. mark_at plan k t) u) (s + 1) e))
    ]
      where
        none : (m c r a b : Bool) → r ≡ false → (m && c && r && a) ≡ (c && r && b)
        none true true true a b e = absurd (clash e)
          where
            clash : true ≡ false → ⊥
            clash q = cc
        none true true false a b e = refl
        none true false r a b e = refl
        none false true true a b e = absurd (clash e)
          where
            clash : true ≡ false → ⊥
            clash q = cc
        none false true false a b e = refl
        none false false r a b e = refl

        some : (m c r a b : Bool) → a ≡ b → (b ≡ true → m ≡ true) → (m && c && r && a) ≡ (c && r && b)
        some m c r a true e up = let q = up refl in rw (q, e) refl
        some m c r a false e up = rw e (and_right (m && c && r) false refl ∙ sym (and_right (c && r) false refl))

        start : (run : ℕ → Bool) (u : ℕ) → run u ≡ true → run_start run (u + 1) ≡ run_start run u
        start run u e = let up : u + 1 ≡ suc u = omega arith in rw (up, e) refl

        there : mark_at plan u t ≡ true → run_start (λ k. mark_at plan k t) u ≡ s + 1 → mark_at plan (s + 1) t ≡ true
        there here e = elim (cases_lt (s + 1) u) as (λ c. mark_at plan (s + 1) t ≡ true) [
          | inl less ↦ run_start-passes (λ k. mark_at plan k t) u (s + 1) (omega (arith, e)) less
          | inr more ↦ let at : u ≡ s + 1 = omega (arith, e, more, run_start-most (λ k. mark_at plan k t) u) in subst (λ k. mark_at plan k t ≡ true) at here
        ]

    pub chain-of_entry : (t s : ℕ) → chain p plan (item.Entry t 0) s ≡ 1 + max (longest_own p plan (item.Entry t 0) (s + 1)) (if not (mark_at plan s t) then longest_arrival p plan t (s + 1) else 0)
    chain-of_entry t s = chain-entry p plan before t 0 s ∙ ap₂ (λ x y. 1 + max x y)
        (own-ahead (last_stage plan) (changes_behind p plan (item.Entry t 0)) (chain p plan (item.Entry t 0)) s)
        (most-same (last_stage plan) _ (λ u. if is_entered p plan t u && (run_start (λ k. mark_at plan k t) u == s + 1) then chain p plan (item.Flow (tunnel_at p t).flow) u else 0)
        (λ u low. where-is _ _ _ _ (arrival t s u low) (λ e. refl))
        ∙ longest-run (last_stage plan) (λ u. mark_at plan u t) (is_entered p plan t) (chain p plan (item.Flow (tunnel_at p t).flow)) s)

-- What is ahead of one stage is what is ahead of the next, or begins there.
turned : (a b : Bool) (x : ℕ) → (if a && b then x else 0) ≡ (if b then (if a then x else 0) else 0)
turned true true x = refl
turned true false x = refl
turned false true x = refl
turned false false x = refl

pub own-step : (p : Problem) (plan : Plan) (i : Item) (s : ℕ) → s < last_stage plan → longest_own p plan i s ≡ max (if changes_behind p plan i s then chain p plan i s else 0) (longest_own p plan i (s + 1))
own-step p plan i s lt = longest-step (last_stage plan) (λ u. true) (changes_behind p plan i) (chain p plan i) s lt

pub departure-step : (p : Problem) (plan : Plan) (t s : ℕ) → s < last_stage plan → longest_departure p plan t s ≡ max
    (if not (mark_at plan (s + 1) t) then (if changes_behind p plan (item.Entry t 0) s then chain p plan (item.Entry t 0) s else 0) else 0)
    (if rate_at plan s t == 0 then longest_departure p plan t (s + 1) else 0)
departure-step p plan t s lt =
    longest-step (last_stage plan) (λ u. rate_at plan u t == 0) (is_removed p plan t) (chain p plan (item.Entry t 0)) s lt
    ∙ ap (λ x. max x (if rate_at plan s t == 0 then longest_departure p plan t (s + 1) else 0)) (turned (changes_behind p plan (item.Entry t 0) s) (not (mark_at plan (s + 1) t)) (chain p plan (item.Entry t 0) s))

pub arrival-step : (p : Problem) (plan : Plan) (t s : ℕ) → s < last_stage plan → longest_arrival p plan t s ≡ max
    (if nat_lt 0 (rate_at plan (s + 1) t) then (if changes_behind p plan (item.Flow (tunnel_at p t).flow) s then chain p plan (item.Flow (tunnel_at p t).flow) s else 0) else 0)
    (if mark_at plan s t then longest_arrival p plan t (s + 1) else 0)
arrival-step p plan t s lt =
    longest-step (last_stage plan) (λ u. mark_at plan u t) (is_entered p plan t) (chain p plan (item.Flow (tunnel_at p t).flow)) s lt
    ∙ ap (λ x. max x (if mark_at plan s t then longest_arrival p plan t (s + 1) else 0)) (turned (changes_behind p plan (item.Flow (tunnel_at p t).flow) s) (nat_lt 0 (rate_at plan (s + 1) t)) (chain p plan (item.Flow (tunnel_at p t).flow) s))

-- A chain is short.
pub last-few : (p : Problem) (plan : Plan) → is_valid_plan p plan ≡ true → last_stage plan < MOST_STAGES
last-few p plan valid =
    let a = and_parts (has_shape p plan && begins_at_old p plan && ends_at_new p plan && fits_each_step p plan && carries_what_flows p plan) (keeps_totals p plan) valid in
    let b = and_parts (has_shape p plan && begins_at_old p plan && ends_at_new p plan && fits_each_step p plan) (carries_what_flows p plan) a.0 in
    let c = and_parts (has_shape p plan && begins_at_old p plan && ends_at_new p plan) (fits_each_step p plan) b.0 in
    let d = and_parts (has_shape p plan && begins_at_old p plan) (ends_at_new p plan) c.0 in
    let e = and_parts (has_shape p plan) (begins_at_old p plan) d.0 in
    let rows = and_parts (nat_le 1 plan.scale && nat_le plan.scale LARGEST_SCALE && nat_le 1 (length plan.stages) && nat_le (length plan.stages) MOST_STAGES) _ e.0 in
    let many = leb-true (length plan.stages) MOST_STAGES (and_parts (nat_le 1 plan.scale && nat_le plan.scale LARGEST_SCALE && nat_le 1 (length plan.stages)) (nat_le (length plan.stages) MOST_STAGES) rows.0).1 in
    omega (arith, many, (plan-is_valid p plan valid).stages)

-- a path has a switch
pub hops-some : (p : Problem) (f : ℕ) → IsNetwork p → f < length p.flows → (j : ℕ) → j < (flow_at p f).tunnels → 0 < hops p (tunnel_of p f j)
hops-some p f net lt j few = omega (arith, (net.tunnels (tunnel_of p f j) (tunnel_of-below p f j net lt few)).path.least)

pub flow-is : (p : Problem) (plan : Plan) (f s j own most : ℕ) → IsNetwork p → is_valid_plan p plan ≡ true → f < length p.flows → j ≡ (flow_at p f).tunnels
    → own ≡ longest_own p plan (item.Flow f) (s + 1)
    → most ≡ max own (most_below j (λ k. if not (rate_at plan s (tunnel_of p f k) == 0) then longest_departure p plan (tunnel_of p f k) (s + 1) else 0))
    → most + 1 ≡ chain p plan (item.Flow f) s
flow-is p plan f s j own most net valid lt end ahead is =
    let all = is ∙ ap₂ (λ a n. max a (most_below n (λ k. if not (rate_at plan s (tunnel_of p f k) == 0) then longest_departure p plan (tunnel_of p f k) (s + 1) else 0))) ahead end in
    omega (arith, all, chain-of_flow p plan (installed-before p plan valid) f s (hops-some p f net lt))

pub flow-few : (p : Problem) (plan : Plan) (f s n : ℕ) → is_valid_plan p plan ≡ true → n ≡ chain p plan (item.Flow f) s → n ≤ MOST_STAGES
flow-few p plan f s n valid is = omega (arith, is, chain-few p plan (installed-before p plan valid) (item.Flow f) s, last-few p plan valid)
