-- Chains go through ever later stages, so as many turns as there are stages after give the whole chain.
use Rattle.std.proofs.Common.{◌≡◌, ℕ, zero, suc, ◌+◌, ◌-◌, ◌<◌, ◌≤◌, max, length, nat_le, Bool, true, false, not, ◌&&◌, ◌==◌, nat_lt, if◌then◌else◌, refl, sym, ap₂, subst, inl, inr, arith, ltb-true, eqb-true}
use Rattle.std.proofs.lemmas.Bool.{and_parts, cases_lt}
use Rattle.lists.proofs.Conditions.{if_most}
use Rattle.rollout_rules.specs.Wan.{Problem, Plan, flow_at, tunnel_at, tunnel_of, hops, stage_at, rate_at, mark_at, last_stage}
use Rattle.rollout_rules.specs.Operations.{changes_behind}
use Rattle.rollout_rules.specs.Needs.{installed_since, idle_since}
use Rattle.rollout_rules.specs.Release.{most_below, needs_departure, chain_within, chain}
use Rattle.rollout_rules.specs.declared.item.Item.{Item}
use Rattle.rollout_rules.specs.declared.item.Item.TheVariants as item
use Rattle.rollout_rules.specs.Valid.{is_valid_plan, has_shape, begins_at_old, ends_at_new, fits_each_step, carries_what_flows, keeps_totals}
use Rattle.rollout_rules.specs.declared.limits.TheConstants.{MOST_STAGES, LARGEST_SCALE}
use Rattle.rollout_rules.proofs.Below.{all_below-at}
use Rattle.rollout_laws.proofs.Runs.{run_start-most, run_start-before}
use Rattle.rollout_laws.proofs.Validity.{plan-is_valid, carried-installed}
use Rattle.std.proofs.Math.ListN.{get_or-eq_default}

pub most-same : (n : ℕ) (f g : ℕ → ℕ) → ((k : ℕ) → k < n → f k ≡ g k) → most_below n f ≡ most_below n g
most-same zero f g same = refl
most-same (suc n) f g same = ap₂ max (most-same n f g (λ k lt. same k (omega (arith, lt)))) (same n (omega arith))

pub most-none : (n : ℕ) (f : ℕ → ℕ) → ((k : ℕ) → k < n → f k ≡ 0) → most_below n f ≡ 0
most-none zero f none = refl
most-none (suc n) f none = ap₂ max (most-none n f (λ k lt. none k (omega (arith, lt)))) (none n (omega arith))

pub where-same : (test : Bool) (x y : ℕ) → (test ≡ true → x ≡ y) → (if test then x else 0) ≡ (if test then y else 0)
where-same true x y same = same refl
where-same false x y same = refl

where-none : (test : Bool) (x : ℕ) → (test ≡ true → ⊥) → (if test then x else 0) ≡ 0
where-none true x none = absurd (none refl)
where-none false x none = refl

most-most : (n : ℕ) (f : ℕ → ℕ) (m : ℕ) → ((k : ℕ) → f k ≤ m) → most_below n f ≤ m
most-most zero f m all = omega arith
most-most (suc n) f m all = omega (arith, most-most n f m all, all n)

above : (m : ℕ) {x y : ℕ} → x ≤ m + 1 → y ≤ m + 1 → 1 + max x y ≤ suc m + 1
above m le more = omega (arith, le, more)

-- In a valid plan a tunnel that carries at a stage is installed at the stage before.
abbrev pub InstalledBefore : Plan → Type 0
InstalledBefore plan = (t u : ℕ) → u < last_stage plan → 0 < rate_at plan (u + 1) t → installed_since plan t (u + 1) ≤ u

module _ (p : Problem) (plan : Plan) (before : InstalledBefore plan) where
  -- each next operation of a chain stands at a later stage
  own-later : (i : Item) (s u : ℕ) → (nat_lt s u && changes_behind p plan i u) ≡ true → s < u
  own-later i s u e = ltb-true s u (and_parts (nat_lt s u) (changes_behind p plan i u) e).0

  departs-later : (i : Item) (t s u : ℕ) → (changes_behind p plan i u && needs_departure plan t s u) ≡ true → s < u
  departs-later i t s u e =
      let needs = (and_parts (changes_behind p plan i u) (needs_departure plan t s u) e).1 in
      let since = eqb-true (idle_since plan t u) (s + 1) (and_parts (not (mark_at plan (u + 1) t)) (idle_since plan t u == s + 1) needs).1 in
      omega (arith, since, run_start-most (λ v. rate_at plan v t == 0) u)

  arrives-later : (i : Item) (t s u : ℕ) → u < last_stage plan → (mark_at plan (s + 1) t && changes_behind p plan i u && nat_lt 0 (rate_at plan (u + 1) t) && (installed_since plan t (u + 1) == s + 1)) ≡ true → s < u
  arrives-later i t s u lt e =
      let last = and_parts (mark_at plan (s + 1) t && changes_behind p plan i u && nat_lt 0 (rate_at plan (u + 1) t)) (installed_since plan t (u + 1) == s + 1) e in
      let carries = ltb-true 0 (rate_at plan (u + 1) t) (and_parts (mark_at plan (s + 1) t && changes_behind p plan i u) (nat_lt 0 (rate_at plan (u + 1) t)) last.0).1 in
      omega (arith, eqb-true (installed_since plan t (u + 1)) (s + 1) last.1, before t u lt carries)

  -- from the last stage on there is the operation alone
  spent : (b : ℕ) (i : Item) (s : ℕ) → last_stage plan ≤ s → chain_within b p plan i s ≡ 1
  spent zero i s le = refl
  spent (suc b) (item.Flow f) s le = ap₂ (λ x y. 1 + max x y)
      (most-none (last_stage plan) _ (λ u lt. where-none _ _ (λ e. omega (arith, le, lt, own-later (item.Flow f) s u e))))
      (most-none (flow_at p f).tunnels _ (λ j jt. most-none (hops p (tunnel_of p f j)) _ (λ h ht. most-none (last_stage plan) _ (λ u lt.
      where-none _ _ (λ e. omega (arith, le, lt, departs-later (item.Entry (tunnel_of p f j) h) (tunnel_of p f j) s u e))))))
  spent (suc b) (item.Entry t h) s le = ap₂ (λ x y. 1 + max x y)
      (most-none (last_stage plan) _ (λ u lt. where-none _ _ (λ e. omega (arith, le, lt, own-later (item.Entry t h) s u e))))
      (most-none (last_stage plan) _ (λ u lt. where-none _ _ (λ e. omega (arith, le, lt, arrives-later (item.Flow (tunnel_at p t).flow) t s u lt e))))

  -- So more turns than there are stages after change nothing.
  pub enough : (a b : ℕ) (i : Item) (s : ℕ) → last_stage plan ≤ a + s → last_stage plan ≤ b + s → chain_within a p plan i s ≡ chain_within b p plan i s
  enough zero b i s many more = sym (spent b i s (omega (arith, many)))
  enough (suc a) zero i s many more = spent (suc a) i s (omega (arith, more))
  enough (suc a) (suc b) (item.Flow f) s many more = ap₂ (λ x y. 1 + max x y)
      (most-same (last_stage plan) _ _ (λ u lt. where-same _ _ _ (λ e. let up = own-later (item.Flow f) s u e in enough a b (item.Flow f) u (omega (arith, many, up)) (omega (arith, more, up)))))
      (most-same (flow_at p f).tunnels _ _ (λ j jt. most-same (hops p (tunnel_of p f j)) _ _ (λ h ht. most-same (last_stage plan) _ _ (λ u lt. where-same _ _ _ (λ e.
      let up = departs-later (item.Entry (tunnel_of p f j) h) (tunnel_of p f j) s u e in enough a b (item.Entry (tunnel_of p f j) h) u (omega (arith, many, up)) (omega (arith, more, up)))))))
  enough (suc a) (suc b) (item.Entry t h) s many more = ap₂ (λ x y. 1 + max x y)
      (most-same (last_stage plan) _ _ (λ u lt. where-same _ _ _ (λ e. let up = own-later (item.Entry t h) s u e in enough a b (item.Entry t h) u (omega (arith, many, up)) (omega (arith, more, up)))))
      (most-same (last_stage plan) _ _ (λ u lt. where-same _ _ _ (λ e.
      let up = arrives-later (item.Flow (tunnel_at p t).flow) t s u lt e in enough a b (item.Flow (tunnel_at p t).flow) u (omega (arith, many, up)) (omega (arith, more, up)))))

  -- The chain that begins with a flow's step from stage s on, by the chains of later steps.
  pub chain-flow : (f s : ℕ) → chain p plan (item.Flow f) s ≡ 1 + max
      (most_below (last_stage plan) (λ u. if nat_lt s u && changes_behind p plan (item.Flow f) u then chain p plan (item.Flow f) u else 0))
      (most_below (flow_at p f).tunnels (λ j. most_below (hops p (tunnel_of p f j)) (λ h. most_below (last_stage plan) (λ u.
      if changes_behind p plan (item.Entry (tunnel_of p f j) h) u && needs_departure plan (tunnel_of p f j) s u then chain p plan (item.Entry (tunnel_of p f j) h) u else 0))))
  chain-flow f s = enough (last_stage plan) (suc (last_stage plan)) (item.Flow f) s (omega arith) (omega arith)

  -- and the one that begins with an entry's
  pub chain-entry : (t h s : ℕ) → chain p plan (item.Entry t h) s ≡ 1 + max
      (most_below (last_stage plan) (λ u. if nat_lt s u && changes_behind p plan (item.Entry t h) u then chain p plan (item.Entry t h) u else 0))
      (most_below (last_stage plan) (λ u.
      if mark_at plan (s + 1) t && changes_behind p plan (item.Flow (tunnel_at p t).flow) u && nat_lt 0 (rate_at plan (u + 1) t) && (installed_since plan t (u + 1) == s + 1)
      then chain p plan (item.Flow (tunnel_at p t).flow) u else 0))
  chain-entry t h s = enough (last_stage plan) (suc (last_stage plan)) (item.Entry t h) s (omega arith) (omega arith)

  -- a chain goes through each stage once at most
  pub chain-most : (a : ℕ) (i : Item) (s : ℕ) → chain_within a p plan i s ≤ a + 1
  chain-most zero i s = omega arith
  chain-most (suc a) (item.Flow f) s = above a (most-most (last_stage plan) _ (a + 1) (λ u. if_most _ _ (a + 1) (chain-most a (item.Flow f) u)))
      (most-most (flow_at p f).tunnels _ (a + 1) (λ j. most-most (hops p (tunnel_of p f j)) _ (a + 1) (λ h. most-most (last_stage plan) _ (a + 1) (λ u. if_most _ _ (a + 1) (chain-most a (item.Entry (tunnel_of p f j) h) u)))))
  chain-most (suc a) (item.Entry t h) s = above a (most-most (last_stage plan) _ (a + 1) (λ u. if_most _ _ (a + 1) (chain-most a (item.Entry t h) u)))
      (most-most (last_stage plan) _ (a + 1) (λ u. if_most _ _ (a + 1) (chain-most a (item.Flow (tunnel_at p t).flow) u)))

pub installed-before : (p : Problem) (plan : Plan) → is_valid_plan p plan ≡ true → InstalledBefore plan
installed-before p plan valid t u lt carries = elim (cases_lt t (length p.tunnels)) as (λ c. installed_since plan t (u + 1) ≤ u) [
  | inl known ↦
      let behind : u + 1 - 1 ≡ u = omega arith in
      run_start-before (λ s. mark_at plan s t) u (subst (λ s. mark_at plan s t ≡ true) behind (carried-installed p plan (plan-is_valid p plan valid) (u + 1) t (omega (arith, lt)) known carries).before)
  | inr unknown ↦
      let none : rate_at plan (u + 1) t ≡ 0 = get_or-eq_default (stage_at plan (u + 1)).rates 0 (omega (arith, unknown, rates)) in
      absurd (omega (arith, none, carries))
]
  where
    rates : length (stage_at plan (u + 1)).rates ≡ length p.tunnels
    rates =
        let a = and_parts (has_shape p plan && begins_at_old p plan && ends_at_new p plan && fits_each_step p plan && carries_what_flows p plan) (keeps_totals p plan) valid in
        let b = and_parts (has_shape p plan && begins_at_old p plan && ends_at_new p plan && fits_each_step p plan) (carries_what_flows p plan) a.0 in
        let c = and_parts (has_shape p plan && begins_at_old p plan && ends_at_new p plan) (fits_each_step p plan) b.0 in
        let d = and_parts (has_shape p plan && begins_at_old p plan) (ends_at_new p plan) c.0 in
        let e = and_parts (has_shape p plan) (begins_at_old p plan) d.0 in
        let rows = and_parts (nat_le 1 plan.scale && nat_le plan.scale LARGEST_SCALE && nat_le 1 (length plan.stages) && nat_le (length plan.stages) MOST_STAGES) _ e.0 in
        let row = all_below-at (length plan.stages) _ rows.1 (u + 1) (omega (arith, lt, (plan-is_valid p plan valid).stages)) in
        eqb-true (length (stage_at plan (u + 1)).rates) (length p.tunnels) (and_parts (length (stage_at plan (u + 1)).rates == length p.tunnels) (length (stage_at plan (u + 1)).installed == length p.tunnels) row).0
