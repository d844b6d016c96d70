-- A drain goes on turn by turn.
use Rattle.std.proofs.Common.{◌≡◌, ℕ, zero, suc, ◌+◌, ◌-◌, ◌<◌, ◌≤◌, true, false, refl, sym, ap, ◌∙◌, arith}
use Rattle.rollout_rules.specs.Wan.{Plan, Problem}
use Rattle.rollout_rules.specs.declared.op.OpView.{OpView}
use Rattle.sim_run.specs.Acts.{Rehearsal}
use Rattle.sim_run.specs.Rehearsing.{Rehearsing}
use Rattle.sim_run.specs.Trials.{after_turn, all_operations, drained, is_finished, raised, turns}

module _ (p : Problem) (plan : Plan) (policy : OpView → ℕ) where
  pub drained-no_more : (k : ℕ) (r : Rehearsal) → is_finished p plan r ≡ true → drained p plan policy k r ≡ r
  drained-no_more zero r finished = refl
  drained-no_more (suc k) r finished = rw finished refl

  turns-no_more : (k : ℕ) (r : Rehearsal) → is_finished p plan r ≡ true → turns p plan policy k r ≡ 0
  turns-no_more zero r finished = refl
  turns-no_more (suc k) r finished = rw finished refl

  pub drained-more : (k : ℕ) (r : Rehearsal) → is_finished p plan r ≡ false → drained p plan policy (suc k) r ≡ drained p plan policy k (after_turn p plan policy r)
  drained-more k r unfinished = rw unfinished refl

  turns-more : (k : ℕ) (r : Rehearsal) → is_finished p plan r ≡ false → turns p plan policy (suc k) r ≡ 1 + turns p plan policy k (after_turn p plan policy r)
  turns-more k r unfinished = rw unfinished refl

abbrev drained_from : (OpView → ℕ) → ℕ → Rehearsing → Rehearsal
drained_from policy most r = drained r.rollout.problem r.rollout.plan policy most r.state

abbrev turns_from : (OpView → ℕ) → ℕ → Rehearsing → ℕ
turns_from policy most r = turns r.rollout.problem r.rollout.plan policy most r.state

-- after so many turns what is left of the drain leads to where all of it does
pub record IsDraining (policy : OpView → ℕ) (most : ℕ) (first : Rehearsing) (made : ℕ) (r : Rehearsing) : Type 0 where
  pub rollout : r.rollout ≡ first.rollout
  pub live : r.live ≡ first.live
  pub state : drained_from policy (most - made) r ≡ drained_from policy most first
  pub turns : made + turns_from policy (most - made) r ≡ turns_from policy most first
  pub within : made ≤ most

-- what a drain leads to, and its turns
pub record IsDrained (policy : OpView → ℕ) (most : ℕ) (first : Rehearsing) (made : ℕ) (r : Rehearsing) : Type 0 where
  pub state : r ≡ record first { state = drained_from policy most first }
  pub turns : made ≡ turns_from policy most first

module _ (policy : OpView → ℕ) (most : ℕ) (first : Rehearsing) where
  pub before : IsDraining policy most first 0 first
  before =
      let all : most - 0 ≡ most = omega arith in
      record { rollout = refl; live = refl; state = ap (λ k. drained_from policy k first) all; turns = omega (arith, ap (λ k. turns_from policy k first) all); within = omega arith }

  module _ (made : ℕ) (r : Rehearsing) (was : IsDraining policy most first made r) where
    pub turns-on : made < most → is_finished r.rollout.problem r.rollout.plan r.state ≡ false → (s : Rehearsing) → s ≡ record r { state = after_turn r.rollout.problem r.rollout.plan policy r.state } → IsDraining policy most first (made + 1) s
    turns-on lt unfinished s done =
        let left : most - made ≡ suc (most - (made + 1)) = omega (arith, lt) in
        let state : drained_from policy (most - (made + 1)) s ≡ drained_from policy (most - made) r =
        ap (drained_from policy (most - (made + 1))) done
        ∙ sym (drained-more r.rollout.problem r.rollout.plan policy (most - (made + 1)) r.state unfinished)
        ∙ ap (λ k. drained_from policy k r) (sym left) in
        let one : 1 + turns_from policy (most - (made + 1)) s ≡ turns_from policy (most - made) r =
        ap (λ (q : Rehearsing). 1 + turns_from policy (most - (made + 1)) q) done
        ∙ sym (turns-more r.rollout.problem r.rollout.plan policy (most - (made + 1)) r.state unfinished)
        ∙ ap (λ k. turns_from policy k r) (sym left) in
        record {
          rollout = ap (λ (q : Rehearsing). q.rollout) done ∙ was.rollout;
          live = ap (λ (q : Rehearsing). q.live) done ∙ was.live;
          state = state ∙ was.state;
          turns = omega (arith, one, was.turns);
          within = omega (arith, lt);
        }

    ends : drained_from policy (most - made) r ≡ r.state → turns_from policy (most - made) r ≡ 0 → IsDrained policy most first made r
    ends state none = record {
      state = (λ k. record { rollout = was.rollout k; state = (sym state ∙ was.state) k; live = was.live k });
      turns = omega (arith, none, was.turns);
    }

    pub ends-finished : is_finished r.rollout.problem r.rollout.plan r.state ≡ true → IsDrained policy most first made r
    ends-finished finished =
        ends (drained-no_more r.rollout.problem r.rollout.plan policy (most - made) r.state finished) (turns-no_more r.rollout.problem r.rollout.plan policy (most - made) r.state finished)

    pub ends-spent : made ≡ most → IsDrained policy most first made r
    ends-spent all =
        let none : most - made ≡ 0 = omega (arith, all) in
        ends (ap (λ k. drained_from policy k r) none) (ap (λ k. turns_from policy k r) none)

-- ---- all of a drain
abbrev raised_from : (OpView → ℕ) → Rehearsing → Rehearsing
raised_from policy r = record r { state = raised r.rollout.problem r.rollout.plan policy r.state }

abbrev operations_of : Rehearsing → ℕ
operations_of r = all_operations r.rollout.problem r.rollout.plan

module _ (policy : OpView → ℕ) (first r : Rehearsing) (count : ℕ) (up : r ≡ raised_from policy first) (all : count ≡ operations_of r) where
  pub drained-whole : (last : Rehearsing) → last ≡ record r { state = drained_from policy (count + 1) r } → last ≡ record first { state = drained_from policy (operations_of first + 1) (raised_from policy first) }
  drained-whole last is =
      is ∙ ap (λ k. record r { state = drained_from policy (k + 1) r }) all
      ∙ ap (λ (s : Rehearsing). record s { state = drained_from policy (operations_of s + 1) s }) up

  pub turns-whole : (made : ℕ) → made ≡ turns_from policy (count + 1) r → made ≡ turns_from policy (operations_of first + 1) (raised_from policy first)
  turns-whole made is =
      is ∙ ap (λ k. turns_from policy (k + 1) r) all ∙ ap (λ (s : Rehearsing). turns_from policy (operations_of s + 1) s) up
