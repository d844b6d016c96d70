-- A trial goes on event by event.
use Rattle.std.proofs.Common.{◌≡◌, ℕ, suc, ◌+◌, ◌≤◌, Option, Some, None, refl, sym, ap, ap₂, ◌∙◌, subst, arith}
use Rattle.rand_pcg.specs.Lcg.{Lcg}
use Rattle.rollout_rules.specs.declared.op.OpView.{OpView}
use Rattle.rollout_rules.specs.declared.event.Act.{Act}
use Rattle.sim_run.specs.Acts.{Rehearsal, after_act, first_rehearsal}
use Rattle.sim_run.specs.Rehearsing.{Rehearsing}
use Rattle.sim_run.specs.Trying.{HasTried, after_chosen, skips}
use Rattle.sim_run.specs.Trials.{Drawn, Trial, after_trial, next_act, with_act, with_drawn}
use Rattle.sim_run.proofs.Newest.{trial-few, IsFew}

-- a trial after its first so many events
abbrev pub trial_at : (OpView → ℕ) → Rehearsing → Lcg → ℕ → Trial
trial_at policy first draws k = after_trial first.rollout.problem first.rollout.plan policy draws k

module _ (policy : OpView → ℕ) (r : Rehearsing) (draws left : Lcg) (rest : left ≡ (next_act r.rollout.problem r.state.world draws).left) where
  pub did-act : (a : Act) → Some a ≡ (next_act r.rollout.problem r.state.world draws).chosen → (s : Rehearsing) → s ≡ record r { state = after_act r.rollout.problem r.rollout.plan policy r.state a } → (skipped : ℕ) → skipped ≡ 0
      → HasTried policy r draws s left skipped
  did-act a is s done skipped none = record {
    rehearsal = done ∙ ap (λ o. record r { state = after_chosen r.rollout.problem r.rollout.plan policy r.state o }) is;
    rest = rest;
    skip = none ∙ ap skips is;
  }

  pub did-nothing : None ≡ (next_act r.rollout.problem r.state.world draws).chosen → HasTried policy r draws r left 1
  did-nothing is = record {
    rehearsal = ap (λ o. record r { state = after_chosen r.rollout.problem r.rollout.plan policy r.state o }) is;
    rest = rest;
    skip = ap skips is;
  }

pub record IsTrying (policy : OpView → ℕ) (first : Rehearsing) (draws : Lcg) (k : ℕ) (r : Rehearsing) (left : Lcg) (skipped : ℕ) : Type 0 where
  pub rehearsal : r ≡ record first { state = (trial_at policy first draws k).rehearsal }
  pub rest : left ≡ (trial_at policy first draws k).draws
  pub skip : skipped ≡ (trial_at policy first draws k).skipped
  pub few : skipped ≤ k

skips-few : (chosen : Option Act) → skips chosen ≤ 1
skips-few None = omega arith
skips-few (Some a) = omega arith

module _ (policy : OpView → ℕ) (first : Rehearsing) (draws : Lcg) where
  pub at_first : first.state ≡ first_rehearsal first.rollout.problem first.rollout.plan → IsTrying policy first draws 0 first draws 0
  at_first is = record { rehearsal = ap (λ (s : Rehearsal). record first { state = s }) is; rest = refl; skip = refl; few = omega arith }

  -- one event more, of the trial itself
  more-rehearsal : (t : Trial) (next : Drawn) → (with_drawn first.rollout.problem first.rollout.plan policy t next).rehearsal ≡ after_chosen first.rollout.problem first.rollout.plan policy t.rehearsal next.chosen
  more-rehearsal t next = of next.chosen
    where
      of : (chosen : Option Act) → (with_act first.rollout.problem first.rollout.plan policy t chosen).rehearsal ≡ after_chosen first.rollout.problem first.rollout.plan policy t.rehearsal chosen
      of None = refl
      of (Some a) = refl

  more-skipped : (t : Trial) (next : Drawn) → (with_drawn first.rollout.problem first.rollout.plan policy t next).skipped ≡ t.skipped + skips next.chosen
  more-skipped t next = of next.chosen
    where
      of : (chosen : Option Act) → (with_act first.rollout.problem first.rollout.plan policy t chosen).skipped ≡ t.skipped + skips chosen
      of None = refl
      of (Some a) = omega arith

  module _ (k : ℕ) (r : Rehearsing) (left : Lcg) (skipped : ℕ) (was : IsTrying policy first draws k r left skipped) where
    pub few-sent : IsFew r.state.world k
    few-sent = subst (λ (s : Rehearsing). IsFew s.state.world k) (sym was.rehearsal) (trial-few first.rollout.problem first.rollout.plan policy draws k)

    -- what is drawn next, of the trial itself
    abbrev drawn_now : Drawn
    drawn_now = next_act r.rollout.problem r.state.world left

    abbrev so_far : Trial
    so_far = trial_at policy first draws k

    abbrev drawn_then : Drawn
    drawn_then = next_act first.rollout.problem so_far.rehearsal.world so_far.draws

    same : drawn_now ≡ drawn_then
    same = ap₂ (λ (s : Rehearsing) (l : Lcg). next_act s.rollout.problem s.state.world l) was.rehearsal was.rest

    one : k + 1 ≡ suc k
    one = omega arith

    more : trial_at policy first draws (k + 1) ≡ with_drawn first.rollout.problem first.rollout.plan policy so_far drawn_then
    more = ap (trial_at policy first draws) one

    pub tries-on : (s : Rehearsing) (left' : Lcg) (more_skipped : ℕ) → HasTried policy r left s left' more_skipped → IsTrying policy first draws (k + 1) s left' (skipped + more_skipped)
    tries-on s left' more_skipped did = record {
      rehearsal = did.rehearsal
          ∙ ap₂ (λ (q : Rehearsing) (d : Drawn). record q { state = after_chosen q.rollout.problem q.rollout.plan policy q.state d.chosen }) was.rehearsal same
          ∙ ap (λ (x : Rehearsal). record first { state = x }) (sym (more-rehearsal so_far drawn_then))
          ∙ ap (λ (t : Trial). record first { state = t.rehearsal }) (sym more);
      rest = did.rest ∙ ap (λ (d : Drawn). d.left) same ∙ ap (λ (t : Trial). t.draws) (sym more);
      skip = ap₂ (λ a b. a + b) was.skip (did.skip ∙ ap (λ (d : Drawn). skips d.chosen) same) ∙ sym (more-skipped so_far drawn_then) ∙ ap (λ (t : Trial). t.skipped) (sym more);
      few = omega (arith, was.few, did.skip, skips-few drawn_now.chosen);
    }
