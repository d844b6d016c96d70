-- A trial so far is the script of the acts that were drawn, and with its drain it is a script, too.
use Rattle.std.proofs.Common.{◌≡◌, ℕ, zero, suc, List, [], ◌∷◌, ◌++◌, Option, Some, None, inl, inr, refl, sym, ap, ◌+◌, ◌∙◌, arith}
use Rattle.std.proofs.lemmas.Bool.{cases_Bool}
use Rattle.rand_pcg.specs.Lcg.{Lcg}
use Rattle.rollout_rules.specs.Wan.{Plan, Problem}
use Rattle.rollout_rules.specs.declared.op.OpView.{OpView}
use Rattle.rollout_rules.specs.declared.event.Act.{Act}
use Rattle.sim_run.specs.Acts.{Rehearsal, after_act, after_acts, first_rehearsal}
use Rattle.sim_run.specs.Trials.{Trial, after_trial, after_turn, all_operations, drain_acts, drained, end_of_trial, is_finished, next_act, raised, raising, trial_script, turn_acts, turns, with_act}

module _ (p : Problem) (plan : Plan) (policy : OpView → ℕ) where
  -- acts after others
  pub behind : (r : Rehearsal) (acts more : List Act) → after_acts p plan policy r (acts ++ more) ≡ after_acts p plan policy (after_acts p plan policy r acts) more
  behind r [] more = refl
  behind r (b ∷ rest) more = behind (after_act p plan policy r b) rest more

  abbrev IsScript : Trial → Type 0
  IsScript t = t.rehearsal ≡ after_acts p plan policy (first_rehearsal p plan) t.acts

  goes_on : (t : Trial) (chosen : Option Act) → IsScript t → IsScript (with_act p plan policy t chosen)
  goes_on t None is = is
  goes_on t (Some a) is = ap (λ (r : Rehearsal). after_act p plan policy r a) is ∙ sym (behind (first_rehearsal p plan) t.acts (a ∷ []))

  pub is_script : (draws : Lcg) (events : ℕ) → IsScript (after_trial p plan policy draws events)
  is_script draws zero = refl
  is_script draws (suc events) =
      let t = after_trial p plan policy draws events in
      goes_on t (next_act p t.rehearsal.world t.draws).chosen (is_script draws events)

  raising-is : (r : Rehearsal) → after_acts p plan policy r (raising r) ≡ raised p plan policy r
  raising-is r = elim (cases_Bool r.world.up) as (λ _. after_acts p plan policy r (raising r) ≡ raised p plan policy r) [
    | inl up ↦ rw up refl
    | inr down ↦ rw down refl
  ]

  turns-are : (most : ℕ) (r : Rehearsal) → after_acts p plan policy r (turn_acts (turns p plan policy most r)) ≡ drained p plan policy most r
  turns-are zero r = refl
  turns-are (suc most) r = elim (cases_Bool (is_finished p plan r)) as (λ _. after_acts p plan policy r (turn_acts (turns p plan policy (suc most) r)) ≡ drained p plan policy (suc most) r) [
    | inl finished ↦ rw finished refl
    | inr some ↦
        let one : 1 + turns p plan policy most (after_turn p plan policy r) ≡ suc (turns p plan policy most (after_turn p plan policy r)) = omega arith in
        rw (some, one) (turns-are most (after_turn p plan policy r))
  ]

  drain-is : (most : ℕ) (r : Rehearsal) → after_acts p plan policy r (drain_acts p plan policy most r) ≡ drained p plan policy most (raised p plan policy r)
  drain-is most r =
      let acts = turn_acts (turns p plan policy most (raised p plan policy r)) in
      behind r (raising r) acts ∙ ap (λ (s : Rehearsal). after_acts p plan policy s acts) (raising-is r) ∙ turns-are most (raised p plan policy r)

  pub is_whole_script : (draws : Lcg) (events : ℕ) → end_of_trial p plan policy draws events ≡ after_acts p plan policy (first_rehearsal p plan) (trial_script p plan policy draws events)
  is_whole_script draws events =
      let t = after_trial p plan policy draws events in
      let most = all_operations p plan + 1 in
      sym (behind (first_rehearsal p plan) t.acts (drain_acts p plan policy most t.rehearsal)
      ∙ ap (λ (s : Rehearsal). after_acts p plan policy s (drain_acts p plan policy most t.rehearsal)) (sym (is_script draws events))
      ∙ drain-is most t.rehearsal)
