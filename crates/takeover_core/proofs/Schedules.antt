-- One event more of a schedule of both worlds.
use Rattle.std.proofs.Common.{◌≡◌, ℕ, ◌+◌, ◌<◌, List, [], ◌∷◌, ◌++◌, length, get_or, take, refl, sym, ap, ◌∙◌}
use Rattle.std.proofs.lemmas.List.{take_more}
use Rattle.rollout_rules.specs.Wan.{Problem, Plan, Rollout}
use Rattle.takeover_rules.specs.Takeovers.{Takeover, after_two_event, after_two_events}
use Rattle.takeover_rules.specs.declared.event.TwoEvent.{TwoEvent}
use Rattle.takeover_core.specs.Standings.{Taking}

-- the takeover of a rollout after a schedule, from a first one
pub record IsAfter (r : Rollout) (first : Takeover) (es : List TwoEvent) (s : Taking) : Type 0 where
  pub rollout : s.rollout ≡ r
  pub takeover : s.takeover ≡ after_two_events r.problem r.plan first es

after-append : (p : Problem) (plan : Plan) (t : Takeover) (es fs : List TwoEvent) → after_two_events p plan t (es ++ fs) ≡ after_two_events p plan (after_two_events p plan t es) fs
after-append p plan t [] fs = refl
after-append p plan t (e ∷ es) fs = after-append p plan (after_two_event p plan t e) es fs

pub one_event_more : (r : Rollout) (first : Takeover) (es : List TwoEvent) (i : ℕ) (e : TwoEvent) (s next : Taking) → i < length es → e ≡ get_or es i e → IsAfter r first (take i es) s
    → next ≡ record s { takeover = after_two_event s.rollout.problem s.rollout.plan s.takeover e } → IsAfter r first (take (i + 1) es) next
one_event_more r first es i e s next inside there so_far happened = record {
  rollout = ap (λ (t : Taking). t.rollout) happened ∙ so_far.rollout;
  takeover =
      ap (λ (t : Taking). t.takeover) happened
      ∙ ap (λ (q : Rollout). after_two_event q.problem q.plan s.takeover e) so_far.rollout
      ∙ (λ k. after_two_event r.problem r.plan (so_far.takeover k) (there k))
      ∙ sym (ap (after_two_events r.problem r.plan first) (take_more es i e inside) ∙ after-append r.problem r.plan first (take i es) (get_or es i e ∷ []));
}
