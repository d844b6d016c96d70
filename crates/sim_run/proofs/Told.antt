-- The text of a trial, put together.
use Rattle.std.proofs.Common.{◌≡◌, ℕ, ◌+◌, List, [], ◌++◌, codes, length, refl, sym, ap, ap₂, ◌∙◌, append_assoc}
use Rattle.rand_pcg.specs.Lcg.{Lcg}
use Rattle.rollout_rules.specs.Wan.{Plan, Problem}
use Rattle.rollout_rules.specs.History.{History}
use Rattle.rollout_rules.specs.declared.op.OpView.{OpView}
use Rattle.rollout_rules.specs.Legal.{unsettled}
use Rattle.rollout_report.specs.Ends.{last_line}
use Rattle.sim_run.specs.declared.shape.Shape.{Shape}
use Rattle.sim_run.specs.Rehearsing.{Rehearsing}
use Rattle.sim_run.specs.Trials.{after_trial, all_operations, drained, raised, turns}
use Rattle.sim_run.specs.TrialText.{counts_line, events_line, fullest, fullest_text, outcome_lines, plan_line, shape_line, trial_text}

module _ (first : Rehearsing) (policy : OpView → ℕ) (rate_steps : ℕ) (s : Shape) (draws : Lcg) where
  abbrev drained_of : Rehearsing → Rehearsing
  drained_of r = record r { state = drained r.rollout.problem r.rollout.plan policy (all_operations r.rollout.problem r.rollout.plan + 1) (raised r.rollout.problem r.rollout.plan policy r.state) }

  abbrev turns_of : Rehearsing → ℕ
  turns_of r = turns r.rollout.problem r.rollout.plan policy (all_operations r.rollout.problem r.rollout.plan + 1) (raised r.rollout.problem r.rollout.plan policy r.state)

  abbrev outcome_of : Rehearsing → List ℕ
  outcome_of r = outcome_lines r.rollout.problem r.rollout.plan r.state.world.durable

  abbrev tried : Rehearsing
  tried = record first { state = (after_trial first.rollout.problem first.rollout.plan policy draws s.events).rehearsal }

  abbrev skipped_of : ℕ
  skipped_of = (after_trial first.rollout.problem first.rollout.plan policy draws s.events).skipped

  unfolded : (shape_line s ++ plan_line first.rollout.plan rate_steps) ++ (events_line s.events skipped_of (turns_of tried) ++ outcome_of (drained_of tried))
      ≡ trial_text first.rollout.problem first.rollout.plan rate_steps policy s draws
  unfolding trial_text
  unfolded = refl

  pub told : (begin shaped planned evented text : List ℕ) (r last : Rehearsing) (skipped made : ℕ) → begin ≡ [] → shaped ≡ begin ++ shape_line s → planned ≡ shaped ++ plan_line first.rollout.plan rate_steps
      → r ≡ tried → skipped ≡ skipped_of → last ≡ drained_of r → made ≡ turns_of r
      → evented ≡ planned ++ events_line s.events skipped made → text ≡ evented ++ outcome_of last
      → text ≡ trial_text first.rollout.problem first.rollout.plan rate_steps policy s draws
  told begin shaped planned evented text r last skipped made empty shape plan done skips ends turned events outcome =
      let head : planned ≡ shape_line s ++ plan_line first.rollout.plan rate_steps = plan ∙ ap (λ t. t ++ plan_line first.rollout.plan rate_steps) (shape ∙ ap (λ t. t ++ shape_line s) empty) in
      let happened : evented ≡ (shape_line s ++ plan_line first.rollout.plan rate_steps) ++ events_line s.events skipped_of (turns_of tried) =
      events ∙ ap₂ (λ t k. t ++ events_line s.events k made) head skips
      ∙ ap (λ k. (shape_line s ++ plan_line first.rollout.plan rate_steps) ++ events_line s.events skipped_of k) (turned ∙ ap turns_of done) in
      outcome ∙ ap₂ (λ t q. t ++ outcome_of q) happened (ends ∙ ap drained_of done)
      ∙ append_assoc (shape_line s ++ plan_line first.rollout.plan rate_steps) (events_line s.events skipped_of (turns_of tried)) (outcome_of (drained_of tried))
      ∙ unfolded

-- ---- the lines after a rollout
five : (t c k f n l : List ℕ) → (((t ++ c) ++ k) ++ (f ++ n)) ++ l ≡ t ++ ((((c ++ k) ++ f) ++ n) ++ l)
five t c k f n l =
    ap (λ x. x ++ l) (sym (append_assoc ((t ++ c) ++ k) f n))
    ∙ ap (λ x. ((x ++ f) ++ n) ++ l) (append_assoc t c k) ∙ ap (λ x. (x ++ n) ++ l) (append_assoc t (c ++ k) f)
    ∙ ap (λ x. x ++ l) (append_assoc t ((c ++ k) ++ f) n) ∙ append_assoc t (((c ++ k) ++ f) ++ n) l

pub outcome_told : (p : Problem) (plan : Plan) (h : History) (t first second third last full : List ℕ) (count entries left : ℕ)
    → count ≡ all_operations p plan → entries ≡ length h.entries → full ≡ fullest_text p plan h (fullest p plan h (length p.links)) → left ≡ unsettled p plan h
    → first ≡ t ++ counts_line count entries → second ≡ first ++ codes "fullest link: " → third ≡ second ++ (full ++ codes "\n") → last ≡ third ++ last_line left → last ≡ t ++ outcome_lines p plan h
outcome_told p plan h t first second third last full count entries left ec ee ef el e1 e2 e3 e4 =
    e4
    ∙ ap₂ (λ x n. x ++ last_line n)
    (e3 ∙ ap₂ (λ x f. x ++ (f ++ codes "\n")) (e2 ∙ ap (λ x. x ++ codes "fullest link: ") (e1 ∙ ap₂ (λ a b. t ++ counts_line a b) ec ee)) ef)
    el
    ∙ five t (counts_line (all_operations p plan) (length h.entries)) (codes "fullest link: ") (fullest_text p plan h (fullest p plan h (length p.links))) (codes "\n") (last_line (unsettled p plan h))
