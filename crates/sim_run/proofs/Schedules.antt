-- A script's worlds are those of a schedule.
use Rattle.std.proofs.Common.{◌≡◌, if◌then◌else◌, ℕ, zero, suc, ◌-◌, ◌<◌, inl, inr, List, [], ◌∷◌, true, refl, ap, sym, ◌∙◌, subst, arith, eq-eqb, eqb-true, ◌==◌}
use Rattle.std.proofs.lemmas.Bool.{cases_Bool, cases_lt, eqb-false}
use Rattle.rollout_rules.specs.Sums.{sum_below}
use Rattle.rollout_rules.specs.Wan.{Problem, Plan}
use Rattle.rollout_rules.specs.Network.{IsNetwork}
use Rattle.rollout_rules.specs.Items.{item_count, item_at}
use Rattle.rollout_rules.specs.Operations.{operations}
use Rattle.rollout_rules.specs.History.{History, settled}
use Rattle.rollout_rules.specs.Legal.{is_legal, is_finished, unsettled}
use Rattle.rollout_rules.specs.Valid.{is_valid_plan}
use Rattle.rollout_rules.specs.World.{new_world, after_events}
use Rattle.rollout_rules.specs.declared.op.OpView.{OpView}
use Rattle.rollout_rules.specs.declared.event.Act.{Act}
use Rattle.rollout_rules.proofs.Below.{all_below-at, all_below-from, sum_below-zero}
use Rattle.rollout_laws.specs.SafeWorlds.{NetworkAtTarget}
use Rattle.rollout_laws.proofs.Histories.{is_counted}
use Rattle.rollout_laws.proofs.SafeWorlds.{new_world_is_safe}
use Rattle.rollout_laws.proofs.Targets.{new_network_at_target}
use Rattle.rollout_laws.proofs.Worlds.{after_events-append, every_new_world_is_kept}
use Rattle.rollout_report.proofs.Fullness.{link-fits, table-fits}
use Rattle.sim_run.specs.Acts.{Rehearsal, first_rehearsal, can_happen, events_of, after_act, after_acts}
use Rattle.sim_run.specs.Rehearsed.{schedule_of, world_after, IsSafeRehearsal}

-- what is added up to 0 is 0
sum-nothing : (n : ℕ) (f : ℕ → ℕ) → sum_below n f ≡ 0 → (k : ℕ) → k < n → f k ≡ 0
sum-nothing zero f e k lt = absurd (omega arith)
sum-nothing (suc n) f e k lt = elim (cases_lt k n) as (λ c. f k ≡ 0) [
  | inl below ↦ sum-nothing n f (omega (arith, e)) k below
  | inr at ↦ let here : k ≡ n = omega arith in rw here (omega (arith, e))
]

module _ (p : Problem) (plan : Plan) where
  -- a history with nothing unsettled is finished
  settled-finished : (h : History) → is_legal p plan h ≡ true → unsettled p plan h ≡ 0 → is_finished p plan h ≡ true
  settled-finished h legal none =
      all_below-from (item_count p) _
      (λ n lt.
      let counted = is_counted p plan h legal n in
      let left = sum-nothing (item_count p) (λ n. operations p plan (item_at p n) - settled h n) none n lt in
      eq-eqb (settled h n) (operations p plan (item_at p n)) (omega (arith, counted.settled_begun, counted.exist lt, left)))

  -- so these are the same
  pub finished-is : (h : History) → is_legal p plan h ≡ true → is_finished p plan h ≡ (unsettled p plan h == 0)
  finished-is h legal = elim (cases_Bool (unsettled p plan h == 0)) as (λ _. is_finished p plan h ≡ (unsettled p plan h == 0)) [
    | inl none ↦ settled-finished h legal (eqb-true (unsettled p plan h) 0 none) ∙ sym none
    | inr some ↦ elim (cases_Bool (is_finished p plan h)) as (λ _. is_finished p plan h ≡ (unsettled p plan h == 0)) [
      | inl all ↦ absurd (eqb-false (unsettled p plan h) 0 some (finished-settled h all))
      | inr unfinished ↦ unfinished ∙ sym some
    ]
  ]
    where
      finished-settled : (h : History) → is_finished p plan h ≡ true → unsettled p plan h ≡ 0
      finished-settled h all =
          sum_below-zero (item_count p) (λ n. operations p plan (item_at p n) - settled h n)
          (λ n lt. let same = eqb-true (settled h n) (operations p plan (item_at p n)) (all_below-at (item_count p) (λ n. settled h n == operations p plan (item_at p n)) all n lt) in omega (arith, same))

module _ (p : Problem) (plan : Plan) (policy : OpView → ℕ) where
  act-scheduled : (r : Rehearsal) (a : Act) → (after_act p plan policy r a).world ≡ after_events p plan r.world (if can_happen p r a then events_of p plan policy r a else [])
  act-scheduled r a = elim (cases_Bool (can_happen p r a)) as (λ c. (after_act p plan policy r a).world ≡ after_events p plan r.world (if can_happen p r a then events_of p plan policy r a else [])) [
    | inl can ↦ rw can refl
    | inr cannot ↦ rw cannot refl
  ]

  pub acts-scheduled : (r : Rehearsal) (script : List Act) → (after_acts p plan policy r script).world ≡ after_events p plan r.world (schedule_of p plan policy r script)
  acts-scheduled r [] = refl
  acts-scheduled r (a ∷ rest) =
      acts-scheduled (after_act p plan policy r a) rest
      ∙ ap (λ w. after_events p plan w (schedule_of p plan policy (after_act p plan policy r a) rest)) (act-scheduled r a)
      ∙ sym (after_events-append p plan r.world (if can_happen p r a then events_of p plan policy r a else []) (schedule_of p plan policy (after_act p plan policy r a) rest))

  module _ (script : List Act) where
    script-scheduled : world_after p plan policy script ≡ after_events p plan (new_world p plan) (schedule_of p plan policy (first_rehearsal p plan) script)
    script-scheduled = acts-scheduled (first_rehearsal p plan) script

    script-legal : is_valid_plan p plan ≡ true → is_legal p plan (world_after p plan policy script).durable ≡ true
    script-legal valid =
        subst (λ w. is_legal p plan w.durable ≡ true) (sym script-scheduled)
        (every_new_world_is_kept p plan (schedule_of p plan policy (first_rehearsal p plan) script) valid).legal

    script-finished : IsNetwork p → is_valid_plan p plan ≡ true → is_finished p plan (world_after p plan policy script).durable ≡ true → NetworkAtTarget p plan (world_after p plan policy script)
    script-finished net valid =
        subst (λ w. is_finished p plan w.durable ≡ true → NetworkAtTarget p plan w) (sym script-scheduled)
        (new_network_at_target p plan (schedule_of p plan policy (first_rehearsal p plan) script) net valid)

    pub rehearsal-is_safe : IsNetwork p → is_valid_plan p plan ≡ true → IsSafeRehearsal p plan policy script
    rehearsal-is_safe net valid = record {
      worlds = λ acts rest e. acts-scheduled (first_rehearsal p plan) acts;
      safe = new_world_is_safe p plan (schedule_of p plan policy (first_rehearsal p plan) script) net valid;
      links = link-fits p plan (world_after p plan policy script).durable net valid (script-legal valid);
      tables = table-fits p plan (world_after p plan policy script).durable net valid (script-legal valid);
      finished = λ none. script-finished net valid (settled-finished p plan (world_after p plan policy script).durable (script-legal valid) none);
    }
