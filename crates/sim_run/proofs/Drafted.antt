-- A script that was drawn: each of its acts happens, and it leads where the trial of these draws does.
use Rattle.std.proofs.Common.{◌≡◌, ℕ, zero, suc, ◌+◌, ◌<◌, ◌≤◌, ◌⊎◌, inl, inr, Bool, true, false, ◌&&◌, if◌then◌else◌, nat_le, nat_lt, List, [], ◌∷◌, ◌++◌, length, codes, decimal, Option, Some, None, refl, sym, ap, ap₂, ◌∙◌, subst, arith, append_assoc, length-append}
use Rattle.std.proofs.lemmas.Bool.{and_from, and_parts, cases_Bool, cases_lt, cond_both, cond-false, cond-true, leb-true, lt-ltb, ltb-true, or_from, or_left}
use Rattle.lists.proofs.Conditions.{and_second_false}
use Rattle.rand_pcg.specs.Lcg.{Lcg}
use Rattle.rollout_rules.specs.Wan.{Plan, Problem}
use Rattle.rollout_rules.specs.Network.{IsNetwork}
use Rattle.rollout_rules.specs.Valid.{is_valid_plan}
use Rattle.rollout_rules.specs.Legal.{unsettled}
use Rattle.rollout_rules.specs.declared.limits.TheConstants.{MOST_ACTS}
use Rattle.rollout_rules.specs.declared.op.OpView.{OpView}
use Rattle.rollout_rules.specs.declared.event.Act.{Act}
use Rattle.rollout_rules.specs.declared.event.Act.TheVariants as act
use Rattle.rollout_report.specs.Ends.{last_line, link_lines, table_lines}
use Rattle.sim_run.specs.Acts.{Rehearsal, acted, after_act, after_acts, can_happen, first_rehearsal}
use Rattle.sim_run.specs.Drafts.{Draft, EachHappens, IsDrawnScript, SaysFinished, Sketch, drained_draft, drawn_script, end_of, is_full, is_over, joined, joins, one_more, raised_draft, sketched, turned_draft, whole_draft, with_chosen}
use Rattle.sim_run.specs.Script.{act_lines, script_text}
use Rattle.sim_run.specs.Trials.{Drawn, Trial, after_trial, after_turn, all_operations, drained, end_of_trial, is_finished, next_act, raised, with_act}
use Rattle.sim_run.proofs.Drained.{trial-ends}
use Rattle.sim_run.proofs.Drawing.{behind}
use Rattle.sim_run.proofs.Schedules.{rehearsal-is_safe}

not-le : (a b : ℕ) → b < a → nat_le a b ≡ false
not-le a b less = elim (cases_Bool (nat_le a b)) as (λ _. nat_le a b ≡ false) [
  | inl le ↦ absurd (omega (arith, less, leb-true a b le))
  | inr above ↦ above
]

module _ (p : Problem) (plan : Plan) (policy : OpView → ℕ) where
  -- ---- each act happens
  abbrev each_happens : Rehearsal → List Act → Bool
  each_happens r [] = true
  each_happens r (a ∷ rest) = can_happen p r a && each_happens (after_act p plan policy r a) rest

  happens-behind : (r : Rehearsal) (acts : List Act) (a : Act) → each_happens r acts ≡ true → can_happen p (after_acts p plan policy r acts) a ≡ true → each_happens r (acts ++ a ∷ []) ≡ true
  happens-behind r [] a each can = and_from (can_happen p r a) true can refl
  happens-behind r (b ∷ rest) a each can =
      let both = and_parts (can_happen p r b) (each_happens (after_act p plan policy r b) rest) each in
      and_from (can_happen p r b) (each_happens (after_act p plan policy r b) (rest ++ a ∷ [])) both.0 (happens-behind (after_act p plan policy r b) rest a both.1 can)

  happens-at : (r : Rehearsal) (acts rest : List Act) (a : Act) → each_happens r (acts ++ a ∷ rest) ≡ true → can_happen p (after_acts p plan policy r acts) a ≡ true
  happens-at r [] rest a each = (and_parts (can_happen p r a) (each_happens (after_act p plan policy r a) rest) each).0
  happens-at r (b ∷ acts) rest a each =
      happens-at (after_act p plan policy r b) acts rest a (and_parts (can_happen p r b) (each_happens (after_act p plan policy r b) (acts ++ a ∷ rest)) each).1

  -- what is so of each draft: its rehearsal has done its acts, each of which happened, and there are no more than there may be
  record IsFaithful (d : Draft) : Type 0 where
    pub leads : d.rehearsal ≡ after_acts p plan policy (first_rehearsal p plan) d.acts
    pub each : each_happens (first_rehearsal p plan) d.acts ≡ true
    pub few : length d.acts ≤ MOST_ACTS

  -- a draft with an act more, which has been done
  abbrev longer : Draft → Act → Draft
  longer d a = record { acts = d.acts ++ a ∷ []; rehearsal = acted p plan policy d.rehearsal a }

  joined-true : (d : Draft) (a : Act) → IsFaithful d → IsFaithful (joined p plan policy d a)
  joined-true d a is =
      cond_both (joins p d a) (longer d a) d IsFaithful
      (λ can.
      let both = and_parts (nat_lt (length d.acts) MOST_ACTS) (can_happen p d.rehearsal a) can in
      record {
        leads = sym (cond-true (can_happen p d.rehearsal a) (acted p plan policy d.rehearsal a) d.rehearsal both.1)
            ∙ ap (λ (r : Rehearsal). after_act p plan policy r a) is.leads
            ∙ sym (behind p plan policy (first_rehearsal p plan) d.acts (a ∷ []));
        each = happens-behind (first_rehearsal p plan) d.acts a is.each (subst (λ (r : Rehearsal). can_happen p r a ≡ true) is.leads both.1);
        few = omega (arith, length-append d.acts (a ∷ []), ltb-true (length d.acts) MOST_ACTS both.0);
      }) (λ _. is)

  chosen-true : (d : Draft) (chosen : Option Act) → IsFaithful d → IsFaithful (with_chosen p plan policy d chosen)
  chosen-true d None is = is
  chosen-true d (Some a) is = joined-true d a is

  sketched-true : (draws : Lcg) (events : ℕ) → IsFaithful (sketched p plan policy draws events).draft
  sketched-true draws zero = record { leads = refl; each = refl; few = omega arith }
  sketched-true draws (suc events) =
      let s = sketched p plan policy draws events in
      chosen-true s.draft (next_act p s.draft.rehearsal.world s.draws).chosen (sketched-true draws events)

  raised-true : (d : Draft) → IsFaithful d → IsFaithful (raised_draft p plan policy d)
  raised-true d is = cond_both d.rehearsal.world.up d (joined p plan policy d act.Start) IsFaithful (λ _. is) (λ _. joined-true d act.Start is)

  turned-true : (d : Draft) → IsFaithful d → IsFaithful (turned_draft p plan policy d)
  turned-true d is = joined-true (joined p plan policy d act.All) act.Round (joined-true d act.All is)

  drained-true : (most : ℕ) (d : Draft) → IsFaithful d → IsFaithful (drained_draft p plan policy most d)
  drained-true zero d is = is
  drained-true (suc most) d is =
      cond_both (is_over p plan d) d (drained_draft p plan policy most (turned_draft p plan policy d)) IsFaithful
      (λ _. is) (λ _. drained-true most (turned_draft p plan policy d) (turned-true d is))

  whole-true : (draws : Lcg) (events : ℕ) → IsFaithful (whole_draft p plan policy draws events)
  unfolding whole_draft
  whole-true draws events =
      let d = (sketched p plan policy draws events).draft in
      drained-true (all_operations p plan + 1) (raised_draft p plan policy d) (raised-true d (sketched-true draws events))

  -- ---- a draft grows
  joined-longer : (d : Draft) (a : Act) → length d.acts ≤ length (joined p plan policy d a).acts
  joined-longer d a = cond_both (joins p d a) (longer d a) d (λ (e : Draft). length d.acts ≤ length e.acts) (λ _. omega (arith, length-append d.acts (a ∷ []))) (λ _. omega arith)

  chosen-longer : (d : Draft) (chosen : Option Act) → length d.acts ≤ length (with_chosen p plan policy d chosen).acts
  chosen-longer d None = omega arith
  chosen-longer d (Some a) = joined-longer d a

  raised-longer : (d : Draft) → length d.acts ≤ length (raised_draft p plan policy d).acts
  raised-longer d = cond_both d.rehearsal.world.up d (joined p plan policy d act.Start) (λ (e : Draft). length d.acts ≤ length e.acts) (λ _. omega arith) (λ _. joined-longer d act.Start)

  turned-longer : (d : Draft) → length d.acts ≤ length (turned_draft p plan policy d).acts
  turned-longer d = omega (arith, joined-longer d act.All, joined-longer (joined p plan policy d act.All) act.Round)

  drained-longer : (most : ℕ) (d : Draft) → length d.acts ≤ length (drained_draft p plan policy most d).acts
  drained-longer zero d = omega arith
  drained-longer (suc most) d =
      cond_both (is_over p plan d) d (drained_draft p plan policy most (turned_draft p plan policy d)) (λ (e : Draft). length d.acts ≤ length e.acts)
      (λ _. omega arith) (λ _. omega (arith, turned-longer d, drained-longer most (turned_draft p plan policy d)))

  -- ---- where there is room it leads where the trial does

  -- where there is room an act does what it does in a script
  joined-does : (d : Draft) (a : Act) → length d.acts < MOST_ACTS → (joined p plan policy d a).rehearsal ≡ after_act p plan policy d.rehearsal a
  joined-does d a room = elim (cases_Bool (can_happen p d.rehearsal a)) as (λ _. (joined p plan policy d a).rehearsal ≡ after_act p plan policy d.rehearsal a) [
    | inl can ↦
        ap (λ (e : Draft). e.rehearsal) (cond-true (joins p d a) (longer d a) d (and_from (nat_lt (length d.acts) MOST_ACTS) (can_happen p d.rehearsal a) (lt-ltb (length d.acts) MOST_ACTS room) can))
        ∙ sym (cond-true (can_happen p d.rehearsal a) (acted p plan policy d.rehearsal a) d.rehearsal can)
    | inr cannot ↦
        ap (λ (e : Draft). e.rehearsal) (cond-false (joins p d a) (longer d a) d (and_second_false (nat_lt (length d.acts) MOST_ACTS) (can_happen p d.rehearsal a) cannot))
        ∙ sym (cond-false (can_happen p d.rehearsal a) (acted p plan policy d.rehearsal a) d.rehearsal cannot)
  ]

  -- a draft is full, or its rehearsal is this one
  abbrev Follows : Draft → Rehearsal → Type 0
  Follows d r = (MOST_ACTS ≤ length d.acts) ⊎ (d.rehearsal ≡ r)

  joined-follows : (d : Draft) (r : Rehearsal) (a : Act) → Follows d r → Follows (joined p plan policy d a) (after_act p plan policy r a)
  joined-follows d r a (inl full) = inl (omega (arith, full, joined-longer d a))
  joined-follows d r a (inr same) = elim (cases_lt (length d.acts) MOST_ACTS) as (λ _. Follows (joined p plan policy d a) (after_act p plan policy r a)) [
    | inl room ↦ inr (joined-does d a room ∙ ap (λ (s : Rehearsal). after_act p plan policy s a) same)
    | inr full ↦ inl (omega (arith, full, joined-longer d a))
  ]

  chosen-follows : (d : Draft) (t : Trial) (chosen : Option Act) → d.rehearsal ≡ t.rehearsal → Follows (with_chosen p plan policy d chosen) (with_act p plan policy t chosen).rehearsal
  chosen-follows d t None same = inr same
  chosen-follows d t (Some a) same = joined-follows d t.rehearsal a (inr same)

  -- and as much is left to draw
  abbrev FollowsTrial : Sketch → Trial → Type 0
  FollowsTrial s t = (MOST_ACTS ≤ length s.draft.acts) ⊎ ((s.draft.rehearsal ≡ t.rehearsal) × (s.draws ≡ t.draws))

  sketch-follows : (draws : Lcg) (events : ℕ) → FollowsTrial (sketched p plan policy draws events) (after_trial p plan policy draws events)
  sketch-follows draws zero = inr (refl, refl)
  sketch-follows draws (suc events) =
      let s = sketched p plan policy draws events in
      let t = after_trial p plan policy draws events in
      one s t (sketch-follows draws events)
    where
      one : (s : Sketch) (t : Trial) → FollowsTrial s t → FollowsTrial (one_more p plan policy s) (record (with_act p plan policy t (next_act p t.rehearsal.world t.draws).chosen) { draws = (next_act p t.rehearsal.world t.draws).left })
      one s t (inl full) = inl (omega (arith, full, chosen-longer s.draft (next_act p s.draft.rehearsal.world s.draws).chosen))
      one s t (inr same) =
          let chosen = (next_act p s.draft.rehearsal.world s.draws).chosen in
          let nexts : next_act p s.draft.rehearsal.world s.draws ≡ next_act p t.rehearsal.world t.draws = ap₂ (λ (r : Rehearsal) (l : Lcg). next_act p r.world l) same.0 same.1 in
          let acts : (with_act p plan policy t chosen).rehearsal ≡ (with_act p plan policy t (next_act p t.rehearsal.world t.draws).chosen).rehearsal = ap (λ (n : Drawn). (with_act p plan policy t n.chosen).rehearsal) nexts in
          elim (chosen-follows s.draft t chosen same.0) as
          (λ _. FollowsTrial (one_more p plan policy s) (record (with_act p plan policy t (next_act p t.rehearsal.world t.draws).chosen) { draws = (next_act p t.rehearsal.world t.draws).left })) [
            | inl full ↦ inl full
            | inr is ↦ inr (is ∙ acts, ap (λ (n : Drawn). n.left) nexts)
          ]

  draft-follows : (s : Sketch) (t : Trial) → FollowsTrial s t → Follows s.draft t.rehearsal
  draft-follows s t (inl full) = inl full
  draft-follows s t (inr same) = inr same.0

  raised-follows : (d : Draft) (r : Rehearsal) → Follows d r → Follows (raised_draft p plan policy d) (raised p plan policy r)
  raised-follows d r (inl full) = inl (omega (arith, full, raised-longer d))
  raised-follows d r (inr same) = elim (cases_Bool d.rehearsal.world.up) as (λ _. Follows (raised_draft p plan policy d) (raised p plan policy r)) [
    | inl up ↦
        let also : r.world.up ≡ true = sym (ap (λ (s : Rehearsal). s.world.up) same) ∙ up in
        inr (ap (λ (e : Draft). e.rehearsal) (cond-true d.rehearsal.world.up d (joined p plan policy d act.Start) up) ∙ same ∙ sym (cond-true r.world.up r (after_act p plan policy r act.Start) also))
    | inr down ↦
        let also : r.world.up ≡ false = sym (ap (λ (s : Rehearsal). s.world.up) same) ∙ down in
        subst (λ (e : Draft). Follows e (raised p plan policy r)) (sym (cond-false d.rehearsal.world.up d (joined p plan policy d act.Start) down))
        (subst (λ (s : Rehearsal). Follows (joined p plan policy d act.Start) s) (sym (cond-false r.world.up r (after_act p plan policy r act.Start) also)) (joined-follows d r act.Start (inr same)))
  ]

  turned-follows : (d : Draft) (r : Rehearsal) → d.rehearsal ≡ r → Follows (turned_draft p plan policy d) (after_turn p plan policy r)
  turned-follows d r same = joined-follows (joined p plan policy d act.All) (after_act p plan policy r act.All) act.Round (joined-follows d r act.All (inr same))

  drained-follows : (most : ℕ) (d : Draft) (r : Rehearsal) → Follows d r → Follows (drained_draft p plan policy most d) (drained p plan policy most r)
  drained-follows zero d r follows = follows
  drained-follows (suc most) d r (inl full) = inl (omega (arith, full, drained-longer (suc most) d))
  drained-follows (suc most) d r (inr same) = elim (cases_Bool (is_finished p plan d.rehearsal)) as (λ _. Follows (drained_draft p plan policy (suc most) d) (drained p plan policy (suc most) r)) [
    | inl finished ↦
        let also : is_finished p plan r ≡ true = sym (ap (is_finished p plan) same) ∙ finished in
        let over : is_over p plan d ≡ true = or_left (is_finished p plan d.rehearsal) (is_full d) finished in
        inr (ap (λ (e : Draft). e.rehearsal) (cond-true (is_over p plan d) d (drained_draft p plan policy most (turned_draft p plan policy d)) over) ∙ same ∙ sym (cond-true (is_finished p plan r) r (drained p plan policy most (after_turn p plan policy r)) also))
    | inr unfinished ↦ elim (cases_lt (length d.acts) MOST_ACTS) as (λ _. Follows (drained_draft p plan policy (suc most) d) (drained p plan policy (suc most) r)) [
      | inr full ↦ inl (omega (arith, full, drained-longer (suc most) d))
      | inl room ↦
          let also : is_finished p plan r ≡ false = sym (ap (is_finished p plan) same) ∙ unfinished in
          let goes_on : is_over p plan d ≡ false = or_from (is_finished p plan d.rehearsal) (is_full d) unfinished (not-le MOST_ACTS (length d.acts) room) in
          subst (λ (e : Draft). Follows e (drained p plan policy (suc most) r)) (sym (cond-false (is_over p plan d) d (drained_draft p plan policy most (turned_draft p plan policy d)) goes_on))
          (subst (λ (s : Rehearsal). Follows (drained_draft p plan policy most (turned_draft p plan policy d)) s) (sym (cond-false (is_finished p plan r) r (drained p plan policy most (after_turn p plan policy r)) also))
          (drained-follows most (turned_draft p plan policy d) (after_turn p plan policy r) (turned-follows d r same)))
    ]
  ]

  whole-follows : (draws : Lcg) (events : ℕ) → Follows (whole_draft p plan policy draws events) (end_of_trial p plan policy draws events)
  unfolding whole_draft
  whole-follows draws events =
      let s = sketched p plan policy draws events in
      let t = after_trial p plan policy draws events in
      drained-follows (all_operations p plan + 1) (raised_draft p plan policy s.draft) (raised p plan policy t.rehearsal)
      (raised-follows s.draft t.rehearsal (draft-follows s t (sketch-follows draws events)))

  -- ---- so it is one that was drawn
  module _ (draws : Lcg) (events : ℕ) where
    abbrev script : List Act
    script = drawn_script p plan policy draws events

    pub script-few : length script ≤ MOST_ACTS
    script-few = (whole-true draws events).few

    script-happens : EachHappens p plan policy script
    script-happens = λ acts rest a is.
        happens-at (first_rehearsal p plan) acts rest a (subst (λ (all : List Act). each_happens (first_rehearsal p plan) all ≡ true) (sym is) (whole-true draws events).each)

    as-trial : length script < MOST_ACTS → end_of p plan policy script ≡ end_of_trial p plan policy draws events
    as-trial room = elim (whole-follows draws events) as (λ _. end_of p plan policy script ≡ end_of_trial p plan policy draws events) [
      | inl full ↦ absurd (omega (arith, full, room))
      | inr same ↦ sym (whole-true draws events).leads ∙ same
    ]

    -- the text of a script that ends finished says so
    says : (all : List Act) → is_finished p plan (end_of p plan policy all) ≡ true → SaysFinished (script_text p plan policy all)
    says all finished =
        let h = (end_of p plan policy all).world.durable in
        let left = unsettled p plan h in
        let lines = act_lines p plan policy 0 (first_rehearsal p plan) all in
        let peaks = link_lines p plan h (length p.links) ++ table_lines p plan h (length p.switches) in
        let said : last_line left ≡ codes "finished\n" = ap (λ (b : Bool). (if b then codes "finished" else codes "unfinished: " ++ decimal left) ++ codes "\n") finished in
        record {
          front = lines ++ peaks;
          is = ap (λ last. lines ++ (peaks ++ last)) said ∙ sym (append_assoc lines peaks (codes "finished\n"));
        }

    pub script-drawn : IsNetwork p → is_valid_plan p plan ≡ true → IsDrawnScript p plan policy draws events script
    script-drawn net valid = record {
      happens = script-happens;
      few = script-few;
      safe = rehearsal-is_safe p plan policy script net valid;
      as_trial = as-trial;
      finished = λ room free fits.
          says script (subst (λ (r : Rehearsal). is_finished p plan r ≡ true) (sym (as-trial room)) (trial-ends p plan policy net valid free draws events fits));
    }
