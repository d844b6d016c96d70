-- A draft in code goes on act by act.
use Rattle.std.proofs.Common.{◌≡◌, ℕ, zero, suc, ◌+◌, ◌-◌, ◌<◌, ◌≤◌, true, false, nat_lt, List, [], ◌∷◌, ◌++◌, length, Option, Some, None, Ok, refl, sym, ap, ap₂, ◌∙◌, subst, arith}
use Rattle.std.proofs.lemmas.Bool.{and_parts, cond-false, cond-true}
use Rattle.rand_pcg.specs.Lcg.{Lcg}
use Rattle.rollout_rules.specs.Wan.{Plan, Problem, Rollout}
use Rattle.rollout_rules.specs.declared.limits.TheConstants.{MOST_ACTS}
use Rattle.rollout_rules.specs.declared.op.OpView.{OpView}
use Rattle.rollout_rules.specs.declared.event.Act.{Act}
use Rattle.rollout_rules.specs.declared.event.Act.TheVariants as act
use Rattle.case_gen.specs.Draws.{seeded}
use Rattle.sim_run.specs.Acts.{Rehearsal, acted, can_happen, first_rehearsal}
use Rattle.sim_run.specs.Drafts.{Draft, HasDrafted, HasSketched, Sketch, draft_in, drained_draft, drawn_script, is_over, joined, joins, one_more, raised_draft, sketched, turned_draft, whole_draft, whole_of, with_chosen}
use Rattle.sim_run.specs.DrawnFor.{IsScriptFor}
use Rattle.sim_run.specs.Rehearsing.{Rehearsing}
use Rattle.sim_run.specs.Trials.{all_operations, next_act}
use Rattle.sim_run.specs.declared.script_shape.ScriptShape.{ScriptShape}
use Rattle.sim_run.proofs.Drafted.{script-few}
use Rattle.sim_run.proofs.Newest.{IsFew, sketch-few}

-- drafts in a row
module _ (first : Rehearsing) (d : Draft) (r : Rehearsing) (acts : List Act) (one : HasDrafted first d r acts) where
  pub drafted-live : r.live ≡ first.live
  drafted-live = ap (λ (q : Rehearsing). q.live) one.rehearsal

  pub drafted-on : (next : Rollout → Draft → Draft) (s : Rehearsing) (more : List Act) → HasDrafted r (next r.rollout (draft_in r acts)) s more → HasDrafted first (next first.rollout d) s more
  drafted-on next s more two =
      let same : next r.rollout (draft_in r acts) ≡ next first.rollout d = ap₂ (λ (q : Rehearsing) (list : List Act). next q.rollout (draft_in q list)) one.rehearsal one.script in
      record {
        rehearsal = two.rehearsal ∙ ap₂ (λ (q : Rehearsing) (e : Draft). record q { state = e.rehearsal }) one.rehearsal same;
        script = two.script ∙ ap (λ (e : Draft). e.acts) same;
      }

  pub drafted-is : (other : Draft) → d ≡ other → HasDrafted first other r acts
  drafted-is other same = subst (λ (e : Draft). HasDrafted first e r acts) same one

-- nothing was done
pub nothing-drafted : (r : Rehearsing) (acts : List Act) → HasDrafted r (draft_in r acts) r acts
nothing-drafted r acts = record { rehearsal = refl; script = refl }

-- a script by its slice
pub over-in : (r : Rehearsing) (acts list : List Act) → list ≡ acts → is_over r.rollout.problem r.rollout.plan (draft_in r acts) ≡ is_over r.rollout.problem r.rollout.plan (draft_in r list)
over-in r acts list is = ap (λ (l : List Act). is_over r.rollout.problem r.rollout.plan (draft_in r l)) (sym is)

pub joins-in : (r : Rehearsing) (acts list : List Act) (a : Act) → list ≡ acts → joins r.rollout.problem (draft_in r acts) a ≡ joins r.rollout.problem (draft_in r list) a
joins-in r acts list a is = ap (λ (l : List Act). joins r.rollout.problem (draft_in r l) a) (sym is)

pub joins-happens : (p : Problem) (d : Draft) (a : Act) → joins p d a ≡ true → can_happen p d.rehearsal a ≡ true
joins-happens p d a can = (and_parts (nat_lt (length d.acts) MOST_ACTS) (can_happen p d.rehearsal a) can).1

module _ (policy : OpView → ℕ) where
  abbrev pub joining : Act → Rollout → Draft → Draft
  joining a o d = joined o.problem o.plan policy d a

  abbrev pub raising : Rollout → Draft → Draft
  raising o d = raised_draft o.problem o.plan policy d

  abbrev pub turning : Rollout → Draft → Draft
  turning o d = turned_draft o.problem o.plan policy d

  abbrev pub draining : ℕ → Rollout → Draft → Draft
  draining most o d = drained_draft o.problem o.plan policy most d

  abbrev pub ending : Rollout → Draft → Draft
  ending o d = drained_draft o.problem o.plan policy (all_operations o.problem o.plan + 1) d

  -- ---- an act
  module _ (r : Rehearsing) (acts : List Act) (a : Act) where
    abbrev with_it : Draft
    with_it = record { acts = acts ++ a ∷ []; rehearsal = acted r.rollout.problem r.rollout.plan policy r.state a }

    pub act-joins : joins r.rollout.problem (draft_in r acts) a ≡ true → (s : Rehearsing) (more : List Act)
        → HasDrafted r (record { acts = acts ++ a ∷ []; rehearsal = acted r.rollout.problem r.rollout.plan policy r.state a }) s more → HasDrafted r (joining a r.rollout (draft_in r acts)) s more
    act-joins can s more did =
        drafted-is r _ s more did (joining a r.rollout (draft_in r acts))
        (sym (cond-true (joins r.rollout.problem (draft_in r acts) a) with_it (draft_in r acts) can))

    pub act-stays-out : joins r.rollout.problem (draft_in r acts) a ≡ false → HasDrafted r (joining a r.rollout (draft_in r acts)) r acts
    act-stays-out cannot =
        drafted-is r _ r acts (nothing-drafted r acts) (joining a r.rollout (draft_in r acts))
        (sym (cond-false (joins r.rollout.problem (draft_in r acts) a) with_it (draft_in r acts) cannot))

  -- ---- what is drawn for an event
  module _ (r : Rehearsing) (acts : List Act) (draws left : Lcg) (rest : left ≡ (next_act r.rollout.problem r.state.world draws).left) where
    drawn-is : (chosen : Option Act) → chosen ≡ (next_act r.rollout.problem r.state.world draws).chosen → (s : Rehearsing) (more : List Act) → HasDrafted r (with_chosen r.rollout.problem r.rollout.plan policy (draft_in r acts) chosen) s more
        → HasSketched r (one_more r.rollout.problem r.rollout.plan policy (record { draft = draft_in r acts; draws = draws })) s more left
    drawn-is chosen is s more did = record {
      draft = drafted-is r _ s more did _ (ap (with_chosen r.rollout.problem r.rollout.plan policy (draft_in r acts)) is);
      left = rest;
    }

    pub chosen-act : (a : Act) → Some a ≡ (next_act r.rollout.problem r.state.world draws).chosen → (s : Rehearsing) (more : List Act) → HasDrafted r (joining a r.rollout (draft_in r acts)) s more
        → HasSketched r (one_more r.rollout.problem r.rollout.plan policy (record { draft = draft_in r acts; draws = draws })) s more left
    chosen-act a is s more did = drawn-is (Some a) is s more did

    pub chosen-nothing : None ≡ (next_act r.rollout.problem r.state.world draws).chosen → HasSketched r (one_more r.rollout.problem r.rollout.plan policy (record { draft = draft_in r acts; draws = draws })) r acts left
    chosen-nothing is = drawn-is None is r acts (nothing-drafted r acts)

  -- ---- a controller that is down starts
  module _ (r : Rehearsing) (acts : List Act) where
    pub starts : r.state.world.up ≡ false → (s : Rehearsing) (more : List Act) → HasDrafted r (joining act.Start r.rollout (draft_in r acts)) s more → HasDrafted r (raising r.rollout (draft_in r acts)) s more
    starts down s more did =
        drafted-is r _ s more did (raising r.rollout (draft_in r acts)) (sym (cond-false r.state.world.up (draft_in r acts) (joining act.Start r.rollout (draft_in r acts)) down))

    pub stays-up : r.state.world.up ≡ true → HasDrafted r (raising r.rollout (draft_in r acts)) r acts
    stays-up up =
        drafted-is r _ r acts (nothing-drafted r acts) (raising r.rollout (draft_in r acts)) (sym (cond-true r.state.world.up (draft_in r acts) (joining act.Start r.rollout (draft_in r acts)) up))

  -- ---- turn by turn
  abbrev drafted_from : ℕ → Rehearsing → List Act → Draft
  drafted_from most r acts = draining most r.rollout (draft_in r acts)

  drained-stays : (p : Problem) (plan : Plan) (most : ℕ) (d : Draft) → is_over p plan d ≡ true → drained_draft p plan policy most d ≡ d
  drained-stays p plan zero d over = refl
  drained-stays p plan (suc most) d over = cond-true (is_over p plan d) d (drained_draft p plan policy most (turned_draft p plan policy d)) over

  drained-goes_on : (p : Problem) (plan : Plan) (most : ℕ) (d : Draft) → is_over p plan d ≡ false → drained_draft p plan policy (suc most) d ≡ drained_draft p plan policy most (turned_draft p plan policy d)
  drained-goes_on p plan most d more = cond-false (is_over p plan d) d (drained_draft p plan policy most (turned_draft p plan policy d)) more

  -- after so many turns what is left of the drain leads to where all of it does
  pub record IsTurning (most : ℕ) (first : Rehearsing) (begin : List Act) (made : ℕ) (r : Rehearsing) (acts : List Act) : Type 0 where
    pub rollout : r.rollout ≡ first.rollout
    pub live : r.live ≡ first.live
    pub draft : drafted_from (most - made) r acts ≡ drafted_from most first begin
    pub within : made ≤ most

  module _ (most : ℕ) (first : Rehearsing) (begin : List Act) where
    pub before : IsTurning most first begin 0 first begin
    before = let all : most - 0 ≡ most = omega arith in record { rollout = refl; live = refl; draft = ap (λ k. drafted_from k first begin) all; within = omega arith }

    module _ (made : ℕ) (r : Rehearsing) (acts : List Act) (was : IsTurning most first begin made r acts) where
      pub turns-on : made < most → is_over r.rollout.problem r.rollout.plan (draft_in r acts) ≡ false → (s : Rehearsing) (more : List Act) → HasDrafted r (turning r.rollout (draft_in r acts)) s more
          → IsTurning most first begin (made + 1) s more
      turns-on lt goes_on s more did =
          let left : most - made ≡ suc (most - (made + 1)) = omega (arith, lt) in
          record {
            rollout = ap (λ (q : Rehearsing). q.rollout) did.rehearsal ∙ was.rollout;
            live = ap (λ (q : Rehearsing). q.live) did.rehearsal ∙ was.live;
            draft = ap₂ (λ (q : Rehearsing) (list : List Act). drafted_from (most - (made + 1)) q list) did.rehearsal did.script
                ∙ sym (drained-goes_on r.rollout.problem r.rollout.plan (most - (made + 1)) (draft_in r acts) goes_on)
                ∙ ap (λ k. drafted_from k r acts) (sym left)
                ∙ was.draft;
            within = omega (arith, lt);
          }

      ends : drafted_from (most - made) r acts ≡ draft_in r acts → HasDrafted first (drafted_from most first begin) r acts
      ends over =
          let whole : draft_in r acts ≡ drafted_from most first begin = sym over ∙ was.draft in
          record {
            rehearsal = (λ k. record { rollout = was.rollout k; state = (ap (λ (d : Draft). d.rehearsal) whole) k; live = was.live k });
            script = ap (λ (d : Draft). d.acts) whole;
          }

      pub ends-over : is_over r.rollout.problem r.rollout.plan (draft_in r acts) ≡ true → HasDrafted first (drafted_from most first begin) r acts
      ends-over over = ends (drained-stays r.rollout.problem r.rollout.plan (most - made) (draft_in r acts) over)

      pub ends-spent : made ≡ most → HasDrafted first (drafted_from most first begin) r acts
      ends-spent all = let none : most - made ≡ 0 = omega (arith, all) in ends (ap (λ k. drafted_from k r acts) none)

  -- ---- all of a drain
  pub drains : (first : Rehearsing) (begin : List Act) (r : Rehearsing) (acts : List Act) (count : ℕ) → HasDrafted first (raising first.rollout (draft_in first begin)) r acts
      → count ≡ all_operations r.rollout.problem r.rollout.plan
      → (s : Rehearsing) (more : List Act) → HasDrafted r (draining (count + 1) r.rollout (draft_in r acts)) s more
      → HasDrafted first (whole_of first.rollout.problem first.rollout.plan policy (draft_in first begin)) s more
  drains first begin r acts count raised all s more drained =
      drafted-on first (raising first.rollout (draft_in first begin)) r acts raised ending s more
      (drafted-is r _ s more drained (ending r.rollout (draft_in r acts)) (ap (λ k. draining (k + 1) r.rollout (draft_in r acts)) all))

  -- ---- event by event
  abbrev pub sketch_at : Rehearsing → Lcg → ℕ → Sketch
  sketch_at first draws k = sketched first.rollout.problem first.rollout.plan policy draws k

  abbrev pub sketch_in : Rehearsing → List Act → Lcg → Sketch
  sketch_in r acts draws = record { draft = draft_in r acts; draws = draws }

  module _ (first : Rehearsing) (draws : Lcg) where
    pub at-first : first.state ≡ first_rehearsal first.rollout.problem first.rollout.plan → (acts : List Act) → acts ≡ [] → HasSketched first (sketch_at first draws 0) first acts draws
    at-first is acts none = record { draft = record { rehearsal = ap (λ (s : Rehearsal). record first { state = s }) is; script = none }; left = refl }

    module _ (k : ℕ) (r : Rehearsing) (acts : List Act) (left : Lcg) (was : HasSketched first (sketch_at first draws k) r acts left) where
      pub sketch-lives : r.live ≡ first.live
      sketch-lives = ap (λ (q : Rehearsing). q.live) was.draft.rehearsal

      pub sketch-within : IsFew r.state.world k
      sketch-within =
          subst (λ (s : Rehearsing). IsFew s.state.world k) (sym was.draft.rehearsal) (sketch-few first.rollout.problem first.rollout.plan policy draws k)

      pub sketches-on : (s : Rehearsing) (more : List Act) (rest : Lcg) → HasSketched r (one_more r.rollout.problem r.rollout.plan policy (sketch_in r acts left)) s more rest
          → HasSketched first (sketch_at first draws (k + 1)) s more rest
      sketches-on s more rest did =
          let one : suc k ≡ k + 1 = omega arith in
          let state = sketch_at first draws k in
          let total : one_more r.rollout.problem r.rollout.plan policy (sketch_in r acts left) ≡ sketch_at first draws (k + 1) =
          ap₂ (λ (q : Rehearsing) (list : List Act). one_more q.rollout.problem q.rollout.plan policy (sketch_in q list left)) was.draft.rehearsal was.draft.script
          ∙ ap (λ (l : Lcg). one_more first.rollout.problem first.rollout.plan policy (record { draft = state.draft; draws = l })) was.left
          ∙ ap (λ j. sketch_at first draws j) one in
          record {
            draft = record {
              rehearsal = did.draft.rehearsal ∙ ap₂ (λ (q : Rehearsing) (e : Sketch). record q { state = e.draft.rehearsal }) was.draft.rehearsal total;
              script = did.draft.script ∙ ap (λ (e : Sketch). e.draft.acts) total;
            };
            left = did.left ∙ ap (λ (e : Sketch). e.draws) total;
          }

  -- ---- all of it
  module _ (first : Rehearsing) (draws : Lcg) (events : ℕ) (r : Rehearsing) (acts : List Act) (left : Lcg) (drawn : HasSketched first (sketch_at first draws events) r acts left)
      (s : Rehearsing) (more : List Act) (drained : HasDrafted r (whole_of r.rollout.problem r.rollout.plan policy (draft_in r acts)) s more) where
    abbrev wholly : Rollout → Draft → Draft
    wholly o d = whole_of o.problem o.plan policy d

    whole : HasDrafted first (wholly first.rollout (sketch_at first draws events).draft) s more
    whole = drafted-on first (sketch_at first draws events).draft r acts drawn.draft wholly s more drained

    its-script : more ≡ drawn_script first.rollout.problem first.rollout.plan policy draws events
    unfolding whole_draft
    its-script = whole.script

    pub drawn-rollout : s.rollout ≡ first.rollout
    drawn-rollout = ap (λ (q : Rehearsing). q.rollout) whole.rehearsal

    pub drawn-script : (shape : ScriptShape) → draws ≡ seeded shape.seed → events ≡ shape.events → IsScriptFor policy shape first.rollout more
    drawn-script shape seed many = record {
      is = its-script ∙ ap₂ (λ (l : Lcg) (n : ℕ). drawn_script first.rollout.problem first.rollout.plan policy l n) seed many;
      few = omega (arith, ap (λ (l : List Act). length l) its-script, script-few first.rollout.problem first.rollout.plan policy draws events);
    }
