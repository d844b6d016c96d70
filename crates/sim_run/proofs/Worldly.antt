-- The worlds of a rehearsal keep what those of every schedule do, so that each answer handed over tells of what was begun.
use Rattle.std.proofs.Common.{◌≡◌, ◌<◌, ℕ, true, false, List, [], ◌++◌, length, map, get_or, All, Contains, Result, Ok, Err, OnErr, OnOk, refl, sym, ap, ◌∙◌, subst, arith}
use Rattle.std.proofs.lemmas.List.{length-map, get_or-map}
use Rattle.std.proofs.lemmas.List.Elements.{All-contains_itself, All-weaker, Contains-append_right}
use Rattle.rollout_rules.specs.Wan.{Rollout}
use Rattle.rollout_rules.specs.Items.{item_count}
use Rattle.rollout_rules.specs.Valid.{is_valid_plan}
use Rattle.rollout_rules.specs.declared.op.Op.{Op}
use Rattle.rollout_rules.specs.declared.op.OpView.{OpView}
use Rattle.rollout_rules.specs.declared.event.Event.{Event}
use Rattle.rollout_rules.specs.declared.event.Act.{Act}
use Rattle.rollout_rules.proofs.Rows.{list_below-length}
use Rattle.rollout_laws.specs.Kept.{HasAnswer}
use Rattle.rollout_laws.proofs.Keeping.{answer_is_of_an_item, answer_was_applied}
use Rattle.rollout_laws.proofs.Worlds.{after_events_is_kept, every_new_world_is_kept}
use Rattle.sim_run.specs.Acts.{acted, events_of, first_rehearsal}
use Rattle.sim_run.specs.Controlling.{Controlling}
use Rattle.sim_run.specs.Keeping.{MayTell}
use Rattle.sim_run.specs.Passing.{Passing, given_of, holding_at}
use Rattle.sim_run.specs.Rehearsing.{Keeps, Rehearsing, moved, rehearsing_of}

pub keeps-first : (o : Rollout) (r : Rehearsing) → r ≡ record { rollout = o; state = first_rehearsal o.problem o.plan; live = true } → is_valid_plan o.problem o.plan ≡ true → Keeps r
keeps-first o r is valid = subst Keeps (sym is) (every_new_world_is_kept o.problem o.plan [] valid)

pub keeps-moved : (r s : Rehearsing) (es : List Event) → s ≡ moved r es → Keeps r → Keeps s
keeps-moved r s es is keeps = subst Keeps (sym is) (after_events_is_kept r.rollout.problem r.rollout.plan r.state.world keeps es)

pub keeps-acted : (policy : OpView → ℕ) (a : Act) (r s : Rehearsing) → s ≡ record r { state = acted r.rollout.problem r.rollout.plan policy r.state a } → Keeps r → Keeps s
keeps-acted policy a r s is keeps = subst Keeps (sym is) (after_events_is_kept r.rollout.problem r.rollout.plan r.state.world keeps (events_of r.rollout.problem r.rollout.plan policy r.state a))

-- after a call that leaves all as it was where it fails; and after one that gives the rehearsal up there
pub keeps-either : {T E : Type 0} (result : Result T E) (r s : Rehearsing) → OnOk result (Keeps r → Keeps s) → OnErr result (s ≡ r) → Keeps r → Keeps s
keeps-either (Ok x) r s ok err keeps = ok keeps
keeps-either (Err e) r s ok err keeps = subst Keeps (sym err) keeps

pub keeps-living : {T E : Type 0} (result : Result T E) (r s : Rehearsing) → OnOk result (Keeps r → Keeps s) → OnErr result (s.live ≡ false) → Keeps r → s.live ≡ true → Keeps s
keeps-living (Ok x) r s ok err keeps live = ok keeps
keeps-living (Err e) r s ok err keeps live = absurd (cc (sym live ∙ err))

module _ (c : Controlling) (w : Passing) (keeps : Keeps (rehearsing_of c w)) where
  pub items : length w.applied ≡ item_count c.rollout.problem
  items = sym (list_below-length (length w.applied) (λ n. holding_at c.rollout.problem c.rollout.plan n (get_or w.applied n 0))) ∙ keeps.items

  has-answer : (op : Op) → Contains (c.earlier ++ c.heard) op → HasAnswer 0 (map given_of (c.earlier ++ c.heard)) op
  has-answer op there =
      let all = c.earlier ++ c.heard in
      let inside = subst (λ n. there.0 < n) (sym (length-map all given_of)) there.1 in
      record {
        answer = given_of op;
        there = (there.0, inside, get_or-map given_of all there.0 op (given_of op) there.1 ∙ ap given_of there.2);
        item = refl;
        migration = refl;
        number = omega arith;
      }

  tells : (op : Op) → Contains c.heard op → MayTell (record { rollout = c.rollout; history = c.history }) op
  tells op there =
      let r = rehearsing_of c w in
      let has = has-answer op (Contains-append_right c.earlier c.heard op there) in
      let lt = answer_is_of_an_item c.rollout.problem c.rollout.plan r.state.world keeps op has in
      let applied = answer_was_applied c.rollout.problem c.rollout.plan r.state.world keeps op has in
      let high = (keeps.held op.item lt).high in
      record { item = lt; number = omega (arith, applied, high) }

  pub told : All (MayTell (record { rollout = c.rollout; history = c.history })) c.heard
  told = All-weaker (Contains c.heard) (MayTell (record { rollout = c.rollout; history = c.history })) tells c.heard (All-contains_itself c.heard)
