-- What all switches hold together is one of the choices for which the network is safe.
use Rattle.std.proofs.Common.{◌≡◌, ◌⊎◌, ⊎_elim, inl, inr, ℕ, ◌<◌, ◌≤◌, Bool, true, false, ◌==◌, if◌then◌else◌, List, [], ◌∷◌, ◌++◌, Option, Some, None, IfSome, slice_index, refl, sym, ap, ◌∙◌, subst, arith, eq-eqb, eqb-true}
use Rattle.std.specs.List.{AllByRecursion, list_any}
use Rattle.std.proofs.lemmas.Bool.{cases_Bool, ne_eqb, or_cases, false≢true}
use Rattle.lists.proofs.Conditions.{some_same_is}
use Rattle.rollout_rules.specs.Wan.{Rollout}
use Rattle.rollout_rules.specs.Agent.{Holding}
use Rattle.rollout_rules.specs.History.{History, begun, settled, with_entries}
use Rattle.rollout_rules.specs.Items.{item_count}
use Rattle.rollout_rules.specs.Legal.{is_legal}
use Rattle.rollout_rules.specs.Safe.{IsSafe}
use Rattle.rollout_rules.specs.declared.op.Entry.{Entry}
use Rattle.rollout_laws.specs.Good.{places_held}
use Rattle.rollout_laws.proofs.Histories.{is_counted}
use Rattle.disk_model.specs.Traces.{DiskTrace}
use Rattle.wan_edge.specs.Ports.{PortTrace}
use Rattle.wan_edge.specs.Switches.{Holdings}
use Rattle.port_session.specs.Sessions.{first_session}
use Rattle.switch_ports.specs.Outboxes.{home_at}
use Rattle.switch_ports.specs.Views.{view}
use Rattle.switch_ports.specs.declared.ports.Berth.{Berth}
use Rattle.shared_book.specs.Homes.{homes_of}
use Rattle.switch_ports.specs.Berths.{FleetPorts, switches_of}
use Rattle.switch_ports.specs.Homes.{working_homes}
use Rattle.switch_laws.specs.Holdings.{AreHeldAt, IsHeldAt}
use Rattle.completion_laws.specs.Untold.{IsFoundWith, MayHold}
use Rattle.controller_run.specs.declared.running.Limits.{Limits}
use Rattle.swanroll_top.specs.Joined.{MayHoldNow, TellsHeld, chosen, chosen_by, number_in}
use Rattle.swanroll_top.specs.Targets.{EndsWithin, StaysSafe, is_among}

-- what holds at the switch of each berth holds at a switch that is found among them
at-switch : {P : Type 0} (Q : ℕ → Type 0) (w : ℕ) (berths : List (Berth P)) → list_any (λ s. w == s) (switches_of berths) ≡ true → AllByRecursion (λ b. Q b.switch) berths → Q w
at-switch Q w [] some each = absurd (false≢true some)
at-switch Q w (b ∷ berths) some each = ⊎_elim
    (λ (here : (w == b.switch) ≡ true). subst Q (sym (eqb-true w b.switch here)) each.0)
    (λ (later : list_any (λ s. w == s) (switches_of berths) ≡ true). at-switch Q w berths later each.1)
    (or_cases (w == b.switch) (list_any (λ s. w == s) (switches_of berths)) some)

-- each of two rows of facts on the same berths gives a third
both : {P : Type 0} (A B C : Berth P → Type 0) → ((b : Berth P) → A b → B b → C b) → (berths : List (Berth P)) → AllByRecursion A berths → AllByRecursion B berths → AllByRecursion C berths
both A B C to [] first second = tt
both A B C to (b ∷ berths) first second = (to b first.0 second.0, both A B C to berths first.1 second.1)

-- what holds of told options
told-both : (C : List ℕ → List ℕ → Type 0) (offered heard : Option (List ℕ)) (o h : List ℕ) → offered ≡ Some o → heard ≡ Some h → IfSome offered (λ x. IfSome heard (λ y. C x y)) → C o h
told-both C offered heard o h is_o is_h holds =
    subst (λ (t : Option (List ℕ)). IfSome t (λ y. C o y)) is_h (subst (λ (t : Option (List ℕ)). IfSome t (λ x. IfSome heard (λ y. C x y))) is_o holds)

module _ {P : Type 0} (tell : P → PortTrace) (r : Rollout) (migration : ℕ) (found h : History) (before now : FleetPorts P) (holdings : ℕ → Holdings) where
  abbrev Right : ℕ → Type 0
  Right switch = AreHeldAt r migration (homes_of r.problem) switch h (holdings switch)

  abbrev Each : Berth P → List ℕ → List ℕ → Type 0
  Each b offered heard =
      (earlier : List ℕ) (prior after : Holdings) → IsFoundWith r migration (homes_of r.problem) found (view tell (first_session b.switch b.port)) earlier prior
      → MayHold (earlier ++ offered) heard prior after → AreHeldAt r migration (homes_of r.problem) b.switch h after

  -- where the port tells what its switch holds
  pub told-right : (b : Berth P) → EndsWithin tell r migration found h before now b → TellsHeld tell r migration found now holdings b → Right b.switch
  told-right b ends tells =
      let same : ends.back ≡ tells.back = some_same_is ends.back tells.back (sym ends.kept ∙ tells.kept) in
      let holds : IfSome (tell tells.back).offered (λ _. IfSome (tell tells.back).heard (λ _. IfSome (tell tells.back).held (AreHeldAt r migration (homes_of r.problem) b.switch h))) =
      subst (λ (p : P). IfSome (tell p).offered (λ _. IfSome (tell p).heard (λ _. IfSome (tell p).held (AreHeldAt r migration (homes_of r.problem) b.switch h)))) same (ends.holds tells.starts) in
      subst (λ (t : Option Holdings). IfSome t (AreHeldAt r migration (homes_of r.problem) b.switch h)) tells.held
      (subst (λ (t : Option (List ℕ)). IfSome t (λ _. IfSome (tell tells.back).held (AreHeldAt r migration (homes_of r.problem) b.switch h))) tells.told_heard
      (subst (λ (t : Option (List ℕ)). IfSome t (λ _. IfSome (tell tells.back).heard (λ _. IfSome (tell tells.back).held (AreHeldAt r migration (homes_of r.problem) b.switch h)))) tells.told_offered holds))

  -- and where it tells what went over it alone
  pub may-right : (b : Berth P) → EndsWithin tell r migration found h before now b → MayHoldNow tell r migration found now holdings b → Right b.switch
  may-right b ends may =
      let same : ends.back ≡ may.back = some_same_is ends.back may.back (sym ends.kept ∙ may.kept) in
      let offered_is = ap (λ (p : P). (tell p).offered) same ∙ may.told_offered in
      let heard_is = ap (λ (p : P). (tell p).heard) same ∙ may.told_heard in
      let each : Each b may.offered may.heard = told-both (Each b) (tell ends.back).offered (tell ends.back).heard may.offered may.heard offered_is heard_is ends.each in
      each may.earlier may.before (holdings b.switch) may.found_with may.may

-- ---- within what is settled and begun
module _ (r : Rollout) (migration : ℕ) (found : History) (added : List Entry) (holdings : ℕ → Holdings) (switches : List ℕ) (legal : is_legal r.problem r.plan (with_entries found added) ≡ true) where
  abbrev h : History
  h = with_entries found added

  abbrev IsWithin : ℕ → ℕ → Type 0
  IsWithin n number = (settled h n ≤ number) × (number ≤ begun h n)

  counted-within : (n number : ℕ) → settled h n ≡ number → IsWithin n number
  counted-within n number is = let more = (is_counted r.problem r.plan h legal n).settled_begun in (omega (arith, is), omega (arith, is, more))

  held-within : (n : ℕ) (holding : Holding) → IsHeldAt r migration h n holding → IsWithin n (number_in migration (slice_index found.start n) holding)
  held-within n holding (inl moved) =
      let is : number_in migration (slice_index found.start n) holding ≡ holding.held.number =
      ap (λ (b : Bool). if b then holding.held.number else slice_index found.start n) (eq-eqb holding.held.migration migration moved.pair) in
      (omega (arith, is, moved.least), omega (arith, is, moved.most))
  held-within n holding (inr left) =
      let is : number_in migration (slice_index found.start n) holding ≡ slice_index found.start n =
      ap (λ (b : Bool). if b then holding.held.number else slice_index found.start n) (ne_eqb holding.held.migration migration (λ same. omega (arith, same, left.earlier))) in
      counted-within n (number_in migration (slice_index found.start n) holding) (left.none ∙ sym is)

  by-home : (n : ℕ) (home : Option ℕ) → (is_among switches home ≡ false → settled h n ≡ settled found n)
      → ((w : ℕ) → home ≡ Some w → list_any (λ s. w == s) switches ≡ true → IsHeldAt r migration h n (holdings w n)) → IsWithin n (chosen_by migration found switches holdings n home)
  by-home n None rest here = counted-within n (settled found n) (rest refl)
  by-home n (Some w) rest here = ⊎_elim
      (λ (among : list_any (λ s. w == s) switches ≡ true).
      subst (IsWithin n) (ap (λ (b : Bool). if b then number_in migration (slice_index found.start n) (holdings w n) else settled found n) (sym among)) (held-within n (holdings w n) (here w refl among)))
      (λ (apart : list_any (λ s. w == s) switches ≡ false).
      subst (IsWithin n) (ap (λ (b : Bool). if b then number_in migration (slice_index found.start n) (holdings w n) else settled found n) (sym apart)) (counted-within n (settled found n) (rest apart)))
      (cases_Bool (list_any (λ s. w == s) switches))

module _ {D P : Type 0} (trace : D → DiskTrace) (tell : P → PortTrace) (limits : Limits) (Given : List ℕ → Type 0) (disk : D) (before now : FleetPorts P) (stays : StaysSafe trace tell limits Given disk before now) (holdings : ℕ → Holdings) where
  abbrev homes : List ℕ
  homes = working_homes stays.r.problem stays.r.plan

  abbrev history : History
  history = with_entries stays.found stays.added

  joined : AllByRecursion (λ b. Right tell stays.r limits.migration stays.found history before now holdings b.switch) stays.berths
      → IsSafe stays.r.problem stays.r.plan (places_held stays.r.problem (chosen stays.r limits.migration stays.found homes holdings))
  joined right =
      let within : (n : ℕ) → n < item_count stays.r.problem → IsWithin stays.r limits.migration stays.found stays.added holdings homes stays.legal n (chosen stays.r limits.migration stays.found homes holdings n) =
      λ n inside.
      by-home stays.r limits.migration stays.found stays.added holdings homes stays.legal n (home_at (homes_of stays.r.problem) n) (stays.rest n)
      (λ w home some. at-switch (λ v. Right tell stays.r limits.migration stays.found history before now holdings v) w stays.berths
      (subst (λ (ws : List ℕ). list_any (λ s. w == s) ws ≡ true) (sym stays.switches) some) right n inside home) in
      stays.safe (chosen stays.r limits.migration stays.found homes holdings) (record { settled = λ n inside. (within n inside).0; begun = λ n inside. (within n inside).1 })

  pub told-joined : AllByRecursion (TellsHeld tell stays.r limits.migration stays.found now holdings) stays.berths
      → IsSafe stays.r.problem stays.r.plan (places_held stays.r.problem (chosen stays.r limits.migration stays.found homes holdings))
  told-joined tells =
      joined (both (EndsWithin tell stays.r limits.migration stays.found history before now) (TellsHeld tell stays.r limits.migration stays.found now holdings) (λ b. Right tell stays.r limits.migration stays.found history before now holdings b.switch)
      (told-right tell stays.r limits.migration stays.found history before now holdings) stays.berths stays.ports tells)

  pub may-joined : AllByRecursion (MayHoldNow tell stays.r limits.migration stays.found now holdings) stays.berths
      → IsSafe stays.r.problem stays.r.plan (places_held stays.r.problem (chosen stays.r limits.migration stays.found homes holdings))
  may-joined may =
      joined (both (EndsWithin tell stays.r limits.migration stays.found history before now) (MayHoldNow tell stays.r limits.migration stays.found now holdings) (λ b. Right tell stays.r limits.migration stays.found history before now holdings b.switch)
      (may-right tell stays.r limits.migration stays.found history before now holdings) stays.berths stays.ports may)
