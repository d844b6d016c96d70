-- The switches of a rollout, asked one after the other over ports that are ready: all tell what a start says.
use Rattle.std.proofs.Common.{◌≡◌, ℕ, zero, suc, ◌<◌, ◌≤◌, ◌^◌, Bool, true, List, [], ◌∷◌, map, length, slice_index, Option, Some, None, is_some, option_map, if◌then◌else◌, inl, inr, refl, sym, ap, ◌∙◌, subst, arith}
use Rattle.std.specs.Prelude.{IfSome}
use Rattle.std.proofs.lemmas.Bool.{cases_eq, eq-eqb, ne_eqb}
use Rattle.std.proofs.lemmas.List.{length-replicate}
use Rattle.std.proofs.lemmas.List.Elements.{All-head, All-tail, Contains-get_or}
use Rattle.std.proofs.lemmas.Option.{same_Some}
use Rattle.std.specs.List.{All, Contains}
use Rattle.rollout_rules.specs.Network.{IsNetwork}
use Rattle.rollout_rules.specs.Wan.{Rollout}
use Rattle.rollout_rules.specs.declared.held.Held.{Held}
use Rattle.wan_edge.specs.Fleets.{with_one, without}
use Rattle.wan_edge.specs.Ports.{PortTrace}
use Rattle.wan_edge.specs.Streams.{Rose}
use Rattle.wan_edge.proofs.Faults.{rose_since}
use Rattle.port_session.specs.Sessions.{first_session}
use Rattle.switch_ports.specs.Berths.{FleetPorts}
use Rattle.switch_ports.specs.Homes.{working_homes}
use Rattle.switch_ports.specs.Opening.{IsGiven}
use Rattle.switch_ports.specs.Views.{view}
use Rattle.held_service.specs.Noting.{Notes, no_notes, noted_at, untold, with_answers}
use Rattle.held_service.specs.Questions.{asked_homes, asked_switches, has_items, items_at}
use Rattle.held_service.specs.Talks.{IsNotTold, LeavesHeld, answers_of}
use Rattle.held_service.specs.Visits.{AreVisits, Comes, Fails, FailsOne, TellsBelow, Visit, after_visit, berth}
use Rattle.held_service.specs.declared.not_told.NotTold.{NotTold}
use Rattle.held_service.specs.declared.not_told.NotTold.TheVariants as cause
use Rattle.held_service.proofs.Noted.{length-with}
use Rattle.held_service.proofs.Visited.{tells-long}
use Rattle.takeover_top.specs.ReadyToTake.{IsOfStart, IsReadyToTell}
use Rattle.takeover_top.proofs.PromptHomes.{few-items, homes-at, homes-long, items-asked, passing-true, working-some}
use Rattle.takeover_top.proofs.PromptNotes.{AreRight, each-told, told-still}
use Rattle.takeover_top.proofs.PromptRounds.{IsAtHome}
use Rattle.takeover_top.proofs.PromptTalks.{IsTalkExcused, fails-excused, ready-again, right-again}

none-noted : (count n : ℕ) → noted_at (no_notes count) n ≡ None
none-noted zero n = refl
none-noted (suc count) zero = refl
none-noted (suc count) (suc n) = none-noted count n

module _ {P : Type 0} (tell : P → PortTrace) (r : Rollout) (net : IsNetwork r.problem) (migration : ℕ) (fits : migration < 2 ^ 32) (start : List ℕ) (limit : ℕ) (some : 0 < limit) (firsts : ℕ → Option P) where
  abbrev pub homes : List (Option ℕ)
  homes = asked_homes r.problem r.plan

  abbrev pub Right : ℕ → Held → Type 0
  Right n pair = IsOfStart migration (slice_index start n) pair

  -- A port that is ready waits for a switch. The one that waited first has failed no more often since.
  pub record IsHere (waiting : ℕ → Option P) (switch : ℕ) : Type 0 where
    pub port : P
    pub waits : waiting switch ≡ Some port
    pub ready : IsReadyToTell r migration start (view tell (first_session switch port))
    pub first : P
    pub first_is : firsts switch ≡ Some first
    pub count : (tell first).faults ≤ (tell port).faults

  -- so it is with each switch at which there is work
  pub record AreHere (ports : FleetPorts P) : Type 0 where
    pub waiting : ℕ → Option P
    pub told : ports.waiting ≡ Some waiting
    pub each : (switch : ℕ) → Contains (working_homes r.problem r.plan) switch → IsHere waiting switch

  -- A port has failed: that of a switch, from when it waited first to how it was given back.
  pub record HasFailed (now : FleetPorts P) : Type 0 where
    pub switch : ℕ
    pub first : P
    pub first_is : firsts switch ≡ Some first
    pub back : P
    pub kept : now.kept switch ≡ Some back
    pub rose : Rose (tell first).faults (tell back).faults

  -- ---- one switch

  module _ (ports : FleetPorts P) (here : AreHere ports) (notes : Notes) (long : length notes ≡ length homes) (switch : ℕ) (asked : has_items homes switch ≡ true) (given : P) (is_given : IsGiven tell ports.waiting (berth switch given)) where
    abbrev items : List ℕ
    items = items_at homes switch

    abbrev own : IsHere here.waiting switch
    own = here.each switch (working-some r.problem net r.plan switch asked)

    given-is : own.port ≡ given
    given-is = same_Some own.port given (sym own.waits ∙ subst (λ (o : Option (ℕ → Option P)). IsGiven tell o (berth switch given)) here.told is_given)

    pub ready : IsReadyToTell r migration start (view tell (first_session switch given))
    ready = subst (λ (port : P). IsReadyToTell r migration start (view tell (first_session switch port))) given-is own.ready

    count : (tell own.first).faults ≤ (tell given).faults
    count = subst (λ (port : P). (tell own.first).faults ≤ (tell port).faults) given-is own.count

    at-home : (n : ℕ) → Contains items n → IsAtHome r migration fits start homes (view tell (first_session switch given)) ready n
    at-home n at =
        let found = items-asked r.problem net r.plan switch n at in
        (omega (arith, found.0.inside, few-items r.problem net), found.0.inside, homes-at r.problem net n found.0.inside ∙ found.0.home, found.1)

    pub home : All (IsAtHome r migration fits start homes (view tell (first_session switch given)) ready) items
    home = λ k d low. at-home _ (Contains-get_or items k d low)

    pub inside : (n : ℕ) → Contains items n → n < length notes
    inside n at = omega (arith, long, homes-long r.problem net r.plan, (items-asked r.problem net r.plan switch n at).0.inside)

    -- ---- once the port was given back

    module _ (back : P) where
      abbrev now : FleetPorts P
      now = after_visit ports r.problem switch back

      now-kept : now.kept switch ≡ Some back
      now-kept = ap (λ (b : Bool). if b then Some back else (without ports.kept switch) switch) (eq-eqb switch switch refl)

      now-waiting : now.waiting ≡ Some (with_one (without here.waiting switch) switch back)
      now-waiting = ap (λ (o : Option (ℕ → Option P)). option_map (λ w. with_one w switch back) (option_map (λ w. without w switch) o)) here.told

      pub stands-again : IsReadyToTell r migration start (view tell (first_session switch back)) → (tell given).faults ≤ (tell back).faults → AreHere now
      stands-again ready_back no_fewer = record {
        waiting = with_one (without here.waiting switch) switch back;
        told = now-waiting;
        each = λ other at. elim (cases_eq other switch) [
          | inl same ↦ record {
            port = back;
            waits = ap (λ (b : Bool). if b then Some back else (without here.waiting switch) other) (eq-eqb other switch same);
            ready = subst (λ (s : ℕ). IsReadyToTell r migration start (view tell (first_session s back))) (sym same) ready_back;
            first = own.first;
            first_is = ap firsts same ∙ own.first_is;
            count = omega (arith, count, no_fewer);
          }
          | inr apart ↦
              let there = here.each other at in
              record {
                port = there.port;
                waits = ap (λ (b : Bool). if b then Some back else if b then None else here.waiting other) (ne_eqb other switch apart) ∙ there.waits;
                ready = there.ready;
                first = there.first;
                first_is = there.first_is;
                count = there.count;
              }
        ];
      }

      pub failed-then : Rose (tell given).faults (tell back).faults → HasFailed now
      failed-then rose = record { switch = switch; first = own.first; first_is = own.first_is; back = back; kept = now-kept; rose = rose_since (tell own.first).faults (tell given).faults (tell back).faults count rose }

  -- ---- switches that told

  -- what was told of each item of these switches
  abbrev pub AreTold : List ℕ → Notes → Type 0
  AreTold switches notes = (switch : ℕ) → Contains switches switch → (n : ℕ) → Contains (items_at homes switch) n → is_some (noted_at notes n) ≡ true

  visits-still : (vs : List (Visit P)) (ports ports_now : FleetPorts P) (notes notes_now : Notes) (n : ℕ) → AreVisits tell r.problem homes migration limit ports notes vs ports_now notes_now → is_some (noted_at notes n) ≡ true → is_some (noted_at notes_now n) ≡ true
  visits-still [] ports ports_now notes notes_now n are told = ap (λ (ns : Notes). is_some (noted_at ns n)) are.1 ∙ told
  visits-still (v ∷ vs) ports ports_now notes notes_now n are told =
      visits-still vs (after_visit ports r.problem v.switch v.back) ports_now (with_answers notes (answers_of v.rounds)) notes_now n are.1 (told-still notes (answers_of v.rounds) n told)

  -- what stands after visits
  pub record HaveTold (switches : List ℕ) (ports : FleetPorts P) (notes : Notes) : Type 0 where
    pub here : AreHere ports
    pub right : AreRight Right notes
    pub told : AreTold switches notes

  visits-told : (vs : List (Visit P)) (ports ports_now : FleetPorts P) (notes notes_now : Notes) → All (λ s. has_items homes s ≡ true) (map (λ (v : Visit P). v.switch) vs) → AreVisits tell r.problem homes migration limit ports notes vs ports_now notes_now
      → AreHere ports → AreRight Right notes → length notes ≡ length homes → HaveTold (map (λ (v : Visit P). v.switch) vs) ports_now notes_now
  visits-told [] ports ports_now notes notes_now asked are here right long = record {
    here = subst AreHere (sym are.0) here;
    right = subst (AreRight Right) (sym are.1) right;
    told = λ switch at. absurd (omega (arith, at.1));
  }
  visits-told (v ∷ vs) ports ports_now notes notes_now asked are here right long =
      let visit = are.0 in
      let mine = All-head (λ s. has_items homes s ≡ true) v.switch (map (λ (u : Visit P). u.switch) vs) asked in
      let ready_v = ready ports here notes long v.switch mine v.given visit.is_given in
      let home_v = home ports here notes long v.switch mine v.given visit.is_given in
      let inside_v = inside ports here notes long v.switch mine v.given visit.is_given in
      let first = view tell (first_session v.switch v.given) in
      let notes_v = with_answers notes (answers_of v.rounds) in
      let again = ready-again r migration fits start homes first ready_v (items_at homes v.switch) home_v notes inside_v v.rounds visit.kept notes_v (tell v.back) visit.talks in
      let rest = visits-told vs (after_visit ports r.problem v.switch v.back) ports_now notes_v notes_now (All-tail (λ s. has_items homes s ≡ true) v.switch (map (λ (u : Visit P). u.switch) vs) asked) are.1
      (stands-again ports here notes long v.switch mine v.given visit.is_given v.back again visit.talks.goes_on.count)
      (right-again r migration fits start homes first ready_v (items_at homes v.switch) home_v notes inside_v v.rounds visit.kept notes_v (tell v.back) visit.talks right)
      (length-with notes (answers_of v.rounds) ∙ long) in
      record {
        here = rest.here;
        right = rest.right;
        told = λ switch at n item. told-of switch at n item visit.all are.1 rest.told;
      }
    where
      told-of : (switch : ℕ) → Contains (v.switch ∷ map (λ (u : Visit P). u.switch) vs) switch → (n : ℕ) → Contains (items_at homes switch) n → untold (with_answers notes (answers_of v.rounds)) (items_at homes v.switch) ≡ []
          → AreVisits tell r.problem homes migration limit (after_visit ports r.problem v.switch v.back) (with_answers notes (answers_of v.rounds)) vs ports_now notes_now → AreTold (map (λ (u : Visit P). u.switch) vs) notes_now → is_some (noted_at notes_now n) ≡ true
      told-of switch (zero, low, is) n item all rest_are rest =
          visits-still vs (after_visit ports r.problem v.switch v.back) ports_now (with_answers notes (answers_of v.rounds)) notes_now n rest_are
          (each-told (with_answers notes (answers_of v.rounds)) (items_at homes v.switch) n all (subst (λ (s : ℕ). Contains (items_at homes s) n) (sym is) item))
      told-of switch (suc k, low, is) n item all rest_are rest = rest switch (k, omega (arith, low), is) n item

  module _ (count : ℕ) (before now : FleetPorts P) (notes : Notes) (tells : TellsBelow tell r.problem homes migration limit count before now notes) (here : AreHere before) where
    pub below-told : HaveTold (asked_switches homes count) now notes
    below-told =
        subst (λ (switches : List ℕ). HaveTold switches now notes) tells.switches
        (visits-told tells.visits before now (no_notes (length homes)) notes (subst (All (λ s. has_items homes s ≡ true)) (sym tells.switches) (passing-true count (has_items homes))) tells.each here
        (λ n. subst (λ (o : Option Held). IfSome o (Right n)) (sym (none-noted (length homes) n)) tt) (length-replicate (length homes) None))

  -- ---- why not all told

  -- memory ran out, there was no port, or one failed
  abbrev pub IsExcused : FleetPorts P → NotTold → Type 0
  IsExcused now (cause.Spent item) = ⊥
  IsExcused now (cause.NoPort w) = Unit {0}
  IsExcused now (cause.Port w) = HasFailed now
  IsExcused now (cause.NotAsked w item) = ⊥
  IsExcused now (cause.NoAnswer w byte) = ⊥
  IsExcused now cause.Memory = Unit {0}

  by-talk : (why : NotTold) (now : FleetPorts P) (a b : PortTrace) → IsTalkExcused why a b → (Rose a.faults b.faults → HasFailed now) → IsExcused now why
  by-talk (cause.Spent item) now a b excused failing = absurd excused
  by-talk (cause.NoPort w) now a b excused failing = absurd excused
  by-talk (cause.Port w) now a b excused failing = failing excused
  by-talk (cause.NotAsked w item) now a b excused failing = absurd excused
  by-talk (cause.NoAnswer w byte) now a b excused failing = absurd excused
  by-talk cause.Memory now a b excused failing = tt

  module _ (switch : ℕ) (moment now : FleetPorts P) (notes : Notes) (why : NotTold) (here : AreHere moment) (long : length notes ≡ length homes) where
    at-one : has_items homes switch ≡ true → Comes tell r.problem switch (λ a b. IsNotTold homes switch (items_at homes switch) notes migration limit why a b × LeavesHeld a b) moment now → IsExcused now why
    at-one asked comes =
        let first = view tell (first_session switch comes.given) in
        let ready_v = ready moment here notes long switch asked comes.given comes.is_given in
        let home_v = home moment here notes long switch asked comes.given comes.is_given in
        let inside_v = inside moment here notes long switch asked comes.given comes.is_given in
        subst (λ (f : FleetPorts P). IsExcused f why) (sym comes.kept)
        (by-talk why (after_visit moment r.problem switch comes.back) (tell comes.given) (tell comes.back)
        (fails-excused r migration fits start homes first ready_v (items_at homes switch) home_v notes inside_v limit some (tell comes.back) why comes.ends.0)
        (failed-then moment here notes long switch asked comes.given comes.is_given comes.back))

    one-excused : FailsOne tell r.problem homes switch notes migration limit why moment now → IsExcused now why
    one-excused (inl wants) = subst (IsExcused now) (sym wants.why_is) tt
    one-excused (inr (asked, inl lacks)) = subst (IsExcused now) (sym lacks.why_is) tt
    one-excused (inr (asked, inr comes)) = at-one asked comes

  module _ (before now : FleetPorts P) (here : AreHere before) (why : NotTold) where
    pub fails-only : Fails tell r.problem r.plan migration limit why before now → IsExcused now why
    fails-only (inl wants) = subst (IsExcused now) (sym wants.why_is) tt
    fails-only (inr (inl wants)) = subst (IsExcused now) (sym wants.why_is) tt
    fails-only (inr (inr stops)) =
        one-excused stops.switch stops.moment now stops.notes why (below-told stops.switch before stops.moment stops.notes stops.earlier here).here
        (tells-long tell r.problem homes migration limit stops.switch before stops.moment stops.notes stops.earlier) stops.stops
