-- What visits come to, switch by switch.
use Rattle.std.proofs.Common.{◌≡◌, ℕ, ◌+◌, ◌<◌, Bool, true, false, cond, List, [], ◌∷◌, ◌++◌, length, Option, Some, None, Result, Ok, Err, IsErrAnd, if◌then◌else◌, option_map, refl, sym, ap, ◌∙◌, subst, inl, inr, append-nil}
use Rattle.std.proofs.lemmas.List.{length-replicate, map-append}
use Rattle.std.specs.Cmp.{nat_eq_equiv}
use Rattle.std.specs.Prelude.{IfErr, IfOk, IfSome, IsErrOf}
use Rattle.rollout_rules.specs.Wan.{Plan, Problem}
use Rattle.wan_edge.specs.Fleets.{GivesPort, marked, with_one, without}
use Rattle.wan_edge.specs.Ports.{PortTrace}
use Rattle.switch_ports.specs.Berths.{FleetPorts, after_keeping, own_name}
use Rattle.switch_ports.specs.Opening.{Opens}
use Rattle.switch_ports.proofs.Given.{keep_one, keeping_none, opened_none, opened_one, ports_by}
use Rattle.held_service.specs.Noting.{Notes, no_notes, untold, with_answers}
use Rattle.held_service.specs.Questions.{asked_homes, asked_switches, has_items, items_at}
use Rattle.held_service.specs.Talks.{EndsTalk, IsNotTold, IsTold, LeavesHeld, Talks, answers_of}
use Rattle.held_service.specs.HeldText.{AsksAll, held_text}
use Rattle.held_service.specs.Visits.{AreVisits, AsksEach, AsksOne, Comes, Fails, FailsAt, FailsOne, IsVisit, Keeps, StopsAt, TellsAll, TellsAt, TellsBelow, TellsOne, Visit, Visits, after_visit, berth}
use Rattle.held_service.specs.declared.not_told.NotTold.{NotTold}
use Rattle.held_service.specs.declared.not_told.NotTold.TheVariants as cause
use Rattle.held_service.proofs.Asked.{passing-more}
use Rattle.held_service.proofs.Noted.{length-with}

-- ---- a fleet's port

-- a port that was given is lent
pub lent-now : (before now : ℕ → Bool) (switch : ℕ) → now ≡ marked before switch true → now switch ≡ true
lent-now before now switch is = ap (λ (marks : ℕ → Bool). marks switch) is ∙ ap (λ (b : Bool). cond b true (before switch)) (nat_eq_equiv.refl switch)

-- a port that is given back
pub keeps-back : {P : Type 0} (before now : FleetPorts P) (switch : ℕ) (back : P)
    → now.waiting ≡ option_map (λ w. with_one w switch back) before.waiting → now.kept ≡ with_one before.kept switch back → now.lent ≡ marked before.lent switch false → now.named ≡ before.named
    → now ≡ after_keeping before (berth switch back ∷ [])
keeps-back before now switch back waiting kept lent named = sym (keeping_none now) ∙ keep_one before now [] (berth switch back ∷ []) (berth switch back) refl waiting kept lent named

module _ {P : Type 0} (tell : P → PortTrace) (p : Problem) (homes : List (Option ℕ)) (switch : ℕ) (items : List ℕ) (notes : Notes) (migration limit : ℕ) (before moment : FleetPorts P) where
  -- the port was given, talked over and given back
  comes : (Ends : PortTrace → PortTrace → Type 0) (given : P) (now : FleetPorts P) → Opens tell p (switch ∷ []) before (berth switch given ∷ []) moment → Keeps tell switch Ends given moment now → Comes tell p switch Ends before now
  comes Ends given now opens keeps = record {
    given = given;
    is_given = opens.given.0;
    back = keeps.back;
    ends = keeps.ends;
    kept = keeps.kept ∙ ap (λ (ports : FleetPorts P). after_keeping ports (berth switch keeps.back ∷ [])) opens.ports;
  }

  pub visits-by : {U : Type 0} (result : Result U NotTold) (given : P) (now : FleetPorts P) (notes_now : Notes)
      → GivesPort tell before.waiting switch given moment.waiting → moment.kept ≡ without before.kept switch → moment.lent ≡ marked before.lent switch true → moment.named ≡ with_one before.named switch (own_name p switch)
      → Keeps tell switch (λ a b. EndsTalk result homes switch items notes migration limit a notes_now b) given moment now → Visits result tell p homes switch items notes migration limit before notes_now now
  visits-by (Ok u) given now notes_now gives kept lent named keeps =
      comes (λ a b. IsTold homes switch items notes migration limit a notes_now b × LeavesHeld a b) given now
      (opened_one tell p [] before before moment [] switch given (opened_none tell p before) gives kept lent named) keeps
  visits-by (Err why) given now notes_now gives kept lent named keeps =
      inr (comes (λ a b. IsNotTold homes switch items notes migration limit why a b × LeavesHeld a b) given now
      (opened_one tell p [] before before moment [] switch given (opened_none tell p before) gives kept lent named) keeps)

  -- there was none
  pub lacks : (why : NotTold) → why ≡ cause.NoPort switch → moment.waiting ≡ before.waiting → moment.kept ≡ before.kept → moment.lent ≡ before.lent → moment.named ≡ before.named
      → IfSome before.waiting (λ w. before.named switch ≡ Some (own_name p switch) → w switch ≡ None) → FailsAt tell p homes switch items notes migration limit why before moment
  lacks why is waiting kept lent named none = inl (record { why_is = is; now_is = ports_by moment before waiting kept lent named; none_waits = none })

-- a talk never ends for want of a port
pub talks-with-port : {P U : Type 0} (tell : P → PortTrace) (homes : List (Option ℕ)) (switch w : ℕ) (items : List ℕ) (notes : Notes) (migration limit : ℕ) (result : Result U NotTold) (given : P) (before now : FleetPorts P) (notes_now : Notes)
    → Keeps tell switch (λ a b. EndsTalk result homes switch items notes migration limit a notes_now b) given before now → IsErrOf result (cause.NoPort w) → ⊥
talks-with-port tell homes switch w items notes migration limit (Ok u) given before now notes_now keeps is = cc
talks-with-port tell homes switch w items notes migration limit (Err why) given before now notes_now keeps is =
    let same : why ≡ cause.NoPort w = cc in
    let ended : IsNotTold homes switch items notes migration limit (cause.NoPort w) (tell given) (tell keeps.back) = subst (λ (e : NotTold). IsNotTold homes switch items notes migration limit e (tell given) (tell keeps.back)) same keeps.ends.0 in
    ended.stops.cause

-- ---- one switch

module _ {P : Type 0} (tell : P → PortTrace) (p : Problem) (homes : List (Option ℕ)) (switch : ℕ) (notes : Notes) (migration limit : ℕ) (before now : FleetPorts P) (notes_now : Notes) where
  -- it was visited
  pub one-visited : {U : Type 0} (result : Result U NotTold) (items : List ℕ) → items ≡ items_at homes switch → has_items homes switch ≡ true → Visits result tell p homes switch items notes migration limit before notes_now now
      → AsksOne result tell p homes switch notes migration limit before notes_now now
  one-visited (Ok u) items are some visits = inr (some, subst (λ (ns : List ℕ). TellsAt tell p homes switch ns notes migration limit before notes_now now) are visits)
  one-visited (Err why) items are some visits = inr (some, subst (λ (ns : List ℕ). FailsAt tell p homes switch ns notes migration limit why before now) are visits)

-- what was noted keeps its length
pub one-rows : {P : Type 0} (tell : P → PortTrace) (p : Problem) (homes : List (Option ℕ)) (switch : ℕ) (notes : Notes) (migration limit : ℕ) (before now : FleetPorts P) (notes_now : Notes) → TellsOne tell p homes switch notes migration limit before notes_now now
    → length notes_now ≡ length notes
one-rows tell p homes switch notes migration limit before now notes_now (inl passed) = ap (λ (ns : Notes). length ns) passed.notes_are
one-rows tell p homes switch notes migration limit before now notes_now (inr asked) =
    let told = asked.1.ends.0 in ap (λ (ns : Notes). length ns) told.talks.noted ∙ length-with notes (answers_of told.rounds)

-- memory ran out
pub wants-one : {P U : Type 0} (tell : P → PortTrace) (p : Problem) (homes : List (Option ℕ)) (switch : ℕ) (notes : Notes) (migration limit : ℕ) (ports : FleetPorts P) (notes_now : Notes) (result : Result U NotTold) → IsErrAnd result (λ e. e ≡ cause.Memory)
    → AsksOne result tell p homes switch notes migration limit ports notes_now ports
wants-one tell p homes switch notes migration limit ports notes_now (Ok u) is = absurd is
wants-one tell p homes switch notes migration limit ports notes_now (Err why) is = inl (record { why_is = is; now_is = refl })

-- ---- switch by switch

module _ {P : Type 0} (tell : P → PortTrace) (p : Problem) (homes : List (Option ℕ)) (migration limit : ℕ) where
  visits-more : (ports moment now : FleetPorts P) (notes notes_b notes_c : Notes) (vs : List (Visit P)) (v : Visit P) → AreVisits tell p homes migration limit ports notes vs moment notes_b → IsVisit tell homes migration limit moment notes_b v
      → now ≡ after_visit moment p v.switch v.back → notes_c ≡ with_answers notes_b (answers_of v.rounds) → AreVisits tell p homes migration limit ports notes (vs ++ v ∷ []) now notes_c
  visits-more ports moment now notes notes_b notes_c [] v are is kept noted =
      let here : IsVisit tell homes migration limit ports notes v = subst (λ (f : FleetPorts P). IsVisit tell homes migration limit f notes v) are.0 (subst (λ (ns : Notes). IsVisit tell homes migration limit moment ns v) are.1 is) in (
        here,
        (kept ∙ ap (λ (f : FleetPorts P). after_visit f p v.switch v.back) are.0, noted ∙ ap (λ (ns : Notes). with_answers ns (answers_of v.rounds)) are.1),
      )
  visits-more ports moment now notes notes_b notes_c (w ∷ vs) v are is kept noted = (
    are.0,
    visits-more (after_visit ports p w.switch w.back) moment now (with_answers notes (answers_of w.rounds)) notes_b notes_c vs v are.1 is kept noted,
  )

  switches-more : (count : ℕ) (b : Bool) → has_items homes count ≡ b → asked_switches homes (count + 1) ≡ asked_switches homes count ++ (if b then count ∷ [] else [])
  switches-more count b is = passing-more count (has_items homes) ∙ ap (λ (c : Bool). asked_switches homes count ++ (if c then count ∷ [] else [])) is

  -- before the first
  pub below-none : (ports : FleetPorts P) (notes : Notes) → notes ≡ no_notes (length homes) → TellsBelow tell p homes migration limit 0 ports ports notes
  below-none ports notes none = record { visits = []; switches = refl; each = (refl, none) }

  -- one switch more
  pub below-more : (count : ℕ) (before moment now : FleetPorts P) (notes notes_now : Notes) → TellsBelow tell p homes migration limit count before moment notes → TellsOne tell p homes count notes migration limit moment notes_now now
      → TellsBelow tell p homes migration limit (count + 1) before now notes_now
  below-more count before moment now notes notes_now so_far (inl passed) =
      let same = subst (λ (f : FleetPorts P). AreVisits tell p homes migration limit before (no_notes (length homes)) so_far.visits f notes) (sym passed.now_is) so_far.each in
      record {
        visits = so_far.visits;
        switches = so_far.switches ∙ sym (append-nil (asked_switches homes count)) ∙ sym (switches-more count false passed.none);
        each = subst (λ (ns : Notes). AreVisits tell p homes migration limit before (no_notes (length homes)) so_far.visits now ns) (sym passed.notes_are) same;
      }
  below-more count before moment now notes notes_now so_far (inr asked) =
      let come = asked.1 in
      let told = come.ends.0 in
      let v : Visit P = record { switch = count; given = come.given; back = come.back; rounds = told.rounds } in
      let visit : IsVisit tell homes migration limit moment notes v = record {
        is_given = come.is_given;
        kept = told.kept;
        talks = subst (λ (ns : Notes). Talks migration homes count (items_at homes count) notes told.rounds (tell come.given) told.kept ns (tell come.back)) told.talks.noted told.talks;
        within = told.within;
        all = subst (λ (ns : Notes). untold ns (items_at homes count) ≡ []) told.talks.noted told.all;
        still = come.ends.1;
      } in
      record {
        visits = so_far.visits ++ v ∷ [];
        switches = map-append (λ (u : Visit P). u.switch) so_far.visits (v ∷ []) ∙ ap (λ (ns : List ℕ). ns ++ count ∷ []) so_far.switches ∙ sym (switches-more count true asked.0);
        each = visits-more before moment now (no_notes (length homes)) notes notes_now so_far.visits v so_far.each visit come.kept told.talks.noted;
      }

  -- it ended at one of them
  pub stops-below : {U : Type 0} (count : ℕ) (before moment now : FleetPorts P) (notes notes_now : Notes) (why : NotTold) (result : Result U NotTold) → count < length p.switches → TellsBelow tell p homes migration limit count before moment notes
      → FailsOne tell p homes count notes migration limit why moment now → IsErrAnd result (λ e. e ≡ why) → AsksEach result tell p homes migration limit before notes_now now
  stops-below count before moment now notes notes_now why (Ok u) inside so_far fails is = absurd is
  stops-below count before moment now notes notes_now why (Err e) inside so_far fails is = record {
    switch = count;
    inside = inside;
    moment = moment;
    notes = notes;
    earlier = so_far;
    stops = subst (λ (w : NotTold). FailsOne tell p homes count notes migration limit w moment now) (sym is) fails;
  }

-- ---- a rollout

module _ {P : Type 0} (tell : P → PortTrace) (p : Problem) (plan : Plan) (limit : ℕ) (before now : FleetPorts P) where
  -- memory ran out before the first switch was asked
  pub wants-all : (result : Result (List ℕ) NotTold) → now ≡ before → IsErrAnd result (λ e. e ≡ cause.Memory) → AsksAll result tell p plan limit before now
  wants-all (Ok text) same is = absurd is
  wants-all (Err why) same is = inl (record { why_is = is; now_is = same })

-- what is known of a problem and of who is asked, said of a rollout
pub all-in : {P : Type 0} (tell : P → PortTrace) (q p : Problem) (plan : Plan) (homes : List (Option ℕ)) (migration limit : ℕ) (before now : FleetPorts P) (notes : Notes) → q ≡ p → homes ≡ asked_homes p plan
    → TellsBelow tell q homes migration limit (length q.switches) before now notes → TellsAll tell p plan migration limit before now notes
all-in tell q p plan homes migration limit before now notes same are tells =
    subst (λ (hs : List (Option ℕ)). TellsBelow tell p hs migration limit (length p.switches) before now notes) are (subst (λ (o : Problem). TellsBelow tell o homes migration limit (length o.switches) before now notes) same tells)

pub stops-in : {P : Type 0} (tell : P → PortTrace) (q p : Problem) (plan : Plan) (homes : List (Option ℕ)) (migration limit : ℕ) (why : NotTold) (before now : FleetPorts P) → q ≡ p → homes ≡ asked_homes p plan
    → StopsAt tell q homes migration limit why before now → Fails tell p plan migration limit why before now
stops-in tell q p plan homes migration limit why before now same are stops =
    inr (inr (subst (λ (hs : List (Option ℕ)). StopsAt tell p hs migration limit why before now) are (subst (λ (o : Problem). StopsAt tell o homes migration limit why before now) same stops)))

-- so many items are noted of as there were at first
visits-long : {P : Type 0} (tell : P → PortTrace) (p : Problem) (homes : List (Option ℕ)) (migration limit : ℕ) (ports ports_now : FleetPorts P) (notes notes_now : Notes) (vs : List (Visit P)) → AreVisits tell p homes migration limit ports notes vs ports_now notes_now
    → length notes_now ≡ length notes
visits-long tell p homes migration limit ports ports_now notes notes_now [] are = ap (λ (ns : Notes). length ns) are.1
visits-long tell p homes migration limit ports ports_now notes notes_now (v ∷ vs) are =
    visits-long tell p homes migration limit (after_visit ports p v.switch v.back) ports_now (with_answers notes (answers_of v.rounds)) notes_now vs are.1 ∙ length-with notes (answers_of v.rounds)

pub tells-long : {P : Type 0} (tell : P → PortTrace) (p : Problem) (homes : List (Option ℕ)) (migration limit count : ℕ) (before now : FleetPorts P) (notes : Notes) → TellsBelow tell p homes migration limit count before now notes → length notes ≡ length homes
tells-long tell p homes migration limit count before now notes tells = visits-long tell p homes migration limit before now (no_notes (length homes)) notes tells.visits tells.each ∙ length-replicate (length homes) None

-- the text of what all told, or lack of memory for it
pub tells-text : {P : Type 0} (tell : P → PortTrace) (p : Problem) (plan : Plan) (limit : ℕ) (before now : FleetPorts P) (notes : Notes) (result : Result (List ℕ) NotTold) → TellsAll tell p plan 0 limit before now notes
    → IfOk result (λ text. text ≡ held_text p plan notes) → IfErr result (λ why. why ≡ cause.Memory) → AsksAll result tell p plan limit before now
tells-text tell p plan limit before now notes (Ok text) tells ok err = record { notes = notes; tells = tells; text_is = ok }
tells-text tell p plan limit before now notes (Err why) tells ok err = inr (inl (record { why_is = err; notes = notes; tells = tells }))

-- lack of memory is no want of a port
pub text-with-port : {T : Type 0} (w : ℕ) (result : Result T NotTold) → IfErr result (λ why. why ≡ cause.Memory) → IsErrOf result (cause.NoPort w) → ⊥
text-with-port w (Ok t) is failed = cc
text-with-port w (Err why) is failed =
    let same : why ≡ cause.NoPort w = cc in
    let both : cause.NoPort w ≡ cause.Memory = sym same ∙ is in cc

-- the cause that was handed on is the one that was told
pub fails-for : {T : Type 0} (why : NotTold) (w : ℕ) (result : Result T NotTold) → IsErrAnd result (λ e. e ≡ why) → IsErrOf result (cause.NoPort w) → IsErrOf {T = T} (Err why) (cause.NoPort w)
fails-for why w (Ok t) is failed = absurd is
fails-for why w (Err e) is failed =
    let same : e ≡ cause.NoPort w = cc in
    ap (λ (x : NotTold). Err x) (sym is ∙ same)

-- the same cause, in place of a result of another type
pub fails-also : {T U : Type 0} (why : NotTold) (w : ℕ) → IsErrOf {T = U} (Err why) (cause.NoPort w) → IsErrOf {T = T} (Err why) (cause.NoPort w)
fails-also why w failed =
    let same : why ≡ cause.NoPort w = cc in
    ap (λ (x : NotTold). Err x) same

-- what fails for lack of memory doesn't fail for want of a port
pub wants-with-port : {T : Type 0} (w : ℕ) (result : Result T NotTold) → IsErrAnd result (λ e. e ≡ cause.Memory) → IsErrOf result (cause.NoPort w) → ⊥
wants-with-port w (Ok t) is failed = absurd is
wants-with-port w (Err why) is failed =
    let same : why ≡ cause.NoPort w = cc in
    let both : cause.NoPort w ≡ cause.Memory = sym same ∙ is in cc
