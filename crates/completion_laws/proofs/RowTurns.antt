-- A round over a row of prompt ports that have answered all before.
use Rattle.std.proofs.Common.{◌≡◌, ℕ, List, [], ◌∷◌, ◌++◌, map, Option, Some, None, inl, inr, refl, sym, ap, ap₂, ◌∙◌, subst, ⊎_elim, arith, eq-eqb}
use Rattle.std.proofs.lemmas.Bool.{both_ways}
use Rattle.std.proofs.lemmas.List.Elements.{All-append, All-cons, All-contains, All-contains_itself, All-filter, All-head, All-map, All-nil, All-tail, All-weaker, Contains-append_left, Contains-append_right}
use Rattle.std.specs.List.{All, Contains}
use Rattle.rollout_rules.specs.Wan.{Rollout}
use Rattle.rollout_rules.specs.History.{History}
use Rattle.rollout_rules.specs.Agent.{pair_of}
use Rattle.wan_edge.specs.Frames.{Answer, Command}
use Rattle.wan_edge.specs.Ports.{PortTrace}
use Rattle.wan_edge.specs.Switches.{after_commands}
use Rattle.port_session.specs.Sessions.{SessionView}
use Rattle.port_session.specs.declared.fault.SessionFault.TheVariants as fault
use Rattle.shared_book.specs.declared.note.Cause.{Cause}
use Rattle.shared_book.specs.declared.note.Cause.TheVariants as cause
use Rattle.switch_ports.specs.Hearing.{HasAlien, IsHearCause, IsOwn, Listens}
use Rattle.switch_ports.specs.Outboxes.{home_at, is_switch, own}
use Rattle.switch_ports.specs.Offering.{IsOfferCause, OffersAll}
use Rattle.switch_ports.specs.Rows.{AtOne, HearsEach, IsCauseOfOffer, ListensEach, OffersAllEach}
use Rattle.switch_ports.specs.Views.{SessionTrace, view}
use Rattle.controller_run.specs.Exchanging.{StopsInHear}
use Rattle.controller_run.proofs.Keeps.{no-one}
use Rattle.controller_run.proofs.Elements.{filter-has, inside-cons, map-has, none-inside}
use Rattle.completion_laws.specs.Answering.{IsUpToDate, answer_for}
use Rattle.completion_laws.specs.Faults.{IsExcused}
use Rattle.completion_laws.proofs.PortTurns.{IsFlying, TurnsPort, no-other-kind, reads-own, turns-port}

module _ (r : Rollout) (migration : ℕ) (homes : List (Option ℕ)) (h : History) where
  -- an answer is the one for one of these commands
  pub record IsFor (commands : List Command) (a : Answer) : Type 0 where
    pub command : Command
    pub among : Contains commands command
    pub is : a ≡ answer_for command

  -- a port is up to date, and its switch holds the operations of its own among these commands
  pub record IsThrough (commands : List Command) (now : SessionTrace) : Type 0 where
    pub up : IsUpToDate r migration homes h now
    pub holds : (c : Command) → Contains (own homes now.switch commands) c → (after_commands now.port.start up.commands c.item).held ≡ pair_of migration c.number

  of-turn : (commands : List Command) (before now : SessionTrace) (told : List Answer) → TurnsPort r migration homes h commands before told now → IsThrough commands now
  of-turn commands before now told turn =
      record { up = turn.up; holds = λ c at. turn.holds c (subst (λ (w : ℕ). Contains (own homes w commands) c) turn.switch at) }

  for-own : (switch : ℕ) (commands : List Command) → All (IsFor commands) (map answer_for (own homes switch commands))
  for-own switch commands =
      All-map (IsFor commands) answer_for (own homes switch commands)
      (All-weaker (Contains commands) (λ c. IsFor commands (answer_for c)) (λ c at. record { command = c; among = at; is = refl }) (own homes switch commands)
      (All-filter (λ c. is_switch switch (home_at homes c.item)) (Contains commands) commands (All-contains_itself commands)))

  pub own-has : (switch : ℕ) (commands : List Command) (c : Command) → Contains commands c → home_at homes c.item ≡ Some switch → Contains (own homes switch commands) c
  own-has switch commands c at home =
      filter-has (λ d. is_switch switch (home_at homes d.item)) commands c (ap (is_switch switch) home ∙ eq-eqb switch switch refl) at

  module _ {P : Type 0} (tell : P → PortTrace) (commands : List Command) (flying : All (IsFlying r migration homes h) commands) where
    abbrev pub Up : SessionView P → Type 0
    Up t = IsUpToDate r migration homes h (view tell t)

    abbrev pub Turned : SessionView P → Type 0
    Turned t = IsThrough commands (view tell t)

    -- what a round makes of the row
    pub record TurnsRow (bs : List (SessionView P)) (told : List Answer) (ns : List (SessionView P)) : Type 0 where
      pub switches : map (λ t. t.switch) ns ≡ map (λ t. t.switch) bs
      pub ports : All Turned ns
      pub each_for : All (IsFor commands) told
      pub each_told : (c : Command) → Contains commands c → (switch : ℕ) → home_at homes c.item ≡ Some switch → Contains (map (λ t. t.switch) bs) switch → Contains told (answer_for c)

    one-more : (b n : SessionView P) (bs ns : List (SessionView P)) (mine later told : List Answer) → TurnsPort r migration homes h commands (view tell b) mine (view tell n) → TurnsRow bs later ns → told ≡ mine ++ later → TurnsRow (b ∷ bs) told (n ∷ ns)
    one-more b n bs ns mine later told turn rest is = record {
      switches = ap₂ (λ (w : ℕ) (ws : List ℕ). w ∷ ws) turn.switch rest.switches;
      ports = All-cons Turned n ns (of-turn commands (view tell b) (view tell n) mine turn) rest.ports;
      each_for = subst (All (IsFor commands)) (sym is) (All-append (IsFor commands) mine later (subst (All (IsFor commands)) (sym turn.told_is) (for-own b.switch commands)) rest.each_for);
      each_told = λ c at switch home among.
          subst (λ (us : List Answer). Contains us (answer_for c)) (sym is)
          (⊎_elim
          (λ (here : b.switch ≡ switch).
          let has = map-has answer_for (own homes b.switch commands) c (own-has b.switch commands c at (home ∙ ap Some (sym here))) in
          Contains-append_left mine later (answer_for c) (subst (λ (us : List Answer). Contains us (answer_for c)) (sym turn.told_is) has))
          (λ (there : Contains (map (λ t. t.switch) bs) switch). Contains-append_right mine later (answer_for c) (rest.each_told c at switch home there))
          (inside-cons b.switch switch (map (λ t. t.switch) bs) among));
    }

    pub turns-row : (bs os ns : List (SessionView P)) (told : List Answer) → All Up bs → OffersAllEach tell migration homes commands bs os → HearsEach tell migration homes os ns told → TurnsRow bs told ns
    turns-row [] [] [] told ups offers hears = record { switches = refl; ports = All-nil Turned; each_for = subst (All (IsFor commands)) (sym hears) (All-nil (IsFor commands)); each_told = λ c at switch home among. absurd (none-inside switch among) }
    turns-row [] [] (n ∷ ns) told ups offers hears = absurd hears
    turns-row [] (o ∷ os) ns told ups offers hears = absurd offers
    turns-row (b ∷ bs) [] ns told ups offers hears = absurd offers
    turns-row (b ∷ bs) (o ∷ os) [] told ups offers hears = absurd hears
    turns-row (b ∷ bs) (o ∷ os) (n ∷ ns) told ups offers hears =
        one-more b n bs ns hears.0 hears.1 told
        (turns-port r migration homes h commands flying (view tell b) (All-head Up b bs ups) (view tell o) (view tell n) hears.0 offers.0 hears.2)
        (turns-row bs os ns hears.1 (All-tail Up b bs ups) offers.1 hears.4) hears.3

    -- ---- a round that ends while it hears, at one of the ports
    own-alien : (switch item : ℕ) (told : List Answer) → All (IsOwn homes switch) told → HasAlien homes switch item told → ⊥
    own-alien switch item told own has =
        let one : Answer = record { item = item; held = has.held } in
        let at : Contains told one = subst (λ (us : List Answer). Contains us one) (sym has.among) (Contains-append_right has.earlier (one ∷ has.later) one (0, omega arith, refl)) in
        both_ways (is_switch switch (home_at homes item)) has.alien (All-contains (IsOwn homes switch) told one own at)

    none-amiss : (why : Cause) (b o n : SessionView P) → Up b → OffersAll migration (own homes b.switch commands) (view tell b) (view tell o) → Listens (view tell o) (view tell n) → IsHearCause migration homes why (view tell o) (view tell n) → IsExcused why
    none-amiss (cause.Spent given item number) b o n up offers listens is = is
    none-amiss (cause.Port switch) b o n up offers listens is = tt
    none-amiss (cause.Above item held begun) b o n up offers listens is = is
    none-amiss (cause.NotMine switch item) b o n up offers listens is =
        let own = reads-own r migration homes h commands flying (view tell b) up (view tell o) (view tell n) offers listens None is.1.told is.1.reads in
        own-alien o.switch item is.1.told (subst (λ (w : ℕ). All (IsOwn homes w) is.1.told) (sym offers.some.switch) own) is.1.alien
    none-amiss (cause.NoAnswer switch byte) b o n up offers listens is =
        no-other-kind r migration homes h commands flying (view tell b) up (view tell o) (view tell n) offers listens (Some (fault.NoAnswer byte)) is.1 is.2 byte is.2.reads.ends
    none-amiss cause.Disk b o n up offers listens is = tt
    none-amiss cause.Memory b o n up offers listens is = tt

    one-amiss : (why : Cause) (bs os ns : List (SessionView P)) → All Up bs → OffersAllEach tell migration homes commands bs os → ListensEach tell os ns → AtOne (λ before now. IsHearCause migration homes why (view tell before) (view tell now)) os ns → IsExcused why
    one-amiss why [] [] [] ups offers listens at = absurd at
    one-amiss why [] [] (n ∷ ns) ups offers listens at = absurd at
    one-amiss why [] (o ∷ os) ns ups offers listens at = absurd offers
    one-amiss why (b ∷ bs) [] ns ups offers listens at = absurd offers
    one-amiss why (b ∷ bs) (o ∷ os) [] ups offers listens at = absurd at
    one-amiss why (b ∷ bs) (o ∷ os) (n ∷ ns) ups offers listens (inl here) = none-amiss why b o n (All-head Up b bs ups) offers.0 listens.0 here
    one-amiss why (b ∷ bs) (o ∷ os) (n ∷ ns) ups offers listens (inr later) = one-amiss why bs os ns (All-tail Up b bs ups) offers.1 listens.1 later

    pub hear-excused : (why : Cause) (bs ns : List (SessionView P)) → All Up bs → StopsInHear tell migration homes why bs commands ns → IsExcused why
    hear-excused (cause.Spent given item number) bs ns ups stops = one-amiss (cause.Spent given item number) bs stops.offered ns ups stops.offers stops.listens stops.cause
    hear-excused (cause.Port switch) bs ns ups stops = tt
    hear-excused (cause.Above item held begun) bs ns ups stops = one-amiss (cause.Above item held begun) bs stops.offered ns ups stops.offers stops.listens stops.cause
    hear-excused (cause.NotMine switch item) bs ns ups stops = one-amiss (cause.NotMine switch item) bs stops.offered ns ups stops.offers stops.listens stops.cause
    hear-excused (cause.NoAnswer switch byte) bs ns ups stops = one-amiss (cause.NoAnswer switch byte) bs stops.offered ns ups stops.offers stops.listens stops.cause
    hear-excused cause.Disk bs ns ups stops = tt
    hear-excused cause.Memory bs ns ups stops = tt

-- a cause that comes of offering
pub offer-excused : {P : Type 0} (tell : P → PortTrace) (why : Cause) (bs ns : List (SessionView P)) → IsCauseOfOffer tell why bs ns → IsExcused why
offer-excused tell (cause.Spent given item number) bs ns is = no-one (λ b n. IsOfferCause (cause.Spent given item number) (view tell b) (view tell n)) (λ b n none. none) bs ns is
offer-excused tell (cause.Port switch) bs ns is = tt
offer-excused tell (cause.Above item held begun) bs ns is = no-one (λ b n. IsOfferCause (cause.Above item held begun) (view tell b) (view tell n)) (λ b n none. none) bs ns is
offer-excused tell (cause.NotMine switch item) bs ns is = no-one (λ b n. IsOfferCause (cause.NotMine switch item) (view tell b) (view tell n)) (λ b n none. none) bs ns is
offer-excused tell (cause.NoAnswer switch byte) bs ns is = no-one (λ b n. IsOfferCause (cause.NoAnswer switch byte) (view tell b) (view tell n)) (λ b n none. none) bs ns is
offer-excused tell cause.Disk bs ns is = tt
offer-excused tell cause.Memory bs ns is = tt
