-- Rounds between the ports of a worker, one after the other.
use Rattle.std.proofs.Common.{◌≡◌, ◌⊎◌, ℕ, zero, suc, Bool, true, false, ◌==◌, List, [], ◌∷◌, ◌++◌, Option, Some, None, refl, sym, ap, ◌∙◌, inl, inr, subst, arith, eqb-true}
use Rattle.std.proofs.lemmas.Bool.{false≢true}
use Rattle.std.proofs.lemmas.List.Elements.{Contains-append_cases}
use Rattle.std.specs.List.{AllZip, Contains}
use Rattle.std.specs.Prelude.{All, IsTrue, ⊤}
use Rattle.wan_edge.specs.Frames.{Answer, Command}
use Rattle.wan_edge.specs.Ports.{PortTrace}
use Rattle.port_session.specs.Sessions.{SessionView}
use Rattle.switch_ports.specs.Hearing.{HearsOut, IsOwn}
use Rattle.switch_ports.specs.Outboxes.{home_at, is_switch, own}
use Rattle.switch_ports.specs.Offering.{OffersAll}
use Rattle.switch_ports.specs.Rows.{AtOne, HearsEach, ListensEach, OffersAllEach, OffersEach}
use Rattle.switch_ports.specs.Stories.{IsTold, LastStoryEach, Story, StoryEach, ToldAt}
use Rattle.switch_ports.specs.Views.{SessionTrace, view}
use Rattle.switch_ports.proofs.Stories.{story_begins, story_ends_in_hear, story_ends_in_offer, story_goes_on, told_now, told_stays}
use Rattle.controller_run.specs.Exchanging.{Exchanges}

-- the home of what a port tells is its switch
pub is-home : (switch : ℕ) (home : Option ℕ) → is_switch switch home ≡ true → home ≡ Some switch
is-home switch None is = absurd (false≢true is)
is-home switch (Some home) is = ap Some (eqb-true home switch is)

contained : (P : Answer → Type 0) (xs : List Answer) (x : Answer) → Contains xs x → All P xs → P x
contained P xs x at all = subst P at.2 (all at.0 x at.1)

module _ {P : Type 0} (tell : P → PortTrace) (migration : ℕ) (homes : List (Option ℕ)) where
  -- before the first round
  pub stories_begin : (ps : List (SessionView P)) → All (λ (t : SessionView P). IsTrue t.stream.live) ps → StoryEach tell migration homes [] ps ps
  stories_begin [] live = tt
  stories_begin (p ∷ ps) live = (story_begins migration homes (view tell p) (live 0 p (omega arith)), stories_begin ps (λ k d inside. live (suc k) d (omega (arith, inside))))

  -- one round more
  pub stories_go_on : (earlier commands : List Command) (told : List Answer) (ps bs os ns : List (SessionView P)) → StoryEach tell migration homes earlier ps bs → OffersAllEach tell migration homes commands bs os → HearsEach tell migration homes os ns told
      → StoryEach tell migration homes (earlier ++ commands) ps ns
  stories_go_on earlier commands told [] [] [] [] story offers hears = tt
  stories_go_on earlier commands told [] [] [] (n ∷ ns) story offers hears = absurd hears
  stories_go_on earlier commands told [] [] (o ∷ os) ns story offers hears = absurd offers
  stories_go_on earlier commands told [] (b ∷ bs) os ns story offers hears = absurd story
  stories_go_on earlier commands told (p ∷ ps) [] os ns story offers hears = absurd story
  stories_go_on earlier commands told (p ∷ ps) (b ∷ bs) [] ns story offers hears = absurd offers
  stories_go_on earlier commands told (p ∷ ps) (b ∷ bs) (o ∷ os) [] story offers hears = absurd hears
  stories_go_on earlier commands told (p ∷ ps) (b ∷ bs) (o ∷ os) (n ∷ ns) story offers hears = (
    story_goes_on migration homes earlier commands hears.0 (view tell p) (view tell b) (view tell o) (view tell n) story.0 offers.0 hears.2,
    stories_go_on earlier commands hears.1 ps bs os ns story.1 offers.1 hears.4,
  )

  -- a last round, which ended while it offered or while it heard
  pub stories_end_in_offer : (earlier commands : List Command) (ps bs os : List (SessionView P)) → StoryEach tell migration homes earlier ps bs → OffersEach tell migration homes commands bs os → LastStoryEach tell migration homes (earlier ++ commands) ps os
  stories_end_in_offer earlier commands [] [] [] story offers = tt
  stories_end_in_offer earlier commands [] [] (o ∷ os) story offers = absurd offers
  stories_end_in_offer earlier commands [] (b ∷ bs) os story offers = absurd story
  stories_end_in_offer earlier commands (p ∷ ps) [] os story offers = absurd story
  stories_end_in_offer earlier commands (p ∷ ps) (b ∷ bs) [] story offers = absurd offers
  stories_end_in_offer earlier commands (p ∷ ps) (b ∷ bs) (o ∷ os) story offers =
      (story_ends_in_offer migration homes earlier commands (view tell p) (view tell b) (view tell o) story.0 offers.0, stories_end_in_offer earlier commands ps bs os story.1 offers.1)

  pub stories_end_in_hear : (earlier commands : List Command) (ps bs os ns : List (SessionView P)) → StoryEach tell migration homes earlier ps bs → OffersAllEach tell migration homes commands bs os → ListensEach tell os ns
      → LastStoryEach tell migration homes (earlier ++ commands) ps ns
  stories_end_in_hear earlier commands [] [] [] [] story offers hears = tt
  stories_end_in_hear earlier commands [] [] [] (n ∷ ns) story offers hears = absurd hears
  stories_end_in_hear earlier commands [] [] (o ∷ os) ns story offers hears = absurd offers
  stories_end_in_hear earlier commands [] (b ∷ bs) os ns story offers hears = absurd story
  stories_end_in_hear earlier commands (p ∷ ps) [] os ns story offers hears = absurd story
  stories_end_in_hear earlier commands (p ∷ ps) (b ∷ bs) [] ns story offers hears = absurd offers
  stories_end_in_hear earlier commands (p ∷ ps) (b ∷ bs) (o ∷ os) [] story offers hears = absurd hears
  stories_end_in_hear earlier commands (p ∷ ps) (b ∷ bs) (o ∷ os) (n ∷ ns) story offers hears =
      (story_ends_in_hear migration homes earlier commands (view tell p) (view tell b) (view tell o) (view tell n) story.0 offers.0 hears.0, stories_end_in_hear earlier commands ps bs os ns story.1 offers.1 hears.1)

  -- what was told by the port of a switch stays told
  pub told_stays_each : (switch : ℕ) (answer : Answer) (commands : List Command) (told : List Answer) (ps bs os ns : List (SessionView P)) → IsTold tell migration switch answer ps bs → OffersAllEach tell migration homes commands bs os → HearsEach tell migration homes os ns told
      → IsTold tell migration switch answer ps ns
  told_stays_each switch answer commands told [] [] os ns at offers hears = absurd at
  told_stays_each switch answer commands told [] (b ∷ bs) os ns at offers hears = absurd at
  told_stays_each switch answer commands told (p ∷ ps) [] os ns at offers hears = absurd at
  told_stays_each switch answer commands told (p ∷ ps) (b ∷ bs) [] ns at offers hears = absurd offers
  told_stays_each switch answer commands told (p ∷ ps) (b ∷ bs) (o ∷ os) [] at offers hears = absurd hears
  told_stays_each switch answer commands told (p ∷ ps) (b ∷ bs) (o ∷ os) (n ∷ ns) (inl at) offers hears =
      inl (told_stays migration switch homes (own homes b.switch commands) hears.0 answer (view tell p) (view tell b) (view tell o) (view tell n) at offers.0 hears.2)
  told_stays_each switch answer commands told (p ∷ ps) (b ∷ bs) (o ∷ os) (n ∷ ns) (inr at) offers hears = inr (told_stays_each switch answer commands hears.1 ps bs os ns at offers.1 hears.4)

  -- each answer that a round tells was told by the port of its item's home
  pub told_by_home : (earlier commands : List Command) (told : List Answer) (answer : Answer) (ps bs os ns : List (SessionView P)) → StoryEach tell migration homes earlier ps bs → OffersAllEach tell migration homes commands bs os → HearsEach tell migration homes os ns told
      → Contains told answer → (switch : ℕ) × (home_at homes answer.item ≡ Some switch) × IsTold tell migration switch answer ps ns
  told_by_home earlier commands told answer ps bs [] [] story offers hears among = absurd (none (subst (λ (ts : List Answer). Contains ts answer) hears among))
    where
      none : Contains [] answer → ⊥
      none at = absurd (omega (arith, at.1))
  told_by_home earlier commands told answer ps bs [] (n ∷ ns) story offers hears among = absurd hears
  told_by_home earlier commands told answer ps bs (o ∷ os) [] story offers hears among = absurd hears
  told_by_home earlier commands told answer ps [] (o ∷ os) (n ∷ ns) story offers hears among = absurd offers
  told_by_home earlier commands told answer [] (b ∷ bs) (o ∷ os) (n ∷ ns) story offers hears among = absurd story
  told_by_home earlier commands told answer (p ∷ ps) (b ∷ bs) (o ∷ os) (n ∷ ns) story offers hears among =
      here_or_later (λ later. told_by_home earlier commands hears.1 answer ps bs os ns story.1 offers.1 hears.4 later) (Contains-append_cases hears.0 hears.1 answer (subst (λ (ts : List Answer). Contains ts answer) hears.3 among))
    where
      here_or_later : (Contains hears.1 answer → (switch : ℕ) × (home_at homes answer.item ≡ Some switch) × IsTold tell migration switch answer ps ns) → Contains hears.0 answer ⊎ Contains hears.1 answer
          → (switch : ℕ) × (home_at homes answer.item ≡ Some switch) × IsTold tell migration switch answer (p ∷ ps) (n ∷ ns)
      here_or_later rest (inl here) = (
        p.switch,
        is-home p.switch (home_at homes answer.item) (subst (λ (w : ℕ). IsOwn homes w answer) (offers.0.some.switch ∙ story.0.switch) (contained (IsOwn homes o.switch) hears.0 answer here hears.2.own)),
        inl (told_now migration homes earlier (own homes b.switch commands) hears.0 answer (view tell p) (view tell b) (view tell o) (view tell n) story.0 offers.0 hears.2 here),
      )
      here_or_later rest (inr later) = let found = rest later in (found.0, found.1, inr found.2)
