-- How the ports of a worker go on in a round, and that what was told by one was told ever after.
use Rattle.std.proofs.Common.{◌≡◌, ◌⊎◌, ℕ, List, [], ◌∷◌, map, Option, refl, ap₂, ◌∙◌, inl, inr}
use Rattle.std.specs.List.{AllZip, Contains}
use Rattle.wan_edge.specs.Frames.{Answer, Command}
use Rattle.wan_edge.specs.Ports.{GoesOn, PortTrace}
use Rattle.wan_edge.proofs.Chains.{stays}
use Rattle.port_session.specs.Offers.{frames_of}
use Rattle.port_session.specs.Sessions.{SessionView}
use Rattle.switch_ports.specs.Hearing.{Listens}
use Rattle.switch_ports.specs.Outboxes.{own}
use Rattle.switch_ports.specs.Offering.{Offers, OffersAll}
use Rattle.switch_ports.specs.Rows.{AtOne, HearsEach, ListensEach, OffersAllEach, OffersEach}
use Rattle.switch_ports.specs.Stories.{IsTold, LastStory, LastStoryEach, Story, StoryEach, ToldAt}
use Rattle.switch_ports.specs.Views.{SessionTrace, view}
use Rattle.switch_ports.proofs.Stories.{goes_on_on}
use Rattle.switch_ports.proofs.Told.{all_sent}
use Rattle.controller_run.specs.Exchanging.{Exchanges, StopsInHear, StopsInOffer}
use Rattle.controller_run.specs.Promises.{IsToldAtHome, WasTold, WasToldEach, switches_of}
use Rattle.controller_run.proofs.Chains.{told_by_home}

-- ---- rows
pub zip-weaker : {A : Type 0} (R S : A → A → Type 0) → ((a b : A) → R a b → S a b) → (xs bs : List A) → AllZip R xs bs → AllZip S xs bs
zip-weaker R S f [] [] all = tt
zip-weaker R S f [] (b ∷ bs) all = absurd all
zip-weaker R S f (a ∷ xs) [] all = absurd all
zip-weaker R S f (a ∷ xs) (b ∷ bs) all = (f a b all.0, zip-weaker R S f xs bs all.1)

pub zip-chain : {A : Type 0} (R S Q : A → A → Type 0) → ((a b c : A) → R a b → S b c → Q a c) → (xs bs cs : List A) → AllZip R xs bs → AllZip S bs cs → AllZip Q xs cs
zip-chain R S Q f [] [] [] first second = tt
zip-chain R S Q f [] [] (c ∷ cs) first second = absurd second
zip-chain R S Q f [] (b ∷ bs) cs first second = absurd first
zip-chain R S Q f (a ∷ xs) [] cs first second = absurd first
zip-chain R S Q f (a ∷ xs) (b ∷ bs) [] first second = absurd second
zip-chain R S Q f (a ∷ xs) (b ∷ bs) (c ∷ cs) first second = (f a b c first.0 second.0, zip-chain R S Q f xs bs cs first.1 second.1)

one-weaker : {A : Type 0} (R S : A → A → Type 0) → ((a b : A) → R a b → S a b) → (xs bs : List A) → AtOne R xs bs → AtOne S xs bs
one-weaker R S f [] [] one = one
one-weaker R S f [] (b ∷ bs) one = one
one-weaker R S f (a ∷ xs) [] one = one
one-weaker R S f (a ∷ xs) (b ∷ bs) (inl here) = inl (f a b here)
one-weaker R S f (a ∷ xs) (b ∷ bs) (inr later) = inr (one-weaker R S f xs bs later)

pub one-behind : {A : Type 0} (R S Q : A → A → Type 0) → ((a b c : A) → R a b → S b c → Q a c) → (xs bs cs : List A) → AllZip R xs bs → AtOne S bs cs → AtOne Q xs cs
one-behind R S Q f [] [] [] all one = one
one-behind R S Q f [] [] (c ∷ cs) all one = one
one-behind R S Q f [] (b ∷ bs) cs all one = absurd all
one-behind R S Q f (a ∷ xs) [] cs all one = absurd all
one-behind R S Q f (a ∷ xs) (b ∷ bs) [] all one = one
one-behind R S Q f (a ∷ xs) (b ∷ bs) (c ∷ cs) all (inl here) = inl (f a b c all.0 here)
one-behind R S Q f (a ∷ xs) (b ∷ bs) (c ∷ cs) all (inr later) = inr (one-behind R S Q f xs bs cs all.1 later)

one-ahead : {A : Type 0} (R S Q : A → A → Type 0) → ((a b c : A) → R a b → S b c → Q a c) → (xs bs cs : List A) → AtOne R xs bs → AllZip S bs cs → AtOne Q xs cs
one-ahead R S Q f [] bs cs one all = absurd (none bs one)
  where
    none : (ys : List _) → AtOne R [] ys → ⊥
    none [] o = o
    none (y ∷ ys) o = o
one-ahead R S Q f (a ∷ xs) [] cs one all = absurd one
one-ahead R S Q f (a ∷ xs) (b ∷ bs) [] one all = absurd all
one-ahead R S Q f (a ∷ xs) (b ∷ bs) (c ∷ cs) (inl here) all = inl (f a b c here all.0)
one-ahead R S Q f (a ∷ xs) (b ∷ bs) (c ∷ cs) (inr later) all = inr (one-ahead R S Q f xs bs cs later all.1)

module _ {P : Type 0} (tell : P → PortTrace) where
  -- ---- all ports go on
  abbrev pub GoOn : List (SessionView P) → List (SessionView P) → Type 0
  GoOn = AllZip (λ before now. GoesOn (tell before.port) (tell now.port))

  go-none : (ps : List (SessionView P)) → GoOn ps ps
  go-none [] = tt
  go-none (p ∷ ps) = (stays (tell p.port), go-none ps)

  go-chain : (xs bs cs : List (SessionView P)) → GoOn xs bs → GoOn bs cs → GoOn xs cs
  go-chain = zip-chain (λ a b. GoesOn (tell a.port) (tell b.port)) (λ a b. GoesOn (tell a.port) (tell b.port)) (λ a b. GoesOn (tell a.port) (tell b.port)) (λ a b c. goes_on_on (tell a.port) (tell b.port) (tell c.port))

  module _ (migration : ℕ) (homes : List (Option ℕ)) where
    hears-go : (os ns : List (SessionView P)) (told : List Answer) → HearsEach tell migration homes os ns told → GoOn os ns
    hears-go [] [] told hears = tt
    hears-go [] (n ∷ ns) told hears = absurd hears
    hears-go (o ∷ os) [] told hears = absurd hears
    hears-go (o ∷ os) (n ∷ ns) told hears = (hears.2.listens.goes_on, hears-go os ns hears.1 hears.4)

    offers-go : (commands : List Command) (bs os : List (SessionView P)) → OffersEach tell migration homes commands bs os → GoOn bs os
    offers-go commands = zip-weaker (λ a b. Offers migration (own homes a.switch commands) (view tell a) (view tell b)) (λ a b. GoesOn (tell a.port) (tell b.port)) (λ a b offers. offers.goes_on)

    offers-all-go : (commands : List Command) (bs os : List (SessionView P)) → OffersAllEach tell migration homes commands bs os → GoOn bs os
    offers-all-go commands = zip-weaker (λ a b. OffersAll migration (own homes a.switch commands) (view tell a) (view tell b)) (λ a b. GoesOn (tell a.port) (tell b.port)) (λ a b offers. offers.some.goes_on)

    listens-go : (os ns : List (SessionView P)) → ListensEach tell os ns → GoOn os ns
    listens-go = zip-weaker (λ a b. Listens (view tell a) (view tell b)) (λ a b. GoesOn (tell a.port) (tell b.port)) (λ a b listens. listens.goes_on)

    pub exchange-goes : (commands : List Command) (told : List Answer) (bs ns : List (SessionView P)) → Exchanges tell migration homes bs commands told ns → GoOn bs ns
    exchange-goes commands told bs ns went = go-chain bs went.offered ns (offers-all-go commands bs went.offered went.offers) (hears-go went.offered ns told went.hears)

    pub offer-goes : (why : _) (commands : List Command) (bs ns : List (SessionView P)) → StopsInOffer tell migration homes why bs commands ns → GoOn bs ns
    offer-goes why commands bs ns stops = offers-go commands bs ns stops.offers

    pub hear-goes : (why : _) (commands : List Command) (bs ns : List (SessionView P)) → StopsInHear tell migration homes why bs commands ns → GoOn bs ns
    hear-goes why commands bs ns stops = go-chain bs stops.offered ns (offers-all-go commands bs stops.offered stops.offers) (listens-go stops.offered ns stops.listens)

    -- ---- the rounds of each port
    -- no port is taken for another's switch
    pub same-switches : (commands : List Command) (ps ns : List (SessionView P)) → StoryEach tell migration homes commands ps ns → switches_of ns ≡ switches_of ps
    same-switches commands [] [] story = refl
    same-switches commands [] (n ∷ ns) story = absurd story
    same-switches commands (p ∷ ps) [] story = absurd story
    same-switches commands (p ∷ ps) (n ∷ ns) story = ap₂ (λ (w : ℕ) (ws : List ℕ). w ∷ ws) story.0.switch (same-switches commands ps ns story.1)

    -- where all went out, a front did
    pub last-of : (commands : List Command) (ps ns : List (SessionView P)) → StoryEach tell migration homes commands ps ns → LastStoryEach tell migration homes commands ps ns
    last-of commands = zip-weaker (λ a b. Story migration homes commands (view tell a) (view tell b)) (λ a b. LastStory migration homes commands (view tell a) (view tell b))
        (λ a b story. record { switch = story.switch; goes_on = story.goes_on; part = all_sent (tell a.port).offered (tell b.port).offered (frames_of migration (own homes a.switch commands)) story.sent })

    -- ---- what was told
    pub told-on : (switch : ℕ) (answer : Answer) (ps bs ns : List (SessionView P)) → WasToldEach tell migration switch answer ps bs → GoOn bs ns → WasToldEach tell migration switch answer ps ns
    told-on switch answer = one-ahead (λ a b. WasTold migration switch answer (view tell a) (view tell b)) (λ a b. GoesOn (tell a.port) (tell b.port)) (λ a b. WasTold migration switch answer (view tell a) (view tell b))
        (λ a b c was goes. record { at = was.at; told = was.told; later = goes_on_on was.at.port (tell b.port) (tell c.port) was.later goes })

    pub home-on : (answer : Answer) (ps bs ns : List (SessionView P)) → IsToldAtHome tell migration homes ps answer bs → GoOn bs ns → IsToldAtHome tell migration homes ps answer ns
    home-on answer ps bs ns was goes = record { switch = was.switch; home = was.home; told = told-on was.switch answer ps bs ns was.told goes }

    -- each answer that a round tells
    pub home-now : (earlier commands : List Command) (told : List Answer) (answer : Answer) (ps bs ns : List (SessionView P)) → StoryEach tell migration homes earlier ps bs → Exchanges tell migration homes bs commands told ns → Contains told answer
        → IsToldAtHome tell migration homes ps answer ns
    home-now earlier commands told answer ps bs ns story went among =
        let found = told_by_home tell migration homes earlier commands told answer ps bs went.offered ns story went.offers went.hears among in
        record {
          switch = found.0;
          home = found.1;
          told = one-weaker (λ a b. ToldAt migration found.0 answer (view tell a) (view tell b)) (λ a b. WasTold migration found.0 answer (view tell a) (view tell b))
              (λ a b at. record { at = view tell b; told = at; later = stays (tell b.port) }) ps ns found.2;
        }
