-- Rounds, one after the other.
use Rattle.std.proofs.Common.{◌≡◌, ◌⊎◌, ℕ, zero, suc, ◌≤◌, ◌<◌, Bool, true, false, List, [], ◌∷◌, ◌++◌, length, Option, Some, None, refl, sym, ap, ap₂, ◌∙◌, inl, inr, subst, arith, append-nil, append_assoc, ◌+◌, take, length-append}
use Rattle.std.proofs.Math.Seq.{take-append-add}
use Rattle.std.proofs.lemmas.Bool.{false≢true}
use Rattle.std.proofs.lemmas.List.Elements.{All-append, All-nil, Contains-append_left, Contains-append_right, filter-append}
use Rattle.std.proofs.lemmas.Grind.{flat_map-append}
use Rattle.std.specs.Bool.{OnTrue}
use Rattle.std.specs.List.{All, AllZip, Contains, flat_map}
use Rattle.std.specs.Prelude.{IfSome, IsTrue, is_some}
use Rattle.wan_edge.specs.Frames.{Answer, Command, CommandFrame, command_bytes}
use Rattle.wan_edge.specs.Ports.{AnswersHeld, AppendsFront, GoesOn, IsHonestStep, IsOffered, IsPromptState, MovesByRule, PortTrace}
use Rattle.wan_edge.specs.Streams.{Appends, KeepsTelling}
use Rattle.wan_edge.specs.Switches.{Holdings, after_command, after_commands}
use Rattle.wan_edge.proofs.Chains.{Appends-chain, Appends-nothing, stays}
use Rattle.port_session.specs.Offers.{frames_of}
use Rattle.port_session.specs.Reading.{ReadsAnswers, answers_of}
use Rattle.port_session.specs.Sessions.{HearsAnswers, SessionView}
use Rattle.port_session.proofs.Chaining.{answers_of-append, reads_nothing, reads_on}
use Rattle.switch_ports.specs.Hearing.{HearsOut, IsOwn, Listens, Reads}
use Rattle.switch_ports.specs.Outboxes.{home_at, is_switch, own}
use Rattle.switch_ports.specs.Offering.{Offers, OffersAll}
use Rattle.switch_ports.specs.Rows.{AtOne, HearsEach, OffersAllEach, OffersEach, ListensEach}
use Rattle.switch_ports.specs.Stories.{IsTold, LastStory, LastStoryEach, Story, StoryEach, Tells, ToldAt}
use Rattle.switch_ports.specs.Views.{SessionTrace, view}

-- ---- the rule, over calls in a row
after-both : (cs ds : List CommandFrame) (h : Holdings) → after_commands h (cs ++ ds) ≡ after_commands (after_commands h cs) ds
after-both [] ds h = refl
after-both (c ∷ cs) ds h = after-both cs ds (after_command h c)

offered-more : (bytes more : List ℕ) (c : CommandFrame) → IsOffered bytes c → IsOffered (bytes ++ more) c
offered-more bytes more c is = record {
  earlier = is.earlier;
  earlier_fit = is.earlier_fit;
  fits = is.fits;
  behind = is.behind ++ more;
  parts = ap (λ (xs : List ℕ). xs ++ more) is.parts ∙ append_assoc (flat_map command_bytes is.earlier) (command_bytes c ++ is.behind) more
      ∙ ap (λ (xs : List ℕ). flat_map command_bytes is.earlier ++ xs) (append_assoc (command_bytes c) is.behind more);
}

moves-on : (bytes more : List ℕ) (a b c : Holdings) → MovesByRule bytes a b → MovesByRule (bytes ++ more) b c → MovesByRule (bytes ++ more) a c
moves-on bytes more a b c first second = record {
  delivered = first.delivered ++ second.delivered;
  each_offered = All-append (IsOffered (bytes ++ more)) first.delivered second.delivered (λ k d inside. offered-more bytes more _ (first.each_offered k d inside)) second.each_offered;
  moved = second.moved ∙ ap (λ (h : Holdings). after_commands h second.delivered) first.moved ∙ sym (after-both first.delivered second.delivered a);
}

-- an honest port's moves, where they are told
moves-told : (offered later : Option (List ℕ)) (more : List ℕ) (a b c : Option Holdings) → Appends offered more later → KeepsTelling a b
    → IfSome offered (λ bytes. IfSome a (λ earlier. IfSome b (λ now. MovesByRule bytes earlier now)))
    → IfSome later (λ bytes. IfSome b (λ earlier. IfSome c (λ now. MovesByRule bytes earlier now)))
    → IfSome later (λ bytes. IfSome a (λ earlier. IfSome c (λ now. MovesByRule bytes earlier now)))
moves-told None later more a b c grew kept first second = subst (λ (l : Option (List ℕ)). IfSome l (λ bytes. IfSome a (λ earlier. IfSome c (λ now. MovesByRule bytes earlier now)))) (sym grew) tt
moves-told (Some bytes) later more None b c grew kept first second = subst (λ (l : Option (List ℕ)). IfSome l (λ bs. Unit {0})) (sym grew) tt
moves-told (Some bytes) later more (Some a) None c grew kept first second = absurd (false≢true kept)
moves-told (Some bytes) later more (Some a) (Some b) None grew kept first second = subst (λ (l : Option (List ℕ)). IfSome l (λ bs. Unit {0})) (sym grew) tt
moves-told (Some bytes) later more (Some a) (Some b) (Some c) grew kept first second =
    subst (λ (l : Option (List ℕ)). IfSome l (λ bs. MovesByRule bs a c)) (sym grew)
    (moves-on bytes more a b c first (subst (λ (l : Option (List ℕ)). IfSome l (λ bs. MovesByRule bs b c)) grew second))

by-rule : (a b c : PortTrace) (more : List ℕ) → Appends b.offered more c.offered → KeepsTelling a.held b.held → (b ≡ a) ⊎ IsHonestStep b.offered b.heard a.held b.held → (c ≡ b) ⊎ IsHonestStep c.offered c.heard b.held c.held → (c ≡ a) ⊎ IsHonestStep c.offered c.heard a.held c.held
by-rule a b c more grew kept (inl first) second = subst (λ (t : PortTrace). (c ≡ t) ⊎ IsHonestStep c.offered c.heard t.held c.held) first second
by-rule a b c more grew kept (inr first) (inl second) = inr (subst (λ (t : PortTrace). IsHonestStep t.offered t.heard a.held t.held) (sym second) first)
by-rule a b c more grew kept (inr first) (inr second) = inr (record {
  moves = moves-told b.offered c.offered more a.held b.held c.held grew kept first.moves second.moves;
  answers = second.answers;
})

in-order : (a b c : PortTrace) → b.start ≡ a.start → (b ≡ a) ⊎ IsPromptState a.start b.offered b.heard b.held → (c ≡ b) ⊎ IsPromptState b.start c.offered c.heard c.held → (c ≡ a) ⊎ IsPromptState a.start c.offered c.heard c.held
in-order a b c same (inl first) (inl second) = inl (second ∙ first)
in-order a b c same first (inr second) = inr (subst (λ (s : Holdings). IsPromptState s c.offered c.heard c.held) same second)
in-order a b c same (inr first) (inl second) = inr (subst (λ (t : PortTrace). IsPromptState a.start t.offered t.heard t.held) (sym second) first)

on-both : {A B C : Type 0} (x y : Bool) → y ≡ x → (A → B → C) → OnTrue x A → OnTrue y B → OnTrue x C
on-both true true same f a b = f a b
on-both true false same f a b = absurd (false≢true same)
on-both false y same f a b = tt

-- a port goes on, and goes on again
pub goes_on_on : (a b c : PortTrace) → GoesOn a b → GoesOn b c → GoesOn a c
goes_on_on a b c first second = record {
  sent = first.sent ++ second.sent;
  offered = Appends-chain a.offered b.offered c.offered first.sent second.sent first.offered second.offered;
  came = first.came ++ second.came;
  heard = Appends-chain a.heard b.heard c.heard first.came second.came first.heard second.heard;
  count = omega (arith, first.count, second.count);
  told = second.told ∙ first.told;
  honest = second.honest ∙ first.honest;
  prompt = second.prompt ∙ first.prompt;
  start = second.start ∙ first.start;
  by_rule = on-both a.honest b.honest first.honest (by-rule a b c second.sent second.offered first.told) first.by_rule second.by_rule;
  in_order = on-both a.prompt b.prompt first.prompt (in-order a b c first.start) first.in_order second.in_order;
}

-- ---- what is told, over rounds in a row
-- nothing came
tells-nothing : (migration : ℕ) (v : SessionTrace) → Tells migration v [] v
tells-nothing migration v = record {
  bytes = [];
  appended = Appends-nothing v.port.heard;
  reads = reads_nothing migration (record { kept = v.stream.kept; awaited = 0; told = [] });
}

-- what was read, without how much is awaited and after what was told before
unreckoned : (migration : ℕ) (kept kept' bytes : List ℕ) (awaited awaited' : ℕ) (earlier mine : List Answer) → ReadsAnswers migration (record { kept = kept; awaited = awaited; told = [] }) bytes None (record { kept = kept'; awaited = awaited'; told = mine })
    → ReadsAnswers migration (record { kept = kept; awaited = 0; told = earlier }) bytes None (record { kept = kept'; awaited = 0; told = earlier ++ mine })
unreckoned migration kept kept' bytes awaited awaited' earlier mine reads = record {
  answers = reads.answers;
  rest = reads.rest;
  whole = reads.whole;
  told_more = ap (λ (xs : List Answer). earlier ++ xs) reads.told_more;
  awaited_less = omega arith;
  ends = reads.ends;
}

-- a port that told, and was heard once more
tells-on : (migration : ℕ) (a b c d : SessionTrace) (told mine : List Answer) → Tells migration a told b → c.port.heard ≡ b.port.heard → c.stream.kept ≡ b.stream.kept → Reads migration None c mine d → Tells migration a (told ++ mine) d
tells-on migration a b c d told mine first heard kept more =
    let second = subst (λ (k : List ℕ). ReadsAnswers migration (record { kept = k; awaited = 0; told = told }) more.bytes None (record { kept = d.stream.kept; awaited = 0; told = told ++ mine })) kept
    (unreckoned migration c.stream.kept d.stream.kept more.bytes 0 0 told mine more.reads) in
    record {
      bytes = first.bytes ++ more.bytes;
      appended = Appends-chain a.port.heard b.port.heard d.port.heard first.bytes more.bytes first.appended (subst (λ (h : Option (List ℕ)). Appends h more.bytes d.port.heard) heard more.appended);
      reads = reads_on migration (record { kept = a.stream.kept; awaited = 0; told = [] }) (record { kept = b.stream.kept; awaited = 0; told = told }) (record { kept = d.stream.kept; awaited = 0; told = told ++ mine }) first.bytes more.bytes None first.reads second;
    }

-- ---- rounds in a row
pub story_begins : (migration : ℕ) (homes : List (Option ℕ)) (v : SessionTrace) → IsTrue v.stream.live → Story migration homes [] v v
story_begins migration homes v live = record {
  switch = refl;
  goes_on = stays v.port;
  sent = Appends-nothing v.port.offered;
  told = [];
  tells = tells-nothing migration v;
  own_told = All-nil (IsOwn homes v.switch);
  live = live;
}

own-both : (homes : List (Option ℕ)) (switch : ℕ) (cs ds : List Command) (migration : ℕ) → frames_of migration (own homes switch (cs ++ ds)) ≡ frames_of migration (own homes switch cs) ++ frames_of migration (own homes switch ds)
own-both homes switch cs ds migration =
    ap (frames_of migration) (filter-append (λ c. is_switch switch (home_at homes c.item)) cs ds)
    ∙ flat_map-append (λ c. command_bytes (migration, c)) (own homes switch cs) (own homes switch ds)

sent-on : (migration : ℕ) (homes : List (Option ℕ)) (cs ds : List Command) (a b c : SessionTrace) → Story migration homes cs a b → Appends b.port.offered (frames_of migration (own homes b.switch ds)) c.port.offered
    → Appends a.port.offered (frames_of migration (own homes a.switch (cs ++ ds))) c.port.offered
sent-on migration homes cs ds a b c story all =
    subst (λ (bytes : List ℕ). Appends a.port.offered bytes c.port.offered) (sym (own-both homes a.switch cs ds migration))
    (Appends-chain a.port.offered b.port.offered c.port.offered _ _ story.sent (subst (λ (w : ℕ). Appends b.port.offered (frames_of migration (own homes w ds)) c.port.offered) story.switch all))

pub story_goes_on : (migration : ℕ) (homes : List (Option ℕ)) (cs ds : List Command) (mine : List Answer) (a b c d : SessionTrace) → Story migration homes cs a b → OffersAll migration (own homes b.switch ds) b c → HearsOut migration homes c mine d → Story migration homes (cs ++ ds) a d
story_goes_on migration homes cs ds mine a b c d story offers hears = record {
  switch = hears.listens.switch ∙ offers.some.switch ∙ story.switch;
  goes_on = goes_on_on a.port c.port d.port (goes_on_on a.port b.port c.port story.goes_on offers.some.goes_on) hears.listens.goes_on;
  sent = sent-on migration homes cs ds a b d story (subst (λ (o : Option (List ℕ)). Appends b.port.offered (frames_of migration (own homes b.switch ds)) o) (sym hears.listens.unsent) offers.all);
  told = story.told ++ mine;
  tells = tells-on migration a b c d story.told mine story.tells offers.some.unheard offers.some.kept hears.reads;
  own_told = All-append (IsOwn homes a.switch) story.told mine story.own_told (subst (λ (w : ℕ). All (IsOwn homes w) mine) (offers.some.switch ∙ story.switch) hears.own);
  live = hears.live;
}

-- a round that ends while it offers, or while it hears
part-on : (migration : ℕ) (homes : List (Option ℕ)) (cs ds : List Command) (a b c : SessionTrace) → Story migration homes cs a b → AppendsFront b.port.offered (frames_of migration (own homes b.switch ds)) c.port.offered
    → AppendsFront a.port.offered (frames_of migration (own homes a.switch (cs ++ ds))) c.port.offered
part-on migration homes cs ds a b c story part =
    let first = frames_of migration (own homes a.switch cs) in
    let second = frames_of migration (own homes a.switch ds) in
    let front = subst (λ (w : ℕ). AppendsFront b.port.offered (frames_of migration (own homes w ds)) c.port.offered) story.switch part in
    subst (λ (bytes : List ℕ). AppendsFront a.port.offered bytes c.port.offered) (sym (own-both homes a.switch cs ds migration))
    (record {
      count = length first + front.count;
      within = omega (arith, front.within, length-append first second);
      appended = subst (λ (bytes : List ℕ). Appends a.port.offered bytes c.port.offered) (sym (take-append-add first second front.count))
          (Appends-chain a.port.offered b.port.offered c.port.offered first (take front.count second) story.sent front.appended);
    })

pub story_ends_in_offer : (migration : ℕ) (homes : List (Option ℕ)) (cs ds : List Command) (a b c : SessionTrace) → Story migration homes cs a b → Offers migration (own homes b.switch ds) b c → LastStory migration homes (cs ++ ds) a c
story_ends_in_offer migration homes cs ds a b c story offers = record {
  switch = offers.switch ∙ story.switch;
  goes_on = goes_on_on a.port b.port c.port story.goes_on offers.goes_on;
  part = part-on migration homes cs ds a b c story offers.part;
}

pub story_ends_in_hear : (migration : ℕ) (homes : List (Option ℕ)) (cs ds : List Command) (a b c d : SessionTrace) → Story migration homes cs a b → OffersAll migration (own homes b.switch ds) b c → Listens c d → LastStory migration homes (cs ++ ds) a d
story_ends_in_hear migration homes cs ds a b c d story offers listens = record {
  switch = listens.switch ∙ offers.some.switch ∙ story.switch;
  goes_on = goes_on_on a.port c.port d.port (goes_on_on a.port b.port c.port story.goes_on offers.some.goes_on) listens.goes_on;
  part = subst (λ (o : Option (List ℕ)). AppendsFront a.port.offered (frames_of migration (own homes a.switch (cs ++ ds))) o) (sym listens.unsent)
      (part-on migration homes cs ds a b c story offers.some.part);
}

-- ---- answers that were told
pub told_stays : (migration switch : ℕ) (homes : List (Option ℕ)) (commands : List Command) (mine : List Answer) (answer : Answer) (a b c d : SessionTrace) → ToldAt migration switch answer a b → OffersAll migration commands b c → HearsOut migration homes c mine d → ToldAt migration switch answer a d
told_stays migration switch homes commands mine answer a b c d at offers hears = record {
  is_port = at.is_port;
  told = at.told ++ mine;
  tells = tells-on migration a b c d at.told mine at.tells offers.some.unheard offers.some.kept hears.reads;
  among = Contains-append_left at.told mine answer at.among;
}

pub told_now : (migration : ℕ) (homes : List (Option ℕ)) (cs commands : List Command) (mine : List Answer) (answer : Answer) (a b c d : SessionTrace) → Story migration homes cs a b → OffersAll migration commands b c → HearsOut migration homes c mine d → Contains mine answer → ToldAt migration a.switch answer a d
told_now migration homes cs commands mine answer a b c d story offers hears among = record {
  is_port = refl;
  told = story.told ++ mine;
  tells = tells-on migration a b c d story.told mine story.tells offers.some.unheard offers.some.kept hears.reads;
  among = Contains-append_right story.told mine answer among;
}
