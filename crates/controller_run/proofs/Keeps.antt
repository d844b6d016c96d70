-- A worker's rounds keep what its clause promises.
use Rattle.std.proofs.Common.{◌≡◌, ◌⊎◌, ℕ, ◌+◌, ◌≤◌, Bool, true, false, List, [], ◌∷◌, ◌++◌, All, Option, Some, None, refl, sym, ap, ◌∙◌, ⊎_elim, inl, inr, subst, arith, if◌then◌else◌}
use Rattle.std.proofs.lemmas.List.Elements.{All-append}
use Rattle.std.specs.Prelude.{IsTrue}
use Rattle.lists.proofs.Conditions.{one_at_most}
use Rattle.rollout_rules.specs.declared.op.Op.{Op}
use Rattle.turn_lock.specs.Histories.{Follows}
use Rattle.wan_edge.specs.Frames.{Command}
use Rattle.wan_edge.specs.Ports.{PortTrace}
use Rattle.rollout_book.specs.Aliens.{told_by}
use Rattle.port_session.specs.Sessions.{SessionView}
use Rattle.shared_book.specs.declared.note.Cause.{Cause}
use Rattle.shared_book.specs.declared.note.Cause.TheVariants as cause
use Rattle.shared_book.specs.declared.note.What.{What}
use Rattle.shared_book.specs.declared.note.What.TheVariants as what
use Rattle.shared_book.specs.declared.note.Written.{Written}
use Rattle.shared_book.specs.declared.call_reply.Halt.{Halt}
use Rattle.shared_book.specs.declared.call_reply.ListReply.TheVariants as list
use Rattle.shared_book.specs.declared.call_reply.Wake.{Wake}
use Rattle.shared_book.specs.declared.call_reply.Wake.TheVariants as wake
use Rattle.shared_book.specs.Histories.{Opening, history_of}
use Rattle.shared_book.specs.Knows.{next_note}
use Rattle.shared_book.specs.Legal.{is_legal_shared}
use Rattle.shared_book.specs.Notes.{cause_of, has_asked}
use Rattle.shared_book.specs.Replies.{batch_at}
use Rattle.shared_book.specs.Calls.{IsStopCall, seat_of}
use Rattle.shared_book.specs.Waking.{IsLookCall}
use Rattle.shared_book.specs.declared.reply.RoundReply.TheVariants as round
use Rattle.switch_ports.specs.Hearing.{IsHearCause}
use Rattle.switch_ports.specs.Offering.{IsOfferCause}
use Rattle.switch_ports.specs.Rows.{AtOne, IsCauseOfHear, IsCauseOfOffer}
use Rattle.switch_ports.specs.Stories.{LastStoryEach, StoryEach}
use Rattle.switch_ports.specs.Views.{view}
use Rattle.controller_run.specs.Exchanging.{StopsInHear, StopsInOffer}
use Rattle.switch_ports.specs.Due.{any_late, due_of}
use Rattle.controller_run.specs.Finding.{Lists, Looks}
use Rattle.controller_run.specs.Promises.{BreaksOff, IsBreak, IsEndAt, Promises, StopsNothing, UnlessStopped, switches_of}
use Rattle.controller_run.specs.Serving.{HasStopped, IsLast, Moment, Served, caller_of}
use Rattle.controller_run.specs.Working.{ListsNone, ListsSome, RestsFor, Settles, Standing, Works, is_some_command}
use Rattle.controller_run.specs.Settling.{StopsRound}
use Rattle.controller_run.specs.declared.round_end.RoundEnd.{RoundEnd}
use Rattle.controller_run.specs.declared.round_end.RoundEnd.TheVariants as outcome
use Rattle.controller_run.proofs.Chains.{stories_end_in_hear, stories_end_in_offer}
use Rattle.controller_run.proofs.Endings.{ends-finished, ends-held, list-stopped, look-stopped, still-stopped, stop-first}
use Rattle.controller_run.proofs.Noted.{listed, listed-none, listed-stopped, looked, then-none, unnoted}
use Rattle.controller_run.proofs.Ports.{GoOn, hear-goes, last-of, offer-goes}
use Rattle.controller_run.proofs.Quiet.{IsQuiet, quiet-asks-not, quiet-past}
use Rattle.controller_run.proofs.Reaches.{Answers, Good, Reaches, batch-answers, exchanged, plain-answers, plain-good, reaches-all, reaches-first, so-far, story-on}
use Rattle.controller_run.proofs.Tallies.{Tally, tally-none, tally-note, tally-weaker}

-- ---- causes that come of ports
pub no-one : {A : Type 0} (R : A → A → Type 0) → ((a b : A) → R a b → ⊥) → (xs ys : List A) → AtOne R xs ys → ⊥
no-one R none [] [] one = one
no-one R none [] (y ∷ ys) one = one
no-one R none (x ∷ xs) [] one = one
no-one R none (x ∷ xs) (y ∷ ys) (inl here) = none x y here
no-one R none (x ∷ xs) (y ∷ ys) (inr later) = no-one R none xs ys later

module _ {P : Type 0} (tell : P → PortTrace) where
  pub offer-breaks : (why : Cause) (bs ns : List (SessionView P)) → IsCauseOfOffer tell why bs ns → IsBreak why
  offer-breaks (cause.Spent given item number) bs ns is = no-one (λ b n. IsOfferCause (cause.Spent given item number) (view tell b) (view tell n)) (λ b n none. none) bs ns is
  offer-breaks (cause.Port switch) bs ns is = tt
  offer-breaks (cause.Above item held begun) bs ns is = no-one (λ b n. IsOfferCause (cause.Above item held begun) (view tell b) (view tell n)) (λ b n none. none) bs ns is
  offer-breaks (cause.NotMine switch item) bs ns is = tt
  offer-breaks (cause.NoAnswer switch byte) bs ns is = tt
  offer-breaks cause.Disk bs ns is = no-one (λ b n. IsOfferCause cause.Disk (view tell b) (view tell n)) (λ b n none. none) bs ns is
  offer-breaks cause.Memory bs ns is = tt

  pub hear-breaks : (migration : ℕ) (homes : List (Option ℕ)) (why : Cause) (bs ns : List (SessionView P)) → IsCauseOfHear tell migration homes why bs ns → IsBreak why
  hear-breaks migration homes (cause.Spent given item number) bs ns is = no-one (λ b n. IsHearCause migration homes (cause.Spent given item number) (view tell b) (view tell n)) (λ b n none. none) bs ns is
  hear-breaks migration homes (cause.Port switch) bs ns is = tt
  hear-breaks migration homes (cause.Above item held begun) bs ns is = no-one (λ b n. IsHearCause migration homes (cause.Above item held begun) (view tell b) (view tell n)) (λ b n none. none) bs ns is
  hear-breaks migration homes (cause.NotMine switch item) bs ns is = tt
  hear-breaks migration homes (cause.NoAnswer switch byte) bs ns is = tt
  hear-breaks migration homes cause.Disk bs ns is = no-one (λ b n. IsHearCause migration homes cause.Disk (view tell b) (view tell n)) (λ b n none. none) bs ns is
  hear-breaks migration homes cause.Memory bs ns is = tt

module _ {P : Type 0} (tell : P → PortTrace) (o : Opening) (seat : ℕ) (joined : List ℕ) (migration : ℕ) (homes : List (Option ℕ)) (rounds : ℕ) (before : Standing P) (quiet_before : StopsNothing seat before.seen) where
  abbrev pub ws : List ℕ
  ws = switches_of before.ports

  abbrev pub Sent : List Command → List (SessionView P) → Type 0
  Sent commands ports = StoryEach tell migration homes commands before.ports ports

  abbrev Kept : Wake → Standing P → Type 0
  Kept end now = Promises tell o seat migration homes rounds before end now

  abbrev pub Has : (Written → Type 0) → List Written → List Command → ℕ → Type 0
  Has G seen commands count = Tally o seat ws G before.seen seen commands count

  -- by what is known of all its notes
  keeps : (end : Wake) (now : Standing P) (commands : List Command) (count : ℕ) → Has (Answers tell o seat joined migration homes before now.ports) now.seen commands count → count ≤ rounds → LastStoryEach tell migration homes commands before.ports now.ports
      → is_legal_shared o now.seen ≡ true → UnlessStopped end (Sent commands now.ports) (BreaksOff seat now.seen) → IsEndAt o now.seen end → Kept end now
  keeps end now commands count tally few sent legal all ends =
      record {
        more = tally.more;
        goes_on = tally.is;
        legal = legal;
        listed = commands;
        used = count;
        lists = tally.lists;
        sent = sent;
        all_sent = all;
        few = few;
        answered = tally.good;
        ends = ends;
      }

  -- an end is none of the two that never come
  unless : (end : Wake) (now : List Written) (A B : Type 0) → IsEndAt o now end → A → UnlessStopped end A B
  unless (wake.Work op) now A B ends a = absurd ends
  unless wake.Finished now A B ends a = a
  unless wake.Held now A B ends a = a
  unless (wake.Stopped halt) now A B ends a = inl a
  unless wake.Memory now A B ends a = absurd ends

  -- so far the seat has stopped nothing
  pub quiet-here : (ports : List (SessionView P)) (seen : List Written) (commands : List Command) (count : ℕ) → Has (Good tell o seat joined migration homes before ports) seen commands count → StopsNothing seat seen
  quiet-here ports seen commands count tally =
      subst (StopsNothing seat) (sym tally.is)
      (All-append (IsQuiet seat) before.seen tally.more quiet_before (λ k d inside own. (tally.good k d inside own).1))

  -- a call that asks that all stop
  stop-noted : (ports : List (SessionView P)) (why : Cause) (halt : Halt) (seen log after : List Written) (asked : Bool) → Follows seat_of (seat ∷ joined) seen log → has_asked seat log ≡ asked
      → after ≡ (if asked then log else log ++ next_note seat log (what.Stop why) [] ∷ []) → Tally o seat ws (Answers tell o seat joined migration homes before ports) seen after [] 0
  stop-noted ports why halt seen log after true past asked is = unnoted o seat joined ws (Answers tell o seat joined migration homes before ports) (λ l said none. plain-answers tell o seat joined migration homes before ports l said) seen log after past is
  stop-noted ports why halt seen log after false past asked is = tally-note o seat ws (Answers tell o seat joined migration homes before ports) joined seen log after (what.Stop why) [] past is (plain-answers tell o seat joined migration homes before ports log (what.Stop why))

  module _ (at : Moment P) (reaches : Reaches tell o seat joined migration homes before rounds at) where
    abbrev pub seats : List ℕ
    seats = seat ∷ joined

    -- what a round, or the front of one, has come to
    abbrev pub IsWork : RoundEnd → Standing P → Type 0
    IsWork given now = Works tell (caller_of o seats seat at.stands.ports) migration homes at.left at.stands given now

    abbrev pub Adds : List (SessionView P) → List Written → List Written → Type 0
    Adds ports seen after = Tally o seat ws (Answers tell o seat joined migration homes before ports) seen after [] 0

    pub plain : (ports : List (SessionView P)) (log : List Written) (said : What) → cause_of said ≡ None → Answers tell o seat joined migration homes before ports (next_note seat log said [])
    plain ports log said none = plain-answers tell o seat joined migration homes before ports log said

    pub looks-add : (ports : List (SessionView P)) (asked : List ℕ) (woken : Wake) (seen after : List Written) → IsLookCall o seats seat seen asked (Some woken) after → Adds ports seen after
    looks-add ports = looked o seat joined ws (Answers tell o seat joined migration homes before ports) (plain ports)

    -- the switches that are due, and whether others are late
    abbrev pub due : List ℕ
    due = due_of at.stands.ports

    abbrev pub late : Bool
    late = any_late at.stands.ports

    -- a round is left where some command was listed
    pub some-left : (commands : List Command) (log : List Written) → ListsSome (caller_of o seats seat at.stands.ports) at.left at.stands.seen commands log ⊎ ListsNone (caller_of o seats seat at.stands.ports) at.left at.stands.seen commands log
        → (if is_some_command commands then 1 else 0) ≤ at.left
    some-left commands log (inl found) = let some = found.some_left in let few = one_at_most (is_some_command commands) in omega (arith, some, few)
    some-left commands log (inr found) = let none : (if is_some_command commands then 1 else 0) ≡ 0 = ap {B = ℕ} (λ (cs : List Command). if is_some_command cs then 1 else 0) found.none in omega (arith, none)

    -- ---- a last round in which nothing went out
    rests-keep : (end : Wake) (now : Standing P) → now.ports ≡ at.stands.ports → Adds at.stands.ports at.stands.seen now.seen → is_legal_shared o now.seen ≡ true → IsEndAt o now.seen end → Kept end now
    rests-keep end now same adds legal ends =
        let ps = at.stands.ports in
        let G = Answers tell o seat joined migration homes before ps in
        let first = tally-weaker o seat ws (Good tell o seat joined migration homes before ps) G before.seen at.stands.seen reaches.commands reaches.count (λ w good. good.0) reaches.tally in
        let had = reaches.left in
        subst (λ (ports : List (SessionView P)). Kept end (record { seen = now.seen; ports = ports })) (sym same)
        (keeps end (record { seen = now.seen; ports = ps }) reaches.commands reaches.count
        (then-none o seat joined ws G (plain ps) before.seen at.stands.seen now.seen reaches.commands reaches.count first adds) (omega (arith, had)) (last-of tell migration homes reaches.commands before.ports ps reaches.story)
        legal (unless end now.seen (Sent reaches.commands ps) (BreaksOff seat now.seen) ends reaches.story) ends)

    finished-keeps : (now : Standing P) → now.ports ≡ at.stands.ports → Looks (caller_of o seats seat at.stands.ports) at.stands.seen wake.Finished now.seen → Kept wake.Finished now
    finished-keeps now same call =
        rests-keep wake.Finished now same (looks-add at.stands.ports due wake.Finished at.stands.seen now.seen call) call.legal
        (ends-finished o seat call.log due now.seen call.told call.noted)

    held-keeps : (now : Standing P) → now.ports ≡ at.stands.ports → Looks (caller_of o seats seat at.stands.ports) at.stands.seen wake.Held now.seen → Kept wake.Held now
    held-keeps now same call =
        rests-keep wake.Held now same (looks-add at.stands.ports due wake.Held at.stands.seen now.seen call) call.legal
        (ends-held o seat call.log due now.seen call.told call.noted)

    look-keeps : (halt : Halt) (now : Standing P) → now.ports ≡ at.stands.ports → Looks (caller_of o seats seat at.stands.ports) at.stands.seen (wake.Stopped halt) now.seen → Kept (wake.Stopped halt) now
    look-keeps halt now same call =
        rests-keep (wake.Stopped halt) now same (looks-add at.stands.ports due (wake.Stopped halt) at.stands.seen now.seen call) call.legal
        (still-stopped o seat call.log halt what.Stopped [] now.seen (look-stopped o seat call.log due halt call.told) call.noted)

    list-keeps : (halt : Halt) (now : Standing P) (op : Op) (commands : List Command) → now.ports ≡ at.stands.ports → Lists (caller_of o seats seat at.stands.ports) op at.stands.seen commands (list.Stopped halt) now.seen → Kept (wake.Stopped halt) now
    list-keeps halt now op commands same lists =
        let ps = at.stands.ports in
        let call = lists.listed in
        rests-keep (wake.Stopped halt) now same
        (listed-stopped o seat joined ws (Answers tell o seat joined migration homes before ps) (plain ps) due late op halt at.stands.seen now.seen commands lists) call.legal
        (still-stopped o seat call.log halt what.Stopped [] now.seen (list-stopped o seat call.log halt call.told) call.noted)

    -- ---- a last round in which all went out, and what came was told to the book
    pub works-keep : (given : RoundEnd) (last : Standing P) (works : IsWork given last) → Settles tell o seats seat migration homes works.commands (record { seen = works.log; ports = at.stands.ports }) given last
        → (end : Wake) (after : List Written) → Adds last.ports works.log after → is_legal_shared o after ≡ true → IsEndAt o after end → Kept end (record { seen = after; ports = last.ports })
    works-keep given last works settles end after adds legal ends =
        let ps = last.ports in
        let G = Answers tell o seat joined migration homes before ps in
        let commands = reaches.commands ++ works.commands in
        let one : ℕ = if is_some_command works.commands then 1 else 0 in
        let first = tally-weaker o seat ws (Good tell o seat joined migration homes before ps) G before.seen works.log commands (reaches.count + one) (λ w good. good.0) (exchanged tell o seat joined migration homes before rounds at given last works settles reaches) in
        let story = story-on tell o seat joined migration homes before rounds at given last works settles reaches in
        let had = reaches.left in
        let few = some-left works.commands works.log works.found in
        keeps end (record { seen = after; ports = ps }) commands (reaches.count + one)
        (then-none o seat joined ws G (plain ps) before.seen works.log after commands (reaches.count + one) first adds) (omega (arith, had, few)) (last-of tell migration homes commands before.ports ps story)
        legal (unless end after (Sent commands ps) (BreaksOff seat after) ends story) ends

    round-keeps : (halt : Halt) (now : Standing P) (works : IsWork (outcome.Ended (wake.Stopped halt)) now) → Settles tell o seats seat migration homes works.commands (record { seen = works.log; ports = at.stands.ports }) (outcome.Ended (wake.Stopped halt)) now → Kept (wake.Stopped halt) now
    round-keeps halt now works settles =
        let call = settles.settled in
        works-keep (outcome.Ended (wake.Stopped halt)) now works settles (wake.Stopped halt) now.seen
        (tally-note o seat ws (Answers tell o seat joined migration homes before now.ports) joined works.log call.log now.seen what.Stopped [] call.past call.noted (plain now.ports call.log what.Stopped refl))
        call.legal (still-stopped o seat call.log halt what.Stopped [] now.seen call.told call.noted)

    -- ---- a last round after which the worker asks that all stop
    rests-noted : (G : Written → Type 0) → ((log : List Written) (said : What) → cause_of said ≡ None → G (next_note seat log said [])) → (why : Cause) (after : List Written)
        → RestsFor (caller_of o seats seat at.stands.ports) at.left rounds at.stands.seen why after → Tally o seat ws G at.stands.seen after [] 0
    rests-noted G good (cause.Spent given item number) after rests = looked o seat joined ws G good due (wake.Work (record { item = item; number = number })) at.stands.seen after rests.2
    rests-noted G good (cause.Port switch) after rests = absurd rests
    rests-noted G good (cause.Above item held begun) after rests = absurd rests
    rests-noted G good (cause.NotMine switch item) after rests = absurd rests
    rests-noted G good (cause.NoAnswer switch byte) after rests = absurd rests
    rests-noted G good cause.Disk after rests = absurd rests
    rests-noted G good cause.Memory after rests =
        ⊎_elim (λ same. subst (λ (seen : List Written). Tally o seat ws G at.stands.seen seen [] 0) (sym same) (tally-none o seat ws G at.stands.seen))
        (λ called. ⊎_elim (λ looks. looked o seat joined ws G good due wake.Memory at.stands.seen after looks)
        (λ lists. listed-none o seat joined ws G good due late lists.0 at.stands.seen after rests.0 lists.1) called) rests.1

    pub rests-add : (why : Cause) (after : List Written) → RestsFor (caller_of o seats seat at.stands.ports) at.left rounds at.stands.seen why after → Adds at.stands.ports at.stands.seen after
    rests-add = rests-noted (Answers tell o seat joined migration homes before at.stands.ports) (plain at.stands.ports)

    -- and the seat has stopped nothing until then
    pub rests-quiet : (why : Cause) (after : List Written) → RestsFor (caller_of o seats seat at.stands.ports) at.left rounds at.stands.seen why after → StopsNothing seat after
    rests-quiet why after rests =
        let ps = at.stands.ports in
        let G = Good tell o seat joined migration homes before ps in
        let good = plain-good tell o seat joined migration homes before ps in
        quiet-here ps after reaches.commands reaches.count (then-none o seat joined ws G good before.seen at.stands.seen after reaches.commands reaches.count reaches.tally (rests-noted G good why after rests))

    pub round-adds : (given : RoundEnd) (last : Standing P) (works : IsWork given last) (settles : Settles tell o seats seat migration homes works.commands (record { seen = works.log; ports = at.stands.ports }) given last) (why : Cause) (after : List Written)
        → StopsRound o seats seat works.log (told_by settles.told) why after → Adds last.ports works.log after
    round-adds given last works settles (cause.Spent rounds item number) after stops = absurd stops
    round-adds given last works settles (cause.Port switch) after stops = absurd stops
    round-adds given last works settles (cause.Above item held begun) after stops =
        tally-note o seat ws (Answers tell o seat joined migration homes before last.ports) joined works.log stops.log after (what.Alien item held begun) [] stops.past stops.noted (plain-answers tell o seat joined migration homes before last.ports stops.log (what.Alien item held begun))
    round-adds given last works settles (cause.NotMine switch item) after stops = absurd stops
    round-adds given last works settles (cause.NoAnswer switch byte) after stops = absurd stops
    round-adds given last works settles cause.Disk after stops =
        let h = history_of o stops.log in
        tally-note o seat ws (Answers tell o seat joined migration homes before last.ports) joined works.log stops.log after what.Disk (batch_at o h (told_by settles.told)) stops.past stops.noted
        (batch-answers tell o seat joined migration homes before reaches.commands works.commands settles.told h at.stands.ports last.ports reaches.story settles.exchanges)
    round-adds given last works settles cause.Memory after stops = unnoted o seat joined ws (Answers tell o seat joined migration homes before last.ports) (plain last.ports) works.log stops.log after stops.past stops.noted

    -- the stop itself
    pub stop-adds : (ports : List (SessionView P)) (why : Cause) (halt : Halt) (seen after : List Written) → IsStopCall o seats seat seen why halt after → Adds ports seen after
    stop-adds ports why halt seen after call = stop-noted ports why halt seen call.log after (has_asked seat call.log) call.past refl call.noted

    pub stop-ends : (why : Cause) (halt : Halt) (seen after : List Written) → IsStopCall o seats seat seen why halt after → IsEndAt o after (wake.Stopped halt)
    stop-ends why halt seen after call = stop-first seat call.log why halt after (has_asked seat call.log) refl call.noted call.told

    pub both-add : (ports : List (SessionView P)) (a b c : List Written) → Adds ports a b → Adds ports b c → Adds ports a c
    both-add ports a b c first second = then-none o seat joined ws (Answers tell o seat joined migration homes before ports) (plain ports) a b c [] 0 first second

    -- a round that broke
    breaks-off : (why : Cause) (halt : Halt) (ports : List (SessionView P)) (seen after : List Written) (commands : List Command) (count : ℕ) → IsBreak why → Has (Good tell o seat joined migration homes before ports) seen commands count → IsStopCall o seats seat seen why halt after → BreaksOff seat after
    breaks-off why halt ports seen after commands count breaks tally call =
        let asked = quiet-asks-not seat call.log (quiet-past seat joined seen call.log (quiet-here ports seen commands count tally) call.past) in
        record {
          why = why;
          breaks = breaks;
          log = call.log;
          is = call.noted ∙ ap (λ (b : Bool). if b then call.log else call.log ++ next_note seat call.log (what.Stop why) [] ∷ []) asked;
        }

    broken-keeps : (given : RoundEnd) (halt : Halt) (why : Cause) (now : Standing P) (last : Standing P) (works : IsWork given last) → IsBreak why → GoOn tell at.stands.ports last.ports → LastStoryEach tell migration homes (reaches.commands ++ works.commands) before.ports last.ports
        → IsStopCall o seats seat works.log why halt now.seen → now.ports ≡ last.ports → Kept (wake.Stopped halt) now
    broken-keeps given halt why now last works breaks goes sent call same =
        let ps = last.ports in
        let G = Answers tell o seat joined migration homes before ps in
        let commands = reaches.commands ++ works.commands in
        let one : ℕ = if is_some_command works.commands then 1 else 0 in
        let good = so-far tell o seat joined migration homes before rounds at given last works reaches goes in
        let first = tally-weaker o seat ws (Good tell o seat joined migration homes before ps) G before.seen works.log commands (reaches.count + one) (λ w g. g.0) good in
        let had = reaches.left in
        let few = some-left works.commands works.log works.found in
        subst (λ (ports : List (SessionView P)). Kept (wake.Stopped halt) (record { seen = now.seen; ports = ports })) (sym same)
        (keeps (wake.Stopped halt) (record { seen = now.seen; ports = ps }) commands (reaches.count + one)
        (then-none o seat joined ws G (plain ps) before.seen works.log now.seen commands (reaches.count + one) first (stop-adds ps why halt works.log now.seen call)) (omega (arith, had, few)) sent
        call.legal (inr (breaks-off why halt ps works.log now.seen commands (reaches.count + one) breaks good call)) (stop-ends why halt works.log now.seen call))

    -- by what came before it
    stop-keeps-rests : (halt : Halt) (now : Standing P) (stopped : HasStopped tell o seats seat migration homes rounds at halt now) → now.ports ≡ at.stands.ports → RestsFor (caller_of o seats seat at.stands.ports) at.left rounds at.stands.seen stopped.cause stopped.log → Kept (wake.Stopped halt) now
    stop-keeps-rests halt now stopped same rests =
        let ps = at.stands.ports in
        rests-keep (wake.Stopped halt) now same
        (both-add ps at.stands.seen stopped.log now.seen (rests-add stopped.cause stopped.log rests) (stop-adds ps stopped.cause halt stopped.log now.seen stopped.asked))
        stopped.asked.legal (stop-ends stopped.cause halt stopped.log now.seen stopped.asked)

    stop-keeps-settles : (halt : Halt) (now : Standing P) (stopped : HasStopped tell o seats seat migration homes rounds at halt now) (works : IsWork (outcome.Stops stopped.cause) (record { seen = stopped.log; ports = now.ports }))
        → Settles tell o seats seat migration homes works.commands (record { seen = works.log; ports = at.stands.ports }) (outcome.Stops stopped.cause) (record { seen = stopped.log; ports = now.ports }) → Kept (wake.Stopped halt) now
    stop-keeps-settles halt now stopped works settles =
        let last : Standing P = record { seen = stopped.log; ports = now.ports } in
        let given = outcome.Stops stopped.cause in
        works-keep given last works settles (wake.Stopped halt) now.seen
        (both-add now.ports works.log stopped.log now.seen (round-adds given last works settles stopped.cause stopped.log settles.settled) (stop-adds now.ports stopped.cause halt stopped.log now.seen stopped.asked))
        stopped.asked.legal (stop-ends stopped.cause halt stopped.log now.seen stopped.asked)

    stop-keeps-breaks : (halt : Halt) (now : Standing P) (stopped : HasStopped tell o seats seat migration homes rounds at halt now) (works : IsWork (outcome.Stops stopped.cause) (record { seen = stopped.log; ports = now.ports }))
        → stopped.log ≡ works.log → StopsInOffer tell migration homes stopped.cause at.stands.ports works.commands now.ports ⊎ StopsInHear tell migration homes stopped.cause at.stands.ports works.commands now.ports → Kept (wake.Stopped halt) now
    stop-keeps-breaks halt now stopped works same (inl stops) =
        let bs = at.stands.ports in
        broken-keeps (outcome.Stops stopped.cause) halt stopped.cause now (record { seen = stopped.log; ports = now.ports }) works (offer-breaks tell stopped.cause bs now.ports stops.cause) (offer-goes tell migration homes stopped.cause works.commands bs now.ports stops)
        (stories_end_in_offer tell migration homes reaches.commands works.commands before.ports bs now.ports reaches.story stops.offers)
        (subst (λ (seen : List Written). IsStopCall o seats seat seen stopped.cause halt now.seen) same stopped.asked) refl
    stop-keeps-breaks halt now stopped works same (inr stops) =
        let bs = at.stands.ports in
        broken-keeps (outcome.Stops stopped.cause) halt stopped.cause now (record { seen = stopped.log; ports = now.ports }) works (hear-breaks tell migration homes stopped.cause stops.offered now.ports stops.cause) (hear-goes tell migration homes stopped.cause works.commands bs now.ports stops)
        (stories_end_in_hear tell migration homes reaches.commands works.commands before.ports bs stops.offered now.ports reaches.story stops.offers stops.listens)
        (subst (λ (seen : List Written). IsStopCall o seats seat seen stopped.cause halt now.seen) same stopped.asked) refl

    stop-keeps : (halt : Halt) (now : Standing P) → HasStopped tell o seats seat migration homes rounds at halt now → Kept (wake.Stopped halt) now
    stop-keeps halt now stopped =
        ⊎_elim (λ rests. stop-keeps-rests halt now stopped rests.0 rests.1)
        (λ works. ⊎_elim (λ settles. stop-keeps-settles halt now stopped works settles) (λ breaks. stop-keeps-breaks halt now stopped works breaks.0 breaks.1) works.exchanged) stopped.worked

    -- ---- every last round
    last-keeps : (end : Wake) (now : Standing P) → IsLast tell o seats seat migration homes rounds at end now → Kept end now
    last-keeps (wake.Work op) now last = absurd last
    last-keeps wake.Finished now last =
        ⊎_elim (λ rests. finished-keeps now rests.0 rests.1.1) (λ works. absurd (⊎_elim (λ settles. settles.settled) (λ breaks. breaks) works.exchanged)) last
    last-keeps wake.Held now last =
        ⊎_elim (λ rests. held-keeps now rests.0 rests.1.1) (λ works. absurd (⊎_elim (λ settles. settles.settled) (λ breaks. breaks) works.exchanged)) last
    last-keeps (wake.Stopped halt) now (inl last) =
        ⊎_elim (λ rests. ⊎_elim (λ looks. look-keeps halt now rests.0 looks) (λ lists. list-keeps halt now lists.0 rests.1.0 rests.0 lists.1) rests.1.1)
        (λ works. ⊎_elim (λ settles. round-keeps halt now works settles) (λ breaks. absurd breaks) works.exchanged) last
    last-keeps (wake.Stopped halt) now (inr stopped) = stop-keeps halt now stopped
    last-keeps wake.Memory now last = absurd last

  -- all of it
  pub serves-keeps : (end : Wake) (now : Standing P) → All (λ t. IsTrue t.stream.live) before.ports → Served tell o (seat ∷ joined) seat migration homes rounds before end now → Promises tell o seat migration homes rounds before end now
  serves-keeps end now live served =
      last-keeps served.at
      (reaches-all tell o seat joined migration homes before rounds (record { stands = before; left = rounds }) served.moments served.at (reaches-first tell o seat joined migration homes before rounds live) served.whole) end now served.last
