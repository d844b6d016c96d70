-- Whose the first stop is that ends a worker, and why.
use Rattle.std.proofs.Common.{◌≡◌, ◌≢◌, ◌⊎◌, ℕ, ◌≤◌, false, List, [], ◌∷◌, ◌++◌, All, Option, Some, None, refl, sym, ap, ◌∙◌, ⊎_elim, inl, inr, subst, arith, append_assoc, slice_index_or}
use Rattle.std.proofs.lemmas.List.Elements.{Contains-get_or}
use Rattle.std.specs.List.{AllZip, Contains}
use Rattle.std.specs.Prelude.{IsTrue}
use Rattle.lists.proofs.Conditions.{some_same_is}
use Rattle.lists.proofs.Numbers.{at_most_through}
use Rattle.rollout_rules.specs.History.{settled}
use Rattle.rollout_rules.specs.declared.op.Op.{Op}
use Rattle.rollout_rules.specs.declared.op.Entry.{Entry}
use Rattle.wan_edge.specs.Frames.{Answer, Command}
use Rattle.wan_edge.specs.Ports.{PortTrace}
use Rattle.wan_edge.specs.Streams.{Rose}
use Rattle.wan_edge.proofs.Faults.{rose_since}
use Rattle.rollout_book.specs.Aliens.{told_by}
use Rattle.rollout_book.specs.declared.fault.BookFault.TheVariants as fault
use Rattle.port_session.specs.Sessions.{SessionView}
use Rattle.shared_book.specs.declared.note.Cause.{Cause}
use Rattle.shared_book.specs.declared.note.Cause.TheVariants as cause
use Rattle.shared_book.specs.declared.note.What.{What}
use Rattle.shared_book.specs.declared.note.What.TheVariants as what
use Rattle.shared_book.specs.declared.note.Written.{Written}
use Rattle.shared_book.specs.declared.call_reply.Halt.{Halt}
use Rattle.shared_book.specs.declared.call_reply.ListReply.TheVariants as list
use Rattle.shared_book.specs.declared.call_reply.Wake.TheVariants as wake
use Rattle.shared_book.specs.Histories.{Opening, history_of}
use Rattle.shared_book.specs.Knows.{next_note}
use Rattle.shared_book.specs.Notes.{calls_by, cause_of, first_stop}
use Rattle.shared_book.specs.Replies.{asked_at, batch_at, halt_or}
use Rattle.shared_book.proofs.Stops.{first_stop-stays}
use Rattle.shared_book.specs.Calls.{IsRoundCall, IsStopCall}
use Rattle.shared_book.specs.declared.reply.RoundReply.TheVariants as round
use Rattle.switch_ports.specs.Due.{any_late, due_of}
use Rattle.switch_ports.specs.Outboxes.{own}
use Rattle.switch_ports.specs.Offering.{IsOfferCause, OffersAll}
use Rattle.switch_ports.specs.Rows.{AtOne, OffersAllEach}
use Rattle.switch_ports.specs.Stories.{Story, StoryEach}
use Rattle.switch_ports.specs.Views.{view}
use Rattle.controller_run.specs.Exchanging.{StopsInHear, StopsInOffer}
use Rattle.controller_run.specs.Finding.{Lists, Looks}
use Rattle.controller_run.specs.Promises.{AreListed, IsToldAtHome, StopsNothing, switches_of}
use Rattle.controller_run.specs.Reasons.{AreHeardOut, FailedAt, HasCome, HasFailed, IsReason}
use Rattle.controller_run.specs.Serving.{HasStopped, IsLast, Moment, Served, caller_of}
use Rattle.controller_run.specs.Settling.{StopsRound}
use Rattle.controller_run.specs.Working.{RestsFor, Settles, Standing}
use Rattle.controller_run.specs.declared.round_end.RoundEnd.{RoundEnd}
use Rattle.controller_run.specs.declared.round_end.RoundEnd.TheVariants as outcome
use Rattle.switch_ports.proofs.Lateness.{all_due}
use Rattle.controller_run.proofs.Enough.{owed-come}
use Rattle.controller_run.proofs.HeardOut.{IsRow, row-of}
use Rattle.controller_run.proofs.Passed.{asked-next, passed-behind}
use Rattle.controller_run.proofs.Answered.{told-answer}
use Rattle.controller_run.proofs.Endings.{first-stops, list-stopped, look-stopped, look-works}
use Rattle.controller_run.proofs.Keeps.{IsWork, hear-breaks, no-one, quiet-here, rests-quiet, stop-adds, stop-ends, ws}
use Rattle.controller_run.proofs.Noted.{looked, then-none}
use Rattle.controller_run.proofs.Ports.{GoOn, home-now, hear-goes, offer-goes, one-behind, same-switches, zip-chain, zip-weaker}
use Rattle.controller_run.proofs.Quiet.{quiet-first, quiet-past}
use Rattle.controller_run.proofs.Reaches.{Answers, Good, Reaches, exchanged, plain-answers, plain-good, reaches-all, reaches-first, so-far}
use Rattle.controller_run.proofs.Reasoned.{round-alien}
use Rattle.controller_run.proofs.Tallies.{Tally, tally-weaker}

-- ---- the stop of a seat that had stopped nothing
own-why : (s : Option Halt) (own halt : Halt) (seat : ℕ) → halt ≡ halt_or s own → ((first : Halt) → s ≡ Some first → first.seat ≢ seat) → halt.seat ≡ seat → halt.cause ≡ own.cause
own-why (Some first) own halt seat told others mine = absurd (others first refl (ap (λ (h : Halt). h.seat) (sym told) ∙ mine))
own-why None own halt seat told others mine = ap (λ (h : Halt). h.cause) told

stop-own : (o : Opening) (seat : ℕ) (joined : List ℕ) (seen after : List Written) (why : Cause) (halt : Halt) → StopsNothing seat seen → IsStopCall o (seat ∷ joined) seat seen why halt after → halt.seat ≡ seat → halt.cause ≡ why
stop-own o seat joined seen after why halt quiet call mine =
    let still = quiet-past seat joined seen call.log quiet call.past in
    own-why (first_stop call.log) (record { seat = seat; call = calls_by seat call.log; cause = why }) halt seat call.told (λ first is. quiet-first seat call.log first still is) mine

-- ---- ports that failed

module _ {P : Type 0} (tell : P → PortTrace) where
  -- the same port, whose count hasn't fallen
  Later : SessionView P → SessionView P → Type 0
  Later before now = (now.switch ≡ before.switch) × ((tell before.port).faults ≤ (tell now.port).faults)

  failed-behind : (switch : ℕ) (ps bs ns : List (SessionView P)) → AllZip Later ps bs → AtOne (λ b n. (switch ≡ b.switch) × Rose (tell b.port).faults (tell n.port).faults) bs ns → HasFailed tell switch ps ns
  unfolding Later
  failed-behind switch = one-behind Later (λ b n. (switch ≡ b.switch) × Rose (tell b.port).faults (tell n.port).faults) (λ a c. FailedAt switch (view tell a) (view tell c))
      (λ a b c later failed. (sym (failed.0 ∙ later.0), rose_since (tell a.port).faults (tell b.port).faults (tell c.port).faults later.1 failed.1))

  module _ (migration : ℕ) (homes : List (Option ℕ)) where
    story-later : (commands : List Command) (ps bs : List (SessionView P)) → StoryEach tell migration homes commands ps bs → AllZip Later ps bs
    unfolding Later
    story-later commands = zip-weaker (λ a b. Story migration homes commands (view tell a) (view tell b)) Later (λ a b story. (story.switch, story.goes_on.count))

    offers-later : (commands : List Command) (bs os : List (SessionView P)) → OffersAllEach tell migration homes commands bs os → AllZip Later bs os
    unfolding Later
    offers-later commands = zip-weaker (λ a b. OffersAll migration (own homes a.switch commands) (view tell a) (view tell b)) Later (λ a b offers. (offers.some.switch, offers.some.goes_on.count))

    later-on : (ps bs os : List (SessionView P)) → AllZip Later ps bs → AllZip Later bs os → AllZip Later ps os
    unfolding Later
    later-on = zip-chain Later Later Later (λ a b c first second. (second.0 ∙ first.0, at_most_through (tell a.port).faults (tell b.port).faults (tell c.port).faults first.1 second.1))

module _ {P : Type 0} (tell : P → PortTrace) (o : Opening) (seat : ℕ) (joined : List ℕ) (migration : ℕ) (homes : List (Option ℕ)) (rounds : ℕ) (before : Standing P) (quiet_before : StopsNothing seat before.seen) where
  abbrev Reasons : Cause → Standing P → Type 0
  Reasons why now = IsReason tell o seat migration homes rounds before why now

  -- the rounds so far, each heard out, and how many of them offered commands
  abbrev Row : Moment P → Type 0
  Row m = IsRow tell o (seat ∷ joined) seat migration homes rounds (record { stands = before; left = rounds }) m

  module _ (at : Moment P) (reaches : Reaches tell o seat joined migration homes before rounds at) (row : Row at) where
    abbrev Mine : RoundEnd → Standing P → Type 0
    Mine given now = IsWork tell o seat joined migration homes rounds before quiet_before at reaches given now

    abbrev Adding : List (SessionView P) → List Written → List Written → Type 0
    Adding ports seen after = Tally o seat (switches_of before.ports) (Answers tell o seat joined migration homes before ports) seen after [] 0

    -- ---- a last round in which nothing went out
    spent-reason : (given : ℕ) (op : Op) (log seen : List Written) → at.left ≡ 0 → given ≡ rounds → Looks (caller_of o (seat ∷ joined) seat at.stands.ports) at.stands.seen (wake.Work op) log → any_late at.stands.ports ≡ false → Adding at.stands.ports log seen
        → Reasons (cause.Spent given op.item op.number) (record { seen = seen; ports = at.stands.ports })
    spent-reason given op log seen none given_is call prompt adds =
        let ps = at.stands.ports in
        let sw = switches_of before.ports in
        let due = due_of ps in
        let all_are = all_due ps prompt in
        let all_first : due ≡ sw = all_are.due ∙ same-switches tell migration homes reaches.commands before.ports ps reaches.story in
        let G = Answers tell o seat joined migration homes before ps in
        let plain = λ (l : List Written) (said : What) (quiet : cause_of said ≡ None). plain-answers tell o seat joined migration homes before ps l said in
        let first = tally-weaker o seat sw (Good tell o seat joined migration homes before ps) G before.seen at.stands.seen reaches.commands reaches.count (λ w good. good.0) reaches.tally in
        let mid = then-none o seat joined sw G plain before.seen at.stands.seen log reaches.commands reaches.count first (looked o seat joined sw G plain due (wake.Work op) at.stands.seen log call) in
        let all = then-none o seat joined sw G plain before.seen log seen reaches.commands reaches.count mid adds in
        let found = look-works o seat call.log due op call.told in
        let note = next_note seat call.log what.Work [] in
        let had = reaches.left in
        let all_given : reaches.count ≡ rounds = omega (arith, had, none) in
        let count = row.less in
        let spent : row.used ≡ rounds = omega (arith, count, none) in
        let h = history_of o call.log in
        let flying : Contains (asked_at o.rollout.problem h sw) op
        = subst (λ (ws : List ℕ). Contains (asked_at o.rollout.problem h ws) op) all_first
        (subst (λ (ops : List Op). Contains ops op) (sym found.2) (0, omega arith, refl)) in
        let next = asked-next o.rollout.problem h sw op flying in
        record {
          given_is = given_is;
          more = all.more;
          goes_on = all.is;
          listed = reaches.commands;
          lists = subst (λ (n : ℕ). AreListed o seat sw before.seen all.more reaches.commands n) all_given all.lists;
          sent = reaches.story;
          due = prompt;
          rows = row.rows;
          told = row.told;
          heard_out = subst (λ (n : ℕ). AreHeardOut tell migration homes row.rows n row.told before.ports ps) spent row.heard_out;
          uncovered = λ k d inside same.
              let a = slice_index_or row.told k d in
              let passed = passed-behind o at.stands.seen call.log call.past.past call.past.is a (row.passed a (Contains-get_or row.told k d inside)) in
              let few : a.held ≤ settled h op.item = subst (λ (n : ℕ). a.held ≤ settled h n) same passed in
              omega (arith, few, next);
          come = λ same. subst (λ (n : ℕ). HasCome tell n before.ports ps) spent (owed-come tell row.used before.ports ps all_are.none (row.come same));
          log = call.log;
          later = note ∷ adds.more;
          is = adds.is ∙ ap (λ (ws : List Written). ws ++ adds.more) call.noted ∙ append_assoc call.log (note ∷ []) adds.more;
          flies = flying;
        }

    rest-reason : (why : Cause) (log seen : List Written) → RestsFor (caller_of o (seat ∷ joined) seat at.stands.ports) at.left rounds at.stands.seen why log → Adding at.stands.ports log seen → Reasons why (record { seen = seen; ports = at.stands.ports })
    rest-reason (cause.Spent given item number) log seen rests adds = spent-reason given (record { item = item; number = number }) log seen rests.0 rests.1 rests.2 rests.3 adds
    rest-reason (cause.Port switch) log seen rests adds = absurd rests
    rest-reason (cause.Above item held begun) log seen rests adds = absurd rests
    rest-reason (cause.NotMine switch item) log seen rests adds = absurd rests
    rest-reason (cause.NoAnswer switch byte) log seen rests adds = absurd rests
    rest-reason cause.Disk log seen rests adds = absurd rests
    rest-reason cause.Memory log seen rests adds = tt

    -- ---- a last round whose answers were refused
    module _ (given : RoundEnd) (last : Standing P) (works : Mine given last) (settles : Settles tell o (seat ∷ joined) seat migration homes works.commands (record { seen = works.log; ports = at.stands.ports }) given last) where
      above-reason : (item held begun : ℕ) (log seen : List Written) → IsRoundCall o (seat ∷ joined) seat works.log (told_by settles.told) (round.Refused (fault.Alien item held begun)) log → Adding last.ports log seen
          → Reasons (cause.Above item held begun) (record { seen = seen; ports = last.ports })
      above-reason item held begun log seen call adds =
          let h = history_of o call.log in
          let found = round-alien o.rollout.problem h item held begun (first_stop call.log) (told_by settles.told) (batch_at o h (told_by settles.told)) call.told.0 call.told.1 in
          let answer = told-answer settles.told (record { item = item; number = held }) found.among in
          let note = next_note seat call.log (what.Alien item held begun) [] in
          let same : answer.0 ≡ record { item = item; held = held } = λ i. record { item = ap (λ (x : Op). x.item) answer.2 i; held = ap (λ (x : Op). x.number) answer.2 i } in
          record {
            log = call.log;
            later = note ∷ adds.more;
            is = adds.is ∙ ap (λ (ws : List Written). ws ++ adds.more) call.noted ∙ append_assoc call.log (note ∷ []) adds.more;
            alien = found.alien;
            begun_is = found.begun_is;
            told = subst (λ (a : Answer). IsToldAtHome tell migration homes before.ports a last.ports) same
                (home-now tell migration homes reaches.commands works.commands settles.told answer.0 before.ports at.stands.ports last.ports reaches.story settles.exchanges answer.1);
          }

      disk-reason : (log seen : List Written) → IsRoundCall o (seat ∷ joined) seat works.log (told_by settles.told) (round.Refused fault.Disk) log → Adding last.ports log seen → Reasons cause.Disk (record { seen = seen; ports = last.ports })
      disk-reason log seen call adds =
          let es = batch_at o (history_of o call.log) (told_by settles.told) in
          let note = next_note seat call.log what.Disk es in
          record {
            log = call.log;
            entries = es;
            later = adds.more;
            is = adds.is ∙ ap (λ (ws : List Written). ws ++ adds.more) call.noted ∙ append_assoc call.log (note ∷ []) adds.more;
          }

      round-reason : (why : Cause) (log seen : List Written) → StopsRound o (seat ∷ joined) seat works.log (told_by settles.told) why log → Adding last.ports log seen → Reasons why (record { seen = seen; ports = last.ports })
      round-reason (cause.Spent rounds item number) log seen stops adds = absurd stops
      round-reason (cause.Port switch) log seen stops adds = absurd stops
      round-reason (cause.Above item held begun) log seen stops adds = above-reason item held begun log seen stops adds
      round-reason (cause.NotMine switch item) log seen stops adds = absurd stops
      round-reason (cause.NoAnswer switch byte) log seen stops adds = absurd stops
      round-reason cause.Disk log seen stops adds = disk-reason log seen stops adds
      round-reason cause.Memory log seen stops adds = tt

      -- the first stop is that of the round
      round-stops : (said : What) (es : List Entry) (why : Cause) (call_log log seen : List Written) (halt : Halt) → first_stop call_log ≡ None → cause_of said ≡ Some why → log ≡ call_log ++ next_note seat call_log said es ∷ [] → Adding last.ports log seen
          → first_stop seen ≡ Some halt → halt.cause ≡ why
      round-stops said es why call_log log seen halt none stops noted adds first =
          let mine = first-stops o seat call_log said es why log none stops noted in
          let ever : first_stop seen ≡ Some mine.0 = ap first_stop adds.is ∙ first_stop-stays log adds.more mine.0 mine.1 in
          ap (λ (h : Halt). h.cause) (some_same_is halt mine.0 (sym first ∙ ever)) ∙ mine.3

      round-why : (why : Cause) (log seen : List Written) (halt : Halt) → StopsRound o (seat ∷ joined) seat works.log (told_by settles.told) why log → IsStopCall o (seat ∷ joined) seat log why halt seen → Adding last.ports log seen → first_stop seen ≡ Some halt → halt.seat ≡ seat → halt.cause ≡ why
      round-why (cause.Spent rounds item number) log seen halt stops asked adds first mine = absurd stops
      round-why (cause.Port switch) log seen halt stops asked adds first mine = absurd stops
      round-why (cause.Above item held begun) log seen halt stops asked adds first mine = round-stops (what.Alien item held begun) [] (cause.Above item held begun) stops.log log seen halt stops.told.0 refl stops.noted adds first
      round-why (cause.NotMine switch item) log seen halt stops asked adds first mine = absurd stops
      round-why (cause.NoAnswer switch byte) log seen halt stops asked adds first mine = absurd stops
      round-why cause.Disk log seen halt stops asked adds first mine = round-stops what.Disk (batch_at o (history_of o stops.log) (told_by settles.told)) cause.Disk stops.log log seen halt stops.told.0 refl stops.noted adds first
      round-why cause.Memory log seen halt stops asked adds first mine =
          let quiet = quiet-here tell o seat joined migration homes rounds before quiet_before last.ports works.log _ _ (exchanged tell o seat joined migration homes before rounds at given last works settles reaches) in
          stop-own o seat joined log seen cause.Memory halt (subst (StopsNothing seat) (sym stops.noted) (quiet-past seat joined works.log stops.log quiet stops.past)) asked mine

    -- ---- a last round that broke
    offer-reason : (why : Cause) (commands : List Command) (seen : List Written) (ports : List (SessionView P)) → StopsInOffer tell migration homes why at.stands.ports commands ports → Reasons why (record { seen = seen; ports = ports })
    offer-reason (cause.Spent given item number) commands seen ports stops = absurd (no-one (λ b n. IsOfferCause (cause.Spent given item number) (view tell b) (view tell n)) (λ b n none. none) at.stands.ports ports stops.cause)
    offer-reason (cause.Port switch) commands seen ports stops = failed-behind tell switch before.ports at.stands.ports ports (story-later tell migration homes reaches.commands before.ports at.stands.ports reaches.story) stops.cause
    offer-reason (cause.Above item held begun) commands seen ports stops = absurd (no-one (λ b n. IsOfferCause (cause.Above item held begun) (view tell b) (view tell n)) (λ b n none. none) at.stands.ports ports stops.cause)
    offer-reason (cause.NotMine switch item) commands seen ports stops = absurd (no-one (λ b n. IsOfferCause (cause.NotMine switch item) (view tell b) (view tell n)) (λ b n none. none) at.stands.ports ports stops.cause)
    offer-reason (cause.NoAnswer switch byte) commands seen ports stops = absurd (no-one (λ b n. IsOfferCause (cause.NoAnswer switch byte) (view tell b) (view tell n)) (λ b n none. none) at.stands.ports ports stops.cause)
    offer-reason cause.Disk commands seen ports stops = absurd (no-one (λ b n. IsOfferCause cause.Disk (view tell b) (view tell n)) (λ b n none. none) at.stands.ports ports stops.cause)
    offer-reason cause.Memory commands seen ports stops = tt

    hear-reason : (why : Cause) (commands : List Command) (seen : List Written) (ports : List (SessionView P)) → StopsInHear tell migration homes why at.stands.ports commands ports → Reasons why (record { seen = seen; ports = ports })
    hear-reason (cause.Spent given item number) commands seen ports stops = absurd (hear-breaks tell migration homes (cause.Spent given item number) stops.offered ports stops.cause)
    hear-reason (cause.Port switch) commands seen ports stops =
        failed-behind tell switch before.ports stops.offered ports
        (later-on tell migration homes before.ports at.stands.ports stops.offered (story-later tell migration homes reaches.commands before.ports at.stands.ports reaches.story) (offers-later tell migration homes commands at.stands.ports stops.offered stops.offers)) stops.cause
    hear-reason (cause.Above item held begun) commands seen ports stops = absurd (hear-breaks tell migration homes (cause.Above item held begun) stops.offered ports stops.cause)
    hear-reason (cause.NotMine switch item) commands seen ports stops = record { earlier = reaches.commands; at = at.stands.ports; story = reaches.story; commands = commands; stops = stops }
    hear-reason (cause.NoAnswer switch byte) commands seen ports stops = record { earlier = reaches.commands; at = at.stands.ports; story = reaches.story; commands = commands; stops = stops }
    hear-reason cause.Disk commands seen ports stops = absurd (hear-breaks tell migration homes cause.Disk stops.offered ports stops.cause)
    hear-reason cause.Memory commands seen ports stops = tt

    -- ---- the end
    stopped-adds : (halt : Halt) (now : Standing P) (ports : List (SessionView P)) → (stopped : HasStopped tell o (seat ∷ joined) seat migration homes rounds at halt now) → Adding ports stopped.log now.seen
    stopped-adds halt now ports stopped = stop-adds tell o seat joined migration homes rounds before quiet_before at reaches ports stopped.cause halt stopped.log now.seen stopped.asked

    stopped-first : (halt : Halt) (now : Standing P) → (stopped : HasStopped tell o (seat ∷ joined) seat migration homes rounds at halt now) → first_stop now.seen ≡ Some halt
    stopped-first halt now stopped = stop-ends tell o seat joined migration homes rounds before quiet_before at reaches stopped.cause halt stopped.log now.seen stopped.asked

    stopped-rests : (halt : Halt) (now : Standing P) (stopped : HasStopped tell o (seat ∷ joined) seat migration homes rounds at halt now) → now.ports ≡ at.stands.ports
        → RestsFor (caller_of o (seat ∷ joined) seat at.stands.ports) at.left rounds at.stands.seen stopped.cause stopped.log → halt.seat ≡ seat → Reasons halt.cause now
    stopped-rests halt now stopped same rests mine =
        let ps = at.stands.ports in
        let quiet = rests-quiet tell o seat joined migration homes rounds before quiet_before at reaches stopped.cause stopped.log rests in
        let why = stop-own o seat joined stopped.log now.seen stopped.cause halt quiet stopped.asked mine in
        subst (λ (c : Cause). Reasons c now) (sym why)
        (subst (λ (ports : List (SessionView P)). Reasons stopped.cause (record { seen = now.seen; ports = ports })) (sym same)
        (rest-reason stopped.cause stopped.log now.seen rests (stopped-adds halt now ps stopped)))

    stopped-settles : (halt : Halt) (now : Standing P) (stopped : HasStopped tell o (seat ∷ joined) seat migration homes rounds at halt now) (works : Mine (outcome.Stops stopped.cause) (record { seen = stopped.log; ports = now.ports }))
        → Settles tell o (seat ∷ joined) seat migration homes works.commands (record { seen = works.log; ports = at.stands.ports }) (outcome.Stops stopped.cause) (record { seen = stopped.log; ports = now.ports }) → halt.seat ≡ seat → Reasons halt.cause now
    stopped-settles halt now stopped works settles mine =
        let given = outcome.Stops stopped.cause in
        let last : Standing P = record { seen = stopped.log; ports = now.ports } in
        let adds = stopped-adds halt now now.ports stopped in
        let why = round-why given last works settles stopped.cause stopped.log now.seen halt settles.settled stopped.asked adds (stopped-first halt now stopped) mine in
        subst (λ (c : Cause). Reasons c now) (sym why) (round-reason given last works settles stopped.cause stopped.log now.seen settles.settled adds)

    broken-why : (given : RoundEnd) (last : Standing P) (works : Mine given last) (why : Cause) (halt : Halt) (seen after : List Written) → seen ≡ works.log → GoOn tell at.stands.ports last.ports → IsStopCall o (seat ∷ joined) seat seen why halt after → halt.seat ≡ seat → halt.cause ≡ why
    broken-why given last works why halt seen after same goes asked mine =
        let quiet = quiet-here tell o seat joined migration homes rounds before quiet_before last.ports works.log _ _ (so-far tell o seat joined migration homes before rounds at given last works reaches goes) in
        stop-own o seat joined seen after why halt (subst (StopsNothing seat) (sym same) quiet) asked mine

    stopped-breaks : (halt : Halt) (now : Standing P) (stopped : HasStopped tell o (seat ∷ joined) seat migration homes rounds at halt now) (works : Mine (outcome.Stops stopped.cause) (record { seen = stopped.log; ports = now.ports }))
        → stopped.log ≡ works.log → StopsInOffer tell migration homes stopped.cause at.stands.ports works.commands now.ports ⊎ StopsInHear tell migration homes stopped.cause at.stands.ports works.commands now.ports → halt.seat ≡ seat → Reasons halt.cause now
    stopped-breaks halt now stopped works same (inl stops) mine =
        let why = broken-why (outcome.Stops stopped.cause) (record { seen = stopped.log; ports = now.ports }) works stopped.cause halt stopped.log now.seen same (offer-goes tell migration homes stopped.cause works.commands at.stands.ports now.ports stops) stopped.asked mine in
        subst (λ (c : Cause). Reasons c now) (sym why) (offer-reason stopped.cause works.commands now.seen now.ports stops)
    stopped-breaks halt now stopped works same (inr stops) mine =
        let why = broken-why (outcome.Stops stopped.cause) (record { seen = stopped.log; ports = now.ports }) works stopped.cause halt stopped.log now.seen same (hear-goes tell migration homes stopped.cause works.commands at.stands.ports now.ports stops) stopped.asked mine in
        subst (λ (c : Cause). Reasons c now) (sym why) (hear-reason stopped.cause works.commands now.seen now.ports stops)

    stopped-reason : (halt : Halt) (now : Standing P) → HasStopped tell o (seat ∷ joined) seat migration homes rounds at halt now → halt.seat ≡ seat → Reasons halt.cause now
    stopped-reason halt now stopped mine =
        ⊎_elim (λ rests. stopped-rests halt now stopped rests.0 rests.1 mine)
        (λ works. ⊎_elim (λ settles. stopped-settles halt now stopped works settles mine) (λ breaks. stopped-breaks halt now stopped works breaks.0 breaks.1 mine) works.exchanged) stopped.worked

    -- a stop that the worker was told is another's
    quiet-at : StopsNothing seat at.stands.seen
    quiet-at = quiet-here tell o seat joined migration homes rounds before quiet_before at.stands.ports at.stands.seen reaches.commands reaches.count reaches.tally

    looks-other : (halt : Halt) (after : List Written) → Looks (caller_of o (seat ∷ joined) seat at.stands.ports) at.stands.seen (wake.Stopped halt) after → halt.seat ≢ seat
    looks-other halt after call = quiet-first seat call.log halt (quiet-past seat joined at.stands.seen call.log quiet-at call.past) (look-stopped o seat call.log (due_of at.stands.ports) halt call.told)

    lists-other : (halt : Halt) (after : List Written) (op : Op) (commands : List Command) → Lists (caller_of o (seat ∷ joined) seat at.stands.ports) op at.stands.seen commands (list.Stopped halt) after → halt.seat ≢ seat
    lists-other halt after op commands lists =
        let ps = at.stands.ports in
        let sw = switches_of before.ports in
        let G = Good tell o seat joined migration homes before ps in
        let good = plain-good tell o seat joined migration homes before ps in
        let call = lists.listed in
        let awake = quiet-here tell o seat joined migration homes rounds before quiet_before ps lists.awake reaches.commands reaches.count
        (then-none o seat joined sw G good before.seen at.stands.seen lists.awake reaches.commands reaches.count reaches.tally (looked o seat joined sw G good (due_of ps) (wake.Work op) at.stands.seen lists.awake lists.looks)) in
        quiet-first seat call.log halt (quiet-past seat joined lists.awake call.log awake call.past) (list-stopped o seat call.log halt call.told)

    round-other : (halt : Halt) (now : Standing P) (works : Mine (outcome.Ended (wake.Stopped halt)) now) → Settles tell o (seat ∷ joined) seat migration homes works.commands (record { seen = works.log; ports = at.stands.ports }) (outcome.Ended (wake.Stopped halt)) now → halt.seat ≢ seat
    round-other halt now works settles =
        let call = settles.settled in
        let quiet = quiet-here tell o seat joined migration homes rounds before quiet_before now.ports works.log _ _ (exchanged tell o seat joined migration homes before rounds at (outcome.Ended (wake.Stopped halt)) now works settles reaches) in
        quiet-first seat call.log halt (quiet-past seat joined works.log call.log quiet call.past) call.told

    last-reason : (halt : Halt) (now : Standing P) → IsLast tell o (seat ∷ joined) seat migration homes rounds at (wake.Stopped halt) now → halt.seat ≡ seat → Reasons halt.cause now
    last-reason halt now (inl last) mine =
        absurd
        (⊎_elim (λ rests. ⊎_elim (λ looks. looks-other halt now.seen looks) (λ lists. lists-other halt now.seen lists.0 rests.1.0 lists.1) rests.1.1)
        (λ works. ⊎_elim (λ settles. round-other halt now works settles) (λ breaks. absurd breaks) works.exchanged) last mine)
    last-reason halt now (inr stopped) mine = stopped-reason halt now stopped mine

  pub serves-reason : (halt : Halt) (now : Standing P) → All (λ t. IsTrue t.stream.live) before.ports → Served tell o (seat ∷ joined) seat migration homes rounds before (wake.Stopped halt) now → halt.seat ≡ seat → Reasons halt.cause now
  serves-reason halt now live served mine =
      last-reason served.at
      (reaches-all tell o seat joined migration homes before rounds (record { stands = before; left = rounds }) served.moments served.at (reaches-first tell o seat joined migration homes before rounds live) served.whole)
      (row-of tell o (seat ∷ joined) seat migration homes rounds served.moments (record { stands = before; left = rounds }) served.at served.whole) halt now served.last mine
