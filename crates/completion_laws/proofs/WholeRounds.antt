-- A worker over prompt ports that have answered all: each round that lists a command settles an operation, and no stop comes without an excuse.
use Rattle.std.proofs.Common.{◌≡◌, ◌⊎◌, ℕ, ◌+◌, ◌^◌, ◌<◌, ◌≤◌, Bool, true, false, List, [], ◌∷◌, ◌++◌, length, slice_index_or, nat_le, nat_lt, Option, Some, inl, inr, refl, sym, ap, ◌∙◌, subst, ⊎_elim, arith, append_assoc, append-nil, le-leb, lt-ltb, if◌then◌else◌}
use Rattle.std.proofs.lemmas.Bool.{both_ways, false≢true, not_from_true}
use Rattle.std.proofs.lemmas.List.Elements.{All-contains, All-filter, All-head, All-map, All-tail, Contains-get_or, filter_passes}
use Rattle.std.specs.List.{All, Contains, filter}
use Rattle.lists.proofs.Conditions.{some_same_is}
use Rattle.rollout_rules.specs.Network.{IsNetwork}
use Rattle.rollout_rules.specs.Items.{item_count}
use Rattle.rollout_rules.specs.Valid.{is_valid_plan}
use Rattle.rollout_rules.specs.Sums.{list_below}
use Rattle.rollout_rules.specs.History.{History, begun, flies, settled, with_entries}
use Rattle.rollout_rules.specs.Legal.{is_legal, unsettled}
use Rattle.rollout_rules.specs.Release.{next_op}
use Rattle.rollout_rules.specs.World.{in_flight}
use Rattle.rollout_rules.specs.declared.op.Op.{Op}
use Rattle.rollout_rules.specs.declared.op.Entry.{Entry}
use Rattle.rollout_laws.proofs.Histories.{settled-with}
use Rattle.rollout_laws.proofs.Rounds.{numbers_below}
use Rattle.turn_lock.specs.Histories.{Follows}
use Rattle.wan_edge.specs.Frames.{Answer, Command}
use Rattle.wan_edge.specs.Ports.{PortTrace}
use Rattle.rollout_book.specs.Aliens.{op_of, told_by}
use Rattle.rollout_book.specs.Commands.{asked}
use Rattle.port_session.specs.Sessions.{SessionView}
use Rattle.shared_book.specs.declared.note.Cause.{Cause}
use Rattle.shared_book.specs.declared.note.Cause.TheVariants as cause
use Rattle.shared_book.specs.declared.note.What.TheVariants as what
use Rattle.shared_book.specs.declared.note.Written.{Written}
use Rattle.shared_book.specs.declared.call_reply.Halt.{Halt}
use Rattle.shared_book.specs.declared.call_reply.ListReply.TheVariants as list
use Rattle.shared_book.specs.declared.call_reply.Wake.TheVariants as wake
use Rattle.shared_book.specs.Histories.{Opening, history_of}
use Rattle.shared_book.specs.Knows.{next_note}
use Rattle.shared_book.specs.Legal.{is_alien, is_legal_shared}
use Rattle.shared_book.specs.Notes.{first_stop, has_asked}
use Rattle.shared_book.specs.Replies.{asked_at, batch_at, is_asked}
use Rattle.shared_book.proofs.Going.{front_is_legal}
use Rattle.shared_book.proofs.Lists.{history-next, list-is_legal}
use Rattle.shared_book.specs.Calls.{IsStopCall, seat_of}
use Rattle.shared_book.specs.Homes.{homes_of}
use Rattle.shared_book.specs.Told.{commands_at}
use Rattle.switch_ports.specs.Due.{any_late, due_of, late_count}
use Rattle.switch_ports.specs.Outboxes.{home_at}
use Rattle.switch_ports.proofs.Lateness.{all_due, bit_none, none_late}
use Rattle.switch_ports.specs.Views.{view}
use Rattle.controller_run.specs.Exchanging.{Exchanges}
use Rattle.controller_run.specs.Finding.{Lists, Looks}
use Rattle.controller_run.specs.Promises.{switches_of}
use Rattle.controller_run.specs.Serving.{AreWhole, IsLast, Moment, Served, Whole, Worked, caller_of}
use Rattle.controller_run.specs.Settling.{StopsRound}
use Rattle.controller_run.specs.Working.{ListsNone, ListsSome, RestsFor, Settles, Standing, Untold, Works, is_some_command}
use Rattle.controller_run.specs.declared.round_end.RoundEnd.TheVariants as outcome
use Rattle.controller_run.proofs.Answered.{told-answer}
use Rattle.controller_run.proofs.Elements.{map-has}
use Rattle.controller_run.proofs.Endings.{list-stopped, look-stopped, look-works}
use Rattle.controller_run.proofs.Reasoned.{round-alien}
use Rattle.completion_laws.specs.Answering.{IsUpToDate, answer_for}
use Rattle.completion_laws.specs.Faults.{IsExcused}
use Rattle.completion_laws.specs.Turns.{OthersEndElsewhere}
use Rattle.completion_laws.proofs.Between.{unsettled-flying, unsettled-later}
use Rattle.completion_laws.proofs.Passing.{IsAtHome, Passes, home-here, listed-fly, listed-home, passes-begun, passes-chain, passes-note, passes-others, passes-settled, passes-unsettled, passes-up, settles-one, through-up}
use Rattle.completion_laws.proofs.PortTurns.{IsFlying}
use Rattle.completion_laws.proofs.RowTurns.{IsFor, TurnsRow, hear-excused, offer-excused, turns-row}
use Rattle.completion_laws.proofs.Stopping.{AreExcused, asked-excused, excused-note, excused-past, first-excused, plain}

-- the history goes on to another
abbrev pub GoesTo : List Written → List Written → Type 0
GoesTo final a = (rest : List Written) × (final ≡ a ++ rest)

goes-back : (final a more : List Written) → GoesTo final (a ++ more) → GoesTo final a
goes-back final a more goes = (more ++ goes.0, goes.1 ∙ append_assoc a more goes.0)

goes-before : (final a b more : List Written) → b ≡ a ++ more → GoesTo final b → GoesTo final a
goes-before final a b more is goes = goes-back final a more (subst (GoesTo final) is goes)

has-switch : {P : Type 0} (ps : List (SessionView P)) (k : ℕ) (d : SessionView P) → k < length ps → Contains (switches_of ps) (slice_index_or ps k d).switch
has-switch ps k d inside = map-has (λ t. t.switch) ps (slice_index_or ps k d) (Contains-get_or ps k d inside)

module _ {P : Type 0} (tell : P → PortTrace) (o : Opening) (seat : ℕ) (joined : List ℕ) (migration : ℕ) (homes : List (Option ℕ)) (switches : List ℕ) (rounds : ℕ) (net : IsNetwork o.rollout.problem) (valid : is_valid_plan o.rollout.problem o.rollout.plan ≡ true) (small : migration < 2 ^ 32)
    (same_homes : homes ≡ homes_of o.rollout.problem) (final : List Written) (others : OthersEndElsewhere homes switches seat final) where
  abbrev hist : List Written → History
  hist ws = history_of o ws

  abbrev left_at : List Written → ℕ
  left_at ws = unsettled o.rollout.problem o.rollout.plan (hist ws)

  abbrev pub AreUp : List Written → List (SessionView P) → Type 0
  AreUp ws ports = All (λ t. IsUpToDate o.rollout migration homes (hist ws) (view tell t)) ports

  abbrev Past : List Written → List Written → Type 0
  Past a b = Passes o homes switches a b

  past-others : (seen log : List Written) → GoesTo final log → Follows seat_of (seat ∷ joined) seen log → Past seen log
  past-others seen log goes follows = passes-others o homes switches seat joined final seen log goes.0 others goes.1 follows

  up-past : (a b : List Written) (ports : List (SessionView P)) → switches_of ports ≡ switches → Past a b → AreUp a ports → AreUp b ports
  up-past a b ports same past ups = λ k d inside.
      passes-up o homes switches a b past migration (view tell (slice_index_or ports k d)) (subst (λ (ws : List ℕ). Contains ws (slice_index_or ports k d).switch) same (has-switch ports k d inside)) (ups k d inside)

  -- no such port's switch is late
  up-none : (ws : List Written) (ports : List (SessionView P)) → AreUp ws ports → late_count ports ≡ 0
  up-none ws [] ups = refl
  up-none ws (t ∷ ports) ups =
      let Up : SessionView P → Type 0 = λ u. IsUpToDate o.rollout migration homes (hist ws) (view tell u) in
      let own = bit_none t.stream.awaited (All-head Up t ports ups).answered.none_owed in
      let others = up-none ws ports (All-tail Up t ports ups) in
      omega (arith, own, others)

  up-due : (ws : List Written) (ports : List (SessionView P)) → AreUp ws ports → due_of ports ≡ switches_of ports
  up-due ws ports ups = (all_due ports (none_late ports (up-none ws ports ups))).due

  -- so work was found where something was
  work-found : (ws : List Written) (ports : List (SessionView P)) (left : ℕ) (seen : List Written) (commands : List Command) (log : List Written) → AreUp ws ports
      → ListsSome (caller_of o (seat ∷ joined) seat ports) left seen commands log ⊎ ListsNone (caller_of o (seat ∷ joined) seat ports) left seen commands log → ListsSome (caller_of o (seat ∷ joined) seat ports) left seen commands log
  work-found ws ports left seen commands log ups (inl found) = found
  work-found ws ports left seen commands log ups (inr found) = absurd (false≢true (sym (none_late ports (up-none ws ports ups)) ∙ found.late))

  -- ---- a look, and a listing
  record Listed (seen log : List Written) (commands : List Command) : Type 0 where
    at : List Written
    past : Past seen at
    passed : Past at log
    is : commands ≡ commands_at o at switches
    legal : is_legal_shared o at ≡ true
    excused : AreExcused seat log

  looked : (seen after : List Written) (op : Op) (ports : List (SessionView P)) → due_of ports ≡ switches → GoesTo final after → AreExcused seat seen → Looks (caller_of o (seat ∷ joined) seat ports) seen (wake.Work op) after → Past seen after × AreExcused seat after
  looked seen after op ports same goes excused call =
      let w = next_note seat call.log what.Work [] in
      let noted = passes-note o homes switches seat call.log after what.Work call.noted in (
        passes-chain o homes switches seen call.log after (past-others seen call.log (goes-before final call.log after noted.more noted.is goes) call.past) noted,
        excused-note seat call.log after w (excused-past seat joined seen call.log excused call.past) call.noted (plain w refl),
      )

  listed : (seen log : List Written) (op : Op) (commands : List Command) (ports : List (SessionView P)) → due_of ports ≡ switches → GoesTo final log → AreExcused seat seen → Lists (caller_of o (seat ∷ joined) seat ports) op seen commands list.Listed log → Listed seen log commands
  listed seen log op commands ports same goes excused lists =
      let call = lists.listed in
      let w = next_note seat call.log what.Listed [] in
      let noted = passes-note o homes switches seat call.log log what.Listed call.noted in
      let goes_at = goes-before final call.log log noted.more noted.is goes in
      let goes_awake = goes-before final lists.awake call.log call.past.past call.past.is goes_at in
      let look = looked seen lists.awake op ports same goes_awake excused lists.looks in
      record {
        at = call.log;
        past = passes-chain o homes switches seen lists.awake call.log look.0 (past-others lists.awake call.log goes_at call.past);
        passed = noted;
        is = call.listed ∙ ap (commands_at o call.log) same;
        legal = front_is_legal o call.log noted.more (subst (λ (ws : List Written). is_legal_shared o ws ≡ true) noted.is call.legal);
        excused = excused-note seat call.log log w (excused-past seat joined lists.awake call.log look.1 call.past) call.noted (plain w refl);
      }

  -- ---- a round between the ports, up to where the book judges it
  module _ (seen log : List Written) (commands : List Command) (bs : List (SessionView P)) (same : switches_of bs ≡ switches) (ups : AreUp seen bs) (lists : Listed seen log commands) where
    abbrev h : History
    h = hist lists.at

    legal-at : is_legal o.rollout.problem o.rollout.plan h ≡ true
    legal-at = list-is_legal o lists.at lists.legal

    fly : All (IsFlying o.rollout migration homes h) commands
    fly = subst (All (IsFlying o.rollout migration homes h)) (sym lists.is) (listed-fly o.rollout migration homes h net valid legal-at small switches)

    ups-at : AreUp lists.at bs
    ups-at = up-past seen lists.at bs same lists.past ups

    at-home : (c : Command) → Contains commands c → (switch : ℕ) × (home_at homes c.item ≡ Some switch) × Contains switches switch
    at-home c at =
        let homed = All-contains (IsAtHome o.rollout switches) (asked o.rollout switches (in_flight o.rollout.problem h)) c (listed-home o.rollout migration homes h net valid legal-at small switches) (subst (λ (cs : List Command). Contains cs c) lists.is at) in
        let is = All-contains (IsFlying o.rollout migration homes h) commands c fly at in
        (homed.0, home-here o.rollout.problem homes c.item same_homes is.within ∙ homed.1, homed.2)

    module _ (told : List Answer) (ns : List (SessionView P)) (went : Exchanges tell migration homes bs commands told ns) where
      row : TurnsRow o.rollout migration homes h tell commands fly bs told ns
      row = turns-row o.rollout migration homes h tell commands fly bs went.offered ns told ups-at went.offers went.hears

      module _ (judged : List Written) (goes : GoesTo final judged) (follows : Follows seat_of (seat ∷ joined) log judged) (legal : is_legal_shared o judged ≡ true) where
        past-judged : Past lists.at judged
        past-judged = passes-chain o homes switches lists.at log judged lists.passed (past-others log judged goes follows)

        abbrev g : History
        g = hist judged

        legal-judged : is_legal o.rollout.problem o.rollout.plan g ≡ true
        legal-judged = list-is_legal o judged legal

        kept : (n switch : ℕ) → home_at homes n ≡ Some switch → Contains switches switch → (settled g n ≡ settled h n) × (begun h n ≤ begun g n)
        kept n switch home among = (passes-settled o homes switches lists.at judged past-judged n switch home among, passes-begun o homes switches lists.at judged past-judged n)

        -- no answer is refused
        known : (op : Op) → Contains (told_by told) op → is_alien o.rollout.problem g op ≡ true → ⊥
        known op at alien =
            let found = told-answer told op at in
            let for = All-contains (IsFor o.rollout migration homes h commands) told found.0 row.each_for found.1 in
            let c = for.command in
            let is = All-contains (IsFlying o.rollout migration homes h) commands c fly for.among in
            let op_is : op_of (answer_for c) ≡ op = ap op_of (sym for.is) ∙ found.2 in
            both_ways (is_alien o.rollout.problem g op)
            (subst (λ (x : Op). is_alien o.rollout.problem g x ≡ false) op_is (not-alien c.item c.number is.within (omega (arith, is.begun_is, passes-begun o homes switches lists.at judged past-judged c.item)))) alien
          where
            not-alien : (n k : ℕ) → n < item_count o.rollout.problem → k ≤ begun g n → is_alien o.rollout.problem g (record { item = n; number = k }) ≡ false
            not-alien n k low few =
                let here : nat_lt n (item_count o.rollout.problem) ≡ true = lt-ltb n (item_count o.rollout.problem) low in
                rw here (not_from_true (nat_le k (begun g n)) (le-leb k (begun g n) few))

        -- after the batch each port is up to date, and where a command was listed less is unsettled
        abbrev entries : List Entry
        entries = batch_at o g (told_by told)

        ups-behind : All (λ t. IsUpToDate o.rollout migration homes (with_entries g entries) (view tell t)) ns
        ups-behind = λ k d inside.
            let t = slice_index_or ns k d in
            let among : Contains switches t.switch = subst (λ (ws : List ℕ). Contains ws t.switch) (row.switches ∙ same) (has-switch ns k d inside) in
            through-up o migration homes h g commands told row.each_for legal-judged (view tell t) (row.ports k d inside) (λ n home. kept n t.switch home among)

        one-less : (c : Command) (cs : List Command) → commands ≡ c ∷ cs → is_legal o.rollout.problem o.rollout.plan (with_entries g entries) ≡ true → unsettled o.rollout.problem o.rollout.plan (with_entries g entries) + 1 ≤ unsettled o.rollout.problem o.rollout.plan g
        one-less c cs is follows =
            let at : Contains commands c = subst (λ (ds : List Command). Contains ds c) (sym is) (0, omega arith, refl) in
            let home = at-home c at in
            let answered = row.each_told c at home.0 home.1 (subst (λ (ws : List ℕ). Contains ws home.0) (sym same) home.2) in
            settles-one o migration homes h g commands told row.each_for legal-judged c answered (All-contains (IsFlying o.rollout migration homes h) commands c fly at) (kept c.item home.0 home.1 home.2) follows

        left-judged : left_at judged ≤ left_at seen
        left-judged = omega (arith, passes-unsettled o homes switches lists.at judged past-judged, passes-unsettled o homes switches seen lists.at lists.past)

  -- ---- whole rounds
  module _ (first : ℕ) where
    -- where a worker stands before a round: so much less is unsettled than at first as rounds were spent
    pub record Stands (m : Moment P) : Type 0 where
      pub legal : is_legal_shared o m.stands.seen ≡ true
      pub switches_are : switches_of m.stands.ports ≡ switches
      pub ports : AreUp m.stands.seen m.stands.ports
      pub spent : left_at m.stands.seen + rounds ≤ first + m.left
      pub excused : AreExcused seat m.stands.seen

    module _ (m n : Moment P) (offered : Bool) (stands : Stands m) (less : m.left ≡ n.left + (if offered then 1 else 0)) (goes : GoesTo final n.stands.seen) where
      turned : (works : Works tell (caller_of o (seat ∷ joined) seat m.stands.ports) migration homes m.left m.stands (outcome.Whole offered) n.stands)
          → Settles tell o (seat ∷ joined) seat migration homes works.commands (record { seen = works.log; ports = m.stands.ports }) (outcome.Whole offered) n.stands → Stands n
      turned works settles =
          let turn = settles.settled.1.0 in
          let call = settles.settled.1.1 in
          let w = next_note seat call.log (what.Turned turn.dones turn.begins) (batch_at o (hist call.log) (told_by settles.told)) in
          let goes_log = goes-before final call.log n.stands.seen (w ∷ []) call.noted goes in
          let goes_works = goes-before final works.log call.log call.past.past call.past.is goes_log in
          let found = work-found m.stands.seen m.stands.ports m.left m.stands.seen works.commands works.log stands.ports works.found in
          let due = up-due m.stands.seen m.stands.ports stands.ports ∙ stands.switches_are in
          let lists = listed m.stands.seen works.log found.op works.commands m.stands.ports due goes_works stands.excused found.lists in
          let legal_log : is_legal_shared o call.log ≡ true = front_is_legal o call.log (w ∷ []) (subst (λ (ws : List Written). is_legal_shared o ws ≡ true) call.noted call.legal) in
          let behind : with_entries (hist call.log) (batch_at o (hist call.log) (told_by settles.told)) ≡ hist n.stands.seen = sym (history-next o call.log w) ∙ ap hist (sym call.noted) in
          let rows = row m.stands.seen works.log works.commands m.stands.ports stands.switches_are stands.ports lists settles.told n.stands.ports settles.exchanges in
          let ups = ups-behind m.stands.seen works.log works.commands m.stands.ports stands.switches_are stands.ports lists settles.told n.stands.ports settles.exchanges call.log goes_log call.past legal_log in
          let follows : is_legal o.rollout.problem o.rollout.plan (with_entries (hist call.log) (batch_at o (hist call.log) (told_by settles.told))) ≡ true
          = subst (λ (g : History). is_legal o.rollout.problem o.rollout.plan g ≡ true) (sym behind) (list-is_legal o n.stands.seen call.legal) in
          let judged = left-judged m.stands.seen works.log works.commands m.stands.ports stands.switches_are stands.ports lists settles.told n.stands.ports settles.exchanges call.log goes_log call.past legal_log in
          let counted = counts works.commands (with_entries (hist call.log) (batch_at o (hist call.log) (told_by settles.told))) (hist call.log) settles.settled.0
          (λ c cs is. one-less m.stands.seen works.log works.commands m.stands.ports stands.switches_are stands.ports lists settles.told n.stands.ports settles.exchanges call.log goes_log call.past legal_log c cs is follows)
          (λ k. omega (arith, settled-with (hist call.log) (batch_at o (hist call.log) (told_by settles.told)) k)) in
          record {
            legal = call.legal;
            switches_are = rows.switches ∙ stands.switches_are;
            ports = subst (λ (g : History). All (λ t. IsUpToDate o.rollout migration homes g (view tell t)) n.stands.ports) behind ups;
            spent = omega (arith, stands.spent, less, judged, counted, ap (unsettled o.rollout.problem o.rollout.plan) behind);
            excused = excused-note seat call.log n.stands.seen w (excused-past seat joined works.log call.log lists.excused call.past) call.noted (plain w refl);
          }
        where
          counts : (commands : List Command) (g h : History) → offered ≡ is_some_command commands → ((c : Command) (cs : List Command) → commands ≡ c ∷ cs → unsettled o.rollout.problem o.rollout.plan g + 1 ≤ unsettled o.rollout.problem o.rollout.plan h) → ((k : ℕ) → settled h k ≤ settled g k)
              → unsettled o.rollout.problem o.rollout.plan g + (if offered then 1 else 0) ≤ unsettled o.rollout.problem o.rollout.plan h
          counts [] g h is fewer more = let none = ap {B = ℕ} (λ (b : Bool). if b then 1 else 0) is in omega (arith, none, unsettled-later o.rollout h g more)
          counts (c ∷ cs) g h is fewer more = let one = ap {B = ℕ} (λ (b : Bool). if b then 1 else 0) is in omega (arith, one, fewer c cs refl)

    goes-chain : (a b c : List Written) → GoesTo b a → GoesTo c b → GoesTo c a
    goes-chain a b c first second = goes-before c a b first.0 first.1 second

    goes-look : (seen after : List Written) (op : Op) (ports : List (SessionView P)) → Looks (caller_of o (seat ∷ joined) seat ports) seen (wake.Work op) after → GoesTo after seen
    goes-look seen after op ports call = goes-before after seen call.log call.past.past call.past.is (next_note seat call.log what.Work [] ∷ [], call.noted)

    goes-lists : (seen log : List Written) (op : Op) (commands : List Command) (ports : List (SessionView P)) → Lists (caller_of o (seat ∷ joined) seat ports) op seen commands list.Listed log → GoesTo log seen
    goes-lists seen log op commands ports lists =
        let call = lists.listed in
        goes-chain seen lists.awake log (goes-look seen lists.awake op ports lists.looks) (goes-before log lists.awake call.log call.past.past call.past.is (next_note seat call.log what.Listed [] ∷ [], call.noted))

    -- what was seen when something was found
    goes-found : (m : Moment P) (commands : List Command) (log : List Written) → ListsSome (caller_of o (seat ∷ joined) seat m.stands.ports) m.left m.stands.seen commands log ⊎ ListsNone (caller_of o (seat ∷ joined) seat m.stands.ports) m.left m.stands.seen commands log → GoesTo log m.stands.seen
    goes-found m commands log (inl found) = goes-lists m.stands.seen log found.op commands m.stands.ports found.lists
    goes-found m commands log (inr found) = ⊎_elim (λ none. ([], none.1 ∙ sym (append-nil m.stands.seen))) (λ call. (call.past.past, call.noted ∙ call.past.is)) found.looks_on

    -- where a worker stands no switch is late
    never-late : (m : Moment P) → Stands m → any_late m.stands.ports ≡ true → ⊥
    never-late m stands late = false≢true (sym (none_late m.stands.ports (up-none m.stands.seen m.stands.ports stands.ports)) ∙ late)

    stands-next : (m n : Moment P) → Stands m → Whole tell o (seat ∷ joined) seat migration homes rounds m n → GoesTo final n.stands.seen → Stands n
    stands-next m n stands whole goes =
        ⊎_elim (λ rests. absurd rests.1)
        (λ works. ⊎_elim (λ settles. turned m n whole.offered stands whole.less goes works settles) (λ idle. absurd (never-late m stands idle.late)) works.exchanged) whole.worked

    -- what was seen before a round is seen after it
    goes-whole : (m n : Moment P) → Whole tell o (seat ∷ joined) seat migration homes rounds m n → GoesTo n.stands.seen m.stands.seen
    goes-whole m n whole =
        ⊎_elim (λ rests. absurd rests.1)
        (λ works.
        goes-chain m.stands.seen works.log n.stands.seen (goes-found m works.commands works.log works.found)
        (⊎_elim
        (λ settles.
        let call = settles.settled.1.1 in
        goes-before n.stands.seen works.log call.log call.past.past call.past.is
        (next_note seat call.log (what.Turned settles.settled.1.0.dones settles.settled.1.0.begins) (batch_at o (hist call.log) (told_by settles.told)) ∷ [], call.noted))
        (λ idle. ([], idle.same ∙ sym (append-nil works.log))) works.exchanged)) whole.worked

    goes-all : (m : Moment P) (moments : List (Moment P)) (at : Moment P) → AreWhole tell o (seat ∷ joined) seat migration homes rounds m moments at → GoesTo at.stands.seen m.stands.seen
    goes-all m [] at are = subst (λ (n : Moment P). GoesTo n.stands.seen m.stands.seen) (sym are) ([], sym (append-nil m.stands.seen))
    goes-all m (n ∷ later) at are = goes-chain m.stands.seen n.stands.seen at.stands.seen (goes-whole m n are.0) (goes-all n later at are.1)

    pub stands-all : (m : Moment P) (moments : List (Moment P)) (at : Moment P) → Stands m → AreWhole tell o (seat ∷ joined) seat migration homes rounds m moments at → GoesTo final at.stands.seen → Stands at
    stands-all m [] at stands are goes = subst Stands (sym are) stands
    stands-all m (n ∷ later) at stands are goes =
        stands-all n later at (stands-next m n stands are.0 (goes-chain n.stands.seen at.stands.seen final (goes-all n later at are.1) goes)) are.1 goes

    -- ---- what was seen before the last round is seen after it
    goes-round : (why : Cause) (answers : List Op) (log after : List Written) → StopsRound o (seat ∷ joined) seat log answers why after → GoesTo after log
    goes-round (cause.Spent given item number) answers log after stops = absurd stops
    goes-round (cause.Port switch) answers log after stops = absurd stops
    goes-round (cause.Above item held begun) answers log after stops = goes-before after log stops.log stops.past.past stops.past.is (next_note seat stops.log (what.Alien item held begun) [] ∷ [], stops.noted)
    goes-round (cause.NotMine switch item) answers log after stops = absurd stops
    goes-round (cause.NoAnswer switch byte) answers log after stops = absurd stops
    goes-round cause.Disk answers log after stops = goes-before after log stops.log stops.past.past stops.past.is (next_note seat stops.log what.Disk (batch_at o (hist stops.log) answers) ∷ [], stops.noted)
    goes-round cause.Memory answers log after stops = (stops.past.past, stops.noted ∙ stops.past.is)

    goes-works : (m : Moment P) (why : Cause) (now : Standing P) (works : Works tell (caller_of o (seat ∷ joined) seat m.stands.ports) migration homes m.left m.stands (outcome.Stops why) now) → GoesTo now.seen works.log
    goes-works m why now works = ⊎_elim (λ settles. goes-round why (told_by settles.told) works.log now.seen settles.settled) (λ breaks. ([], breaks.0 ∙ sym (append-nil works.log))) works.exchanged

    goes-rests : (m : Moment P) (why : Cause) (after : List Written) → RestsFor (caller_of o (seat ∷ joined) seat m.stands.ports) m.left rounds m.stands.seen why after → GoesTo after m.stands.seen
    goes-rests m (cause.Spent given item number) after rests = goes-look m.stands.seen after (record { item = item; number = number }) m.stands.ports rests.2
    goes-rests m (cause.Port switch) after rests = absurd rests
    goes-rests m (cause.Above item held begun) after rests = absurd rests
    goes-rests m (cause.NotMine switch item) after rests = absurd rests
    goes-rests m (cause.NoAnswer switch byte) after rests = absurd rests
    goes-rests m cause.Disk after rests = absurd rests
    goes-rests m cause.Memory after rests =
        ⊎_elim
        (λ same. ([], same ∙ sym (append-nil m.stands.seen)))
        (λ called. ⊎_elim
        (λ looks. (looks.past.past, looks.noted ∙ looks.past.is))
        (λ lists.
        let call = lists.1.listed in
        goes-chain m.stands.seen lists.1.awake after (goes-look m.stands.seen lists.1.awake lists.0 m.stands.ports lists.1.looks) (call.past.past, call.noted ∙ call.past.is))
        called)
        rests.1

    -- what was seen when it asked is seen after it
    goes-stop : (seen after : List Written) (why : Cause) (halt : Halt) → IsStopCall o (seat ∷ joined) seat seen why halt after → GoesTo after seen
    goes-stop seen after why halt call = goes-before after seen call.log call.past.past call.past.is (by (has_asked seat call.log) call.noted)
      where
        by : (asked : Bool) → after ≡ (if asked then call.log else call.log ++ next_note seat call.log (what.Stop why) [] ∷ []) → GoesTo after call.log
        by true is = ([], is ∙ sym (append-nil call.log))
        by false is = (next_note seat call.log (what.Stop why) [] ∷ [], is)

    goes-ended : (m : Moment P) (halt : Halt) (now : Standing P) → Worked tell o (seat ∷ joined) seat migration homes rounds m (outcome.Ended (wake.Stopped halt)) now → GoesTo now.seen m.stands.seen
    goes-ended m halt now (inl rests) =
        ⊎_elim
        (λ looks. goes-before now.seen m.stands.seen looks.log looks.past.past looks.past.is (next_note seat looks.log what.Stopped [] ∷ [], looks.noted))
        (λ lists.
        let call = lists.1.listed in
        goes-chain m.stands.seen lists.1.awake now.seen (goes-look m.stands.seen lists.1.awake lists.0 m.stands.ports lists.1.looks) (goes-before now.seen lists.1.awake call.log call.past.past call.past.is (next_note seat call.log what.Stopped [] ∷ [], call.noted)))
        rests.1.1
    goes-ended m halt now (inr works) =
        ⊎_elim
        (λ settles.
        let call = settles.settled in
        goes-chain m.stands.seen works.log now.seen (goes-found m works.commands works.log works.found) (goes-before now.seen works.log call.log call.past.past call.past.is (next_note seat call.log what.Stopped [] ∷ [], call.noted)))
        (λ breaks. absurd breaks) works.exchanged

    goes-stops : (m : Moment P) (why : Cause) (now : Standing P) → Worked tell o (seat ∷ joined) seat migration homes rounds m (outcome.Stops why) now → GoesTo now.seen m.stands.seen
    goes-stops m why now (inl rests) = goes-rests m why now.seen rests.1
    goes-stops m why now (inr works) = goes-chain m.stands.seen works.log now.seen (goes-found m works.commands works.log works.found) (goes-works m why now works)

    pub goes-last : (halt : Halt) (m : Moment P) (now : Standing P) → IsLast tell o (seat ∷ joined) seat migration homes rounds m (wake.Stopped halt) now → GoesTo now.seen m.stands.seen
    goes-last halt m now (inl worked) = goes-ended m halt now worked
    goes-last halt m now (inr stopped) =
        goes-chain m.stands.seen stopped.log now.seen (goes-stops m stopped.cause (record { seen = stopped.log; ports = now.ports }) stopped.worked) (goes-stop stopped.log now.seen stopped.cause halt stopped.asked)

    -- ---- the last round
    module _ (m : Moment P) (stands : Stands m) (enough : first ≤ rounds) where
      -- a stop that another's note was, or the seat's with an excuse
      look-excused : (halt : Halt) (seen after : List Written) (ports : List (SessionView P)) → AreExcused seat seen → Looks (caller_of o (seat ∷ joined) seat ports) seen (wake.Stopped halt) after → halt.seat ≡ seat → IsExcused halt.cause
      look-excused halt seen after ports excused call mine =
          first-excused seat call.log halt (excused-past seat joined seen call.log excused call.past) (look-stopped o seat call.log (due_of ports) halt call.told) mine

      -- a look that found work, where no more is known of what was seen later
      awake-excused : (op : Op) (seen after : List Written) (ports : List (SessionView P)) → AreExcused seat seen → Looks (caller_of o (seat ∷ joined) seat ports) seen (wake.Work op) after → AreExcused seat after
      awake-excused op seen after ports excused call =
          let w = next_note seat call.log what.Work [] in
          excused-note seat call.log after w (excused-past seat joined seen call.log excused call.past) call.noted (plain w refl)

      listed-excused : (op : Op) (seen after : List Written) (commands : List Command) (ports : List (SessionView P)) → AreExcused seat seen → Lists (caller_of o (seat ∷ joined) seat ports) op seen commands list.Listed after → AreExcused seat after
      listed-excused op seen after commands ports excused lists =
          let call = lists.listed in
          let w = next_note seat call.log what.Listed [] in
          excused-note seat call.log after w (excused-past seat joined lists.awake call.log (awake-excused op seen lists.awake ports excused lists.looks) call.past) call.noted (plain w refl)

      ended-excused : (halt : Halt) (now : Standing P) → Worked tell o (seat ∷ joined) seat migration homes rounds m (outcome.Ended (wake.Stopped halt)) now → halt.seat ≡ seat → IsExcused halt.cause
      ended-excused halt now (inl rests) mine =
          ⊎_elim
          (λ looks. look-excused halt m.stands.seen now.seen m.stands.ports stands.excused looks mine)
          (λ lists.
          let call = lists.1.listed in
          first-excused seat call.log halt (excused-past seat joined lists.1.awake call.log (awake-excused lists.0 m.stands.seen lists.1.awake m.stands.ports stands.excused lists.1.looks) call.past)
          (list-stopped o seat call.log halt call.told) mine)
          rests.1.1
      ended-excused halt now (inr works) mine =
          ⊎_elim
          (λ settles.
          let call = settles.settled in
          let found = work-found m.stands.seen m.stands.ports m.left m.stands.seen works.commands works.log stands.ports works.found in
          first-excused seat call.log halt (excused-past seat joined works.log call.log (listed-excused found.op m.stands.seen works.log works.commands m.stands.ports stands.excused found.lists) call.past) call.told mine)
          (λ breaks. absurd breaks) works.exchanged

      -- the rounds aren't spent while an operation is in flight
      never-spent : (op : Op) (after : List Written) → GoesTo final after → m.left ≡ 0 → Looks (caller_of o (seat ∷ joined) seat m.stands.ports) m.stands.seen (wake.Work op) after → ⊥
      never-spent op after goes none call =
          let works = look-works o seat call.log (due_of m.stands.ports) op call.told in
          let goes_log = goes-before final call.log after (next_note seat call.log what.Work [] ∷ []) call.noted goes in
          let p = o.rollout.problem in
          let h = hist call.log in
          let flying = All-head (λ (x : Op). (flies h x.item ≡ true) × (x.item < item_count p)) op works.1
          (subst (All (λ (x : Op). (flies h x.item ≡ true) × (x.item < item_count p))) works.2 (asked-fly h)) in
          let legal : is_legal_shared o call.log ≡ true = front_is_legal o call.log (next_note seat call.log what.Work [] ∷ []) (subst (λ (ws : List Written). is_legal_shared o ws ≡ true) call.noted call.legal) in
          omega (arith, unsettled-flying o.rollout h op.item (list-is_legal o call.log legal) flying.1 flying.0, passes-unsettled o homes switches m.stands.seen call.log (past-others m.stands.seen call.log goes_log call.past), stands.spent, none, enough)
        where
          asked-fly : (h : History) → All (λ (x : Op). (flies h x.item ≡ true) × (x.item < item_count o.rollout.problem)) (asked_at o.rollout.problem h (due_of m.stands.ports))
          asked-fly h =
              let items = list_below (item_count o.rollout.problem) (λ n. n) in
              All-filter (is_asked o.rollout.problem (due_of m.stands.ports)) (λ (x : Op). (flies h x.item ≡ true) × (x.item < item_count o.rollout.problem)) (in_flight o.rollout.problem h)
              (All-map (λ (x : Op). (flies h x.item ≡ true) × (x.item < item_count o.rollout.problem)) (next_op h) (filter (flies h) items)
              (λ k d inside. (filter_passes (flies h) items k d inside, All-filter (flies h) (λ n. n < item_count o.rollout.problem) items (numbers_below (item_count o.rollout.problem)) k d inside)))

      -- what a round without an exchange asked to stop for
      rests-excused : (why : Cause) (after : List Written) → GoesTo final after → RestsFor (caller_of o (seat ∷ joined) seat m.stands.ports) m.left rounds m.stands.seen why after → IsExcused why × AreExcused seat after
      rests-excused (cause.Spent given item number) after goes rests = absurd (never-spent (record { item = item; number = number }) after goes rests.0 rests.2)
      rests-excused (cause.Port switch) after goes rests = absurd rests
      rests-excused (cause.Above item held begun) after goes rests = absurd rests
      rests-excused (cause.NotMine switch item) after goes rests = absurd rests
      rests-excused (cause.NoAnswer switch byte) after goes rests = absurd rests
      rests-excused cause.Disk after goes rests = absurd rests
      rests-excused cause.Memory after goes rests = (
        tt,
        ⊎_elim
            (λ same. subst (AreExcused seat) (sym same) stands.excused)
            (λ called. ⊎_elim
            (λ looks. subst (AreExcused seat) (sym looks.noted) (excused-past seat joined m.stands.seen looks.log stands.excused looks.past))
            (λ lists.
            let call = lists.1.listed in
            subst (AreExcused seat) (sym call.noted) (excused-past seat joined lists.1.awake call.log (awake-excused lists.0 m.stands.seen lists.1.awake m.stands.ports stands.excused lists.1.looks) call.past))
            called)
            rests.1,
      )

      -- what a round of the book asked to stop for
      round-excused : (why : Cause) (log after : List Written) (commands : List Command) (ns : List (SessionView P)) (told : List Answer) → GoesTo final after → Listed m.stands.seen log commands → Exchanges tell migration homes m.stands.ports commands told ns
          → StopsRound o (seat ∷ joined) seat log (told_by told) why after → IsExcused why × AreExcused seat after
      round-excused (cause.Spent given item number) log after commands ns told goes lists went stops = absurd stops
      round-excused (cause.Port switch) log after commands ns told goes lists went stops = absurd stops
      round-excused (cause.Above item held begun) log after commands ns told goes lists went stops =
          let w = next_note seat stops.log (what.Alien item held begun) [] in
          let goes_log = goes-before final stops.log after (w ∷ []) stops.noted goes in
          let legal : is_legal_shared o stops.log ≡ true = front_is_legal o stops.log (w ∷ []) (subst (λ (ws : List Written). is_legal_shared o ws ≡ true) stops.noted stops.legal) in
          let alien = round-alien o.rollout.problem (hist stops.log) item held begun (first_stop stops.log) (told_by told) (batch_at o (hist stops.log) (told_by told)) stops.told.0 stops.told.1 in
          absurd (known m.stands.seen log commands m.stands.ports stands.switches_are stands.ports lists told ns went stops.log goes_log stops.past legal (record { item = item; number = held }) alien.among alien.alien)
      round-excused (cause.NotMine switch item) log after commands ns told goes lists went stops = absurd stops
      round-excused (cause.NoAnswer switch byte) log after commands ns told goes lists went stops = absurd stops
      round-excused cause.Disk log after commands ns told goes lists went stops = (
        tt,
        excused-note seat stops.log after (next_note seat stops.log what.Disk (batch_at o (hist stops.log) (told_by told))) (excused-past seat joined log stops.log lists.excused stops.past) stops.noted
            (λ why is. subst IsExcused (some_same_is cause.Disk why is) tt),
      )
      round-excused cause.Memory log after commands ns told goes lists went stops =
          (tt, subst (AreExcused seat) (sym stops.noted) (excused-past seat joined log stops.log lists.excused stops.past))

      breaks-excused : (why : Cause) (log after : List Written) (commands : List Command) (ns : List (SessionView P)) → Listed m.stands.seen log commands
          → Untold tell migration homes commands (record { seen = log; ports = m.stands.ports }) (outcome.Stops why) (record { seen = after; ports = ns }) → IsExcused why × AreExcused seat after
      breaks-excused why log after commands ns lists breaks = (
        ⊎_elim
            (λ offer. offer-excused tell why m.stands.ports ns offer.cause)
            (λ hear. hear-excused o.rollout migration homes (hist lists.at) tell commands (fly m.stands.seen log commands m.stands.ports stands.switches_are stands.ports lists) why m.stands.ports ns (ups-at m.stands.seen log commands m.stands.ports stands.switches_are stands.ports lists) hear)
            breaks.1,
        subst (AreExcused seat) (sym breaks.0) lists.excused,
      )

      stops-excused : (why : Cause) (now : Standing P) → GoesTo final now.seen → Worked tell o (seat ∷ joined) seat migration homes rounds m (outcome.Stops why) now → IsExcused why × AreExcused seat now.seen
      stops-excused why now goes (inl rests) = rests-excused why now.seen goes rests.1
      stops-excused why now goes (inr works) =
          let goes_log : GoesTo final works.log = goes-chain works.log now.seen final (goes-works m why now works) goes in
          let found = work-found m.stands.seen m.stands.ports m.left m.stands.seen works.commands works.log stands.ports works.found in
          let due = up-due m.stands.seen m.stands.ports stands.ports ∙ stands.switches_are in
          let lists = listed m.stands.seen works.log found.op works.commands m.stands.ports due goes_log stands.excused found.lists in
          ⊎_elim
          (λ settles. round-excused why works.log now.seen works.commands now.ports settles.told goes lists settles.exchanges settles.settled)
          (λ breaks. breaks-excused why works.log now.seen works.commands now.ports lists breaks)
          works.exchanged

      pub last-excused : (halt : Halt) (now : Standing P) → final ≡ now.seen → IsLast tell o (seat ∷ joined) seat migration homes rounds m (wake.Stopped halt) now → halt.seat ≡ seat → IsExcused halt.cause
      last-excused halt now is (inl worked) mine = ended-excused halt now worked mine
      last-excused halt now is (inr stopped) mine =
          let goes : GoesTo final stopped.log = subst (λ (ws : List Written). GoesTo ws stopped.log) (sym is) (goes-stop stopped.log now.seen stopped.cause halt stopped.asked) in
          let excused = stops-excused stopped.cause (record { seen = stopped.log; ports = now.ports }) goes stopped.worked in
          asked-excused seat o joined stopped.log now.seen stopped.cause halt excused.1 stopped.asked excused.0 mine

-- ---- a worker from its first round to its last
module _ {P : Type 0} (tell : P → PortTrace) (o : Opening) (seat : ℕ) (joined : List ℕ) (migration : ℕ) (homes : List (Option ℕ)) (rounds : ℕ) (net : IsNetwork o.rollout.problem) (valid : is_valid_plan o.rollout.problem o.rollout.plan ≡ true) (small : migration < 2 ^ 32)
    (same_homes : homes ≡ homes_of o.rollout.problem) (before : Standing P) (legal : is_legal_shared o before.seen ≡ true) (ups : All (λ t. IsUpToDate o.rollout migration homes (history_of o before.seen) (view tell t)) before.ports) where
  abbrev switches : List ℕ
  switches = switches_of before.ports

  abbrev first : ℕ
  first = unsettled o.rollout.problem o.rollout.plan (history_of o before.seen)

  module _ (final : List Written) (others : OthersEndElsewhere homes switches seat final) where
    abbrev Here : Moment P → Type 0
    Here m = Stands tell o seat joined migration homes switches rounds net valid small same_homes final others first m

    at-first : AreExcused seat before.seen → Here (record { stands = before; left = rounds })
    at-first excused = record { legal = legal; switches_are = refl; ports = ups; spent = omega arith; excused = excused }

    pub reached : (moments : List (Moment P)) (at : Moment P) → AreExcused seat before.seen → AreWhole tell o (seat ∷ joined) seat migration homes rounds (record { stands = before; left = rounds }) moments at → GoesTo final at.stands.seen → Here at
    reached moments at excused are goes =
        stands-all tell o seat joined migration homes switches rounds net valid small same_homes final others first (record { stands = before; left = rounds }) moments at (at-first excused) are goes

  pub worker-excused : AreExcused seat before.seen → first ≤ rounds → (halt : Halt) (now : Standing P) → Served tell o (seat ∷ joined) seat migration homes rounds before (wake.Stopped halt) now → OthersEndElsewhere homes switches seat now.seen → halt.seat ≡ seat → IsExcused halt.cause
  worker-excused excused enough halt now served others mine =
      let goes = goes-last tell o seat joined migration homes switches rounds net valid small same_homes now.seen others first halt served.at now served.last in
      last-excused tell o seat joined migration homes switches rounds net valid small same_homes now.seen others first served.at (reached now.seen others served.moments served.at excused served.whole goes) enough halt now refl served.last mine
