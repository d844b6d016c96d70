-- Whole answers and quiet hears together are at least the rounds in which commands were offered, but for those of switches that are late.
use Rattle.std.proofs.Common.{◌≡◌, ◌⊎◌, ℕ, ◌+◌, ◌-◌, ◌<◌, ◌≤◌, List, [], ◌∷◌, ◌++◌, length, All, Option, Some, None, refl, sym, ap, ◌∙◌, inl, inr, subst, ⊎_elim, arith, append-nil, append_assoc, eq-eqb, length-append}
use Rattle.std.proofs.lemmas.Bool.{cases_lt}
use Rattle.std.proofs.lemmas.List.Elements.{All-append, All-contains, All-head, All-nil, All-weaker}
use Rattle.std.proofs.lemmas.Grind.{flat_map-append}
use Rattle.std.specs.List.{Contains, flat_map}
use Rattle.wan_edge.specs.Frames.{Answer, Command, IsAnswer, Splits, answer_bytes}
use Rattle.wan_edge.specs.Ports.{IsOneMore, PortTrace}
use Rattle.wan_edge.specs.Streams.{Appends}
use Rattle.wan_edge.proofs.Chains.{Appends-chain, Appends-nothing}
use Rattle.port_session.specs.Sessions.{IsOver, SessionView, awaited_behind}
use Rattle.port_session.proofs.Awaited.{awaited_none, awaited_some}
use Rattle.switch_ports.specs.Due.{LeavesAlone, due_of, late_bit, late_count}
use Rattle.switch_ports.specs.Hearing.{HearsOut}
use Rattle.switch_ports.specs.Outboxes.{home_at, is_switch, own}
use Rattle.switch_ports.specs.Offering.{OffersAll}
use Rattle.switch_ports.specs.Rows.{HearsEach, OffersAllEach}
use Rattle.switch_ports.specs.Views.{SessionTrace, view}
use Rattle.switch_ports.proofs.Lateness.{bit_below, bit_few, bit_none, bit_some}
use Rattle.shared_book.specs.declared.note.Written.{Written}
use Rattle.shared_book.specs.Histories.{Opening}
use Rattle.shared_book.specs.Homes.{homes_of}
use Rattle.shared_book.specs.Told.{commands_at}
use Rattle.controller_run.specs.Exchanging.{Exchanges}
use Rattle.controller_run.specs.Promises.{AreSome, switches_of}
use Rattle.controller_run.specs.Reasons.{Comes, ComesEach, HasCome, IsMoreBy, offered_in}
use Rattle.controller_run.proofs.Elements.{filter-has, inside-cons, map-found, none-inside}
use Rattle.controller_run.proofs.LeftAlone.{IsHomed, all-homed, due-among}

-- ---- how often a port was quiet
quiet-none : (before now : Option ℕ) → now ≡ before → IsMoreBy 0 before now
quiet-none before None same = tt
quiet-none before (Some after) same = let none : after ≡ after - 0 = omega arith in (omega arith, sym same ∙ ap Some none)

quiet-one : (before now : Option ℕ) → IsOneMore before now → IsMoreBy 1 before now
quiet-one before None more = tt
quiet-one before (Some after) more = let some = more.0 in (omega (arith, some), more.1)

quiet-both : (a b c : Option ℕ) (m n : ℕ) → IsMoreBy m a b → IsMoreBy n b c → IsMoreBy (m + n) a c
quiet-both a b None m n first second = tt
quiet-both a b (Some after) m n first second =
    let was : (m ≤ after - n) × (a ≡ Some ((after - n) - m)) = subst (λ (o : Option ℕ). IsMoreBy m a o) second.1 first in
    let less : (after - n) - m ≡ after - (m + n) = omega arith in
    let low = second.0 in
    let high = was.0 in
    (omega (arith, low, high), was.1 ∙ ap Some less)

-- ---- what comes from a port
comes-nothing : (v : SessionTrace) → Comes 0 v v
comes-nothing v = record {
  answers = [];
  quiets = 0;
  count_is = omega arith;
  bytes = [];
  appended = Appends-nothing v.port.heard;
  whole = record { fit = All-nil IsAnswer; parts = append-nil v.stream.kept };
  quieter = quiet-none v.port.quiet v.port.quiet refl;
}

comes-both : (m n : ℕ) (a b c : SessionTrace) → Comes m a b → Comes n b c → Comes (m + n) a c
comes-both m n a b c first second =
    let ahead = flat_map answer_bytes first.answers in
    let later = flat_map answer_bytes second.answers in
    let one = first.count_is in
    let other = second.count_is in
    record {
      answers = first.answers ++ second.answers;
      quiets = first.quiets + second.quiets;
      count_is = omega (arith, one, other, length-append first.answers second.answers);
      bytes = first.bytes ++ second.bytes;
      appended = Appends-chain a.port.heard b.port.heard c.port.heard first.bytes second.bytes first.appended second.appended;
      whole = record {
        fit = All-append IsAnswer first.answers second.answers first.whole.fit second.whole.fit;
        parts =
            sym (append_assoc a.stream.kept first.bytes second.bytes) ∙ ap (λ (xs : List ℕ). xs ++ second.bytes) first.whole.parts ∙ append_assoc ahead b.stream.kept second.bytes
            ∙ ap (λ (xs : List ℕ). ahead ++ xs) second.whole.parts ∙ sym (append_assoc ahead later c.stream.kept)
            ∙ ap (λ (xs : List ℕ). xs ++ c.stream.kept) (sym (flat_map-append answer_bytes first.answers second.answers));
      };
      quieter = quiet-both a.port.quiet b.port.quiet c.port.quiet first.quiets second.quiets first.quieter second.quieter;
    }

-- So many came. Where commands went out, or the switch was late, some did, or it is late.
record CameOf (commands : List Command) (before now : SessionTrace) : Type 0 where
  count : ℕ
  comes : Comes count before now
  went : ℕ
  some : 0 < length commands → 1 ≤ went
  enough : went + late_bit before.stream.awaited ≤ count + late_bit now.stream.awaited

-- how many are awaited where commands go out, of which a late switch has none
module _ (before awaited : ℕ) (commands : List Command) (alone : 0 < before → commands ≡ []) (awaits : awaited ≡ awaited_behind before (length commands)) where
  -- 1 where some go out, and then none was late
  record HasGone : Type 0 where
    went : ℕ
    some : 0 < length commands → 1 ≤ went
    one : went + late_bit before ≤ 1
    few : went + late_bit before ≤ awaited

  gone-none : commands ≡ [] → HasGone
  gone-none none =
      let same : awaited ≡ before = awaits ∙ awaited_none before (length commands) (ap length none) in
      let empty : length commands ≡ 0 = ap length none in
      let below = bit_below before in
      let one = bit_few before in
      record { went = 0; some = λ some. absurd (omega (arith, some, empty)); one = omega (arith, one); few = omega (arith, below, same) }

  gone-some : 0 < length commands → HasGone
  gone-some some =
      let same : awaited ≡ length commands = awaits ∙ awaited_some before (length commands) some in
      let due : before ≡ 0 = ⊎_elim (λ (late : 0 < before). let empty : length commands ≡ 0 = ap length (alone late) in absurd (omega (arith, some, empty))) (λ (none : before ≤ 0). omega (arith, none)) (cases_lt 0 before) in
      let clear = bit_none before due in
      record { went = 1; some = λ _. omega arith; one = omega (arith, clear); few = omega (arith, clear, same, some) }

  gone : HasGone
  gone = by commands refl
    where
      by : (cs : List Command) → commands ≡ cs → HasGone
      by [] is = gone-none is
      by (c ∷ cs) is = let long : length commands ≡ length (c ∷ cs) = ap length is in gone-some (omega (arith, long))

module _ (migration : ℕ) (homes : List (Option ℕ)) (commands : List Command) (mine : List Answer) (b o n : SessionTrace) (offers : OffersAll migration commands b o) (hears : HearsOut migration homes o mine n) (alone : 0 < b.stream.awaited → commands ≡ []) where
  appended-now : Appends b.port.heard hears.reads.bytes n.port.heard
  appended-now = subst (λ (h : Option (List ℕ)). Appends h hears.reads.bytes n.port.heard) offers.some.unheard hears.reads.appended

  whole-now : Splits answer_bytes IsAnswer (b.stream.kept ++ hears.reads.bytes) hears.reads.reads.answers n.stream.kept
  whole-now =
      let reads = hears.reads.reads in
      subst (λ (k : List ℕ). Splits answer_bytes IsAnswer (k ++ hears.reads.bytes) reads.answers n.stream.kept) offers.some.kept
      (subst (λ (r : List ℕ). Splits answer_bytes IsAnswer (o.stream.kept ++ hears.reads.bytes) reads.answers r) reads.ends reads.whole)

  went-out : HasGone b.stream.awaited o.stream.awaited commands alone offers.awaits
  went-out = gone b.stream.awaited o.stream.awaited commands alone offers.awaits

  -- the port wasn't quiet
  unquiet : n.port.quiet ≡ o.port.quiet → Comes (length hears.reads.reads.answers) b n
  unquiet same = record {
    answers = hears.reads.reads.answers;
    quiets = 0;
    count_is = omega arith;
    bytes = hears.reads.bytes;
    appended = appended-now;
    whole = whole-now;
    quieter = quiet-none b.port.quiet n.port.quiet (same ∙ offers.some.no_hear);
  }

  came-heard : IsOver (length hears.reads.reads.answers) o.stream.awaited n.stream.awaited o.port n.port → CameOf commands b n
  came-heard (inl all) =
      let read = length hears.reads.reads.answers in
      let few = went-out.few in
      let enough = all.enough in
      record { count = read; comes = unquiet all.as_quiet; went = went-out.went; some = went-out.some; enough = omega (arith, few, enough) }
  came-heard (inr (inl quiet)) =
      let reads = hears.reads.reads in
      let one = went-out.one in
      record {
        count = length reads.answers + 1;
        comes = record {
          answers = reads.answers;
          quiets = 1;
          count_is = refl;
          bytes = hears.reads.bytes;
          appended = appended-now;
          whole = whole-now;
          quieter = quiet-one b.port.quiet n.port.quiet (subst (λ (q : Option ℕ). IsOneMore q n.port.quiet) offers.some.no_hear quiet.quieter);
        };
        went = went-out.went;
        some = went-out.some;
        enough = omega (arith, one);
      }
  came-heard (inr (inr late)) =
      let one = went-out.one in
      let stays = bit_some n.stream.awaited late.some_left in
      record { count = length hears.reads.reads.answers; comes = unquiet late.as_quiet; went = went-out.went; some = went-out.some; enough = omega (arith, one, stays) }

-- ---- what comes from all ports
module _ {P : Type 0} (tell : P → PortTrace) where
  comes-none : (ps : List (SessionView P)) → ComesEach tell 0 ps ps
  comes-none [] = refl
  comes-none (p ∷ ps) = (0, 0, omega arith, comes-nothing (view tell p), comes-none ps)

  comes-chain : (m n : ℕ) (ps bs ns : List (SessionView P)) → ComesEach tell m ps bs → ComesEach tell n bs ns → ComesEach tell (m + n) ps ns
  comes-chain m n [] [] [] first second = omega (arith, first, second)
  comes-chain m n [] [] (x ∷ ns) first second = absurd second
  comes-chain m n [] (b ∷ bs) ns first second = absurd first
  comes-chain m n (p ∷ ps) [] ns first second = absurd first
  comes-chain m n (p ∷ ps) (b ∷ bs) [] first second = absurd second
  comes-chain m n (p ∷ ps) (b ∷ bs) (x ∷ ns) first second =
      let one = first.2 in
      let other = second.2 in (
        first.0 + second.0,
        first.1 + second.1,
        omega (arith, one, other),
        comes-both first.0 second.0 (view tell p) (view tell b) (view tell x) first.3 second.3,
        comes-chain first.1 second.1 ps bs ns first.4 second.4,
      )

  -- At least so many came, but for those of switches that are late, and with those of switches that were.
  pub record HasOwed (least : ℕ) (before now : List (SessionView P)) : Type 0 where
    pub count : ℕ
    pub each : ComesEach tell count before now
    pub enough : least + late_count before ≤ count + late_count now

  pub none-owed : (ps : List (SessionView P)) → HasOwed 0 ps ps
  none-owed ps = record { count = 0; each = comes-none ps; enough = omega arith }

  pub both-owed : (m n : ℕ) (ps bs ns : List (SessionView P)) → HasOwed m ps bs → HasOwed n bs ns → HasOwed (m + n) ps ns
  both-owed m n ps bs ns first second =
      let one = first.enough in
      let other = second.enough in
      record { count = first.count + second.count; each = comes-chain first.count second.count ps bs ns first.each second.each; enough = omega (arith, one, other) }

  -- where none is late, all have come
  pub owed-come : (least : ℕ) (ps ns : List (SessionView P)) → late_count ns ≡ 0 → HasOwed least ps ns → HasCome tell least ps ns
  owed-come least ps ns none owed =
      let enough = owed.enough in
      record { count = owed.count; each = owed.each; enough = omega (arith, enough, none) }

  module _ (migration : ℕ) (homes : List (Option ℕ)) where
    -- some came where a command went out at one of the ports, or a switch is late
    record RowCame (commands : List Command) (bs ns : List (SessionView P)) : Type 0 where
      count : ℕ
      each : ComesEach tell count bs ns
      went : ℕ
      some : (t : SessionView P) → Contains bs t → 0 < length (own homes t.switch commands) → 1 ≤ went
      enough : went + late_count bs ≤ count + late_count ns

    row-one : (commands : List Command) (b n : SessionView P) (bs ns : List (SessionView P)) → CameOf (own homes b.switch commands) (view tell b) (view tell n) → RowCame commands bs ns → RowCame commands (b ∷ bs) (n ∷ ns)
    row-one commands b n bs ns one rest =
        let mine = one.enough in
        let others = rest.enough in
        record {
          count = one.count + rest.count;
          each = (one.count, rest.count, refl, one.comes, rest.each);
          went = one.went + rest.went;
          some = λ t at has.
              ⊎_elim
              (λ (same : b ≡ t). let low = one.some (subst (λ (u : SessionView P). 0 < length (own homes u.switch commands)) (sym same) has) in omega (arith, low))
              (λ (later : Contains bs t). let low = rest.some t later has in omega (arith, low)) (inside-cons b t bs at);
          enough = omega (arith, mine, others);
        }

    row-came : (commands : List Command) (told : List Answer) (bs os ns : List (SessionView P)) → LeavesAlone homes commands bs → OffersAllEach tell migration homes commands bs os → HearsEach tell migration homes os ns told → RowCame commands bs ns
    row-came commands told [] [] [] alone offers hears = record { count = 0; each = refl; went = 0; some = λ t at has. absurd (none-inside t at); enough = omega arith }
    row-came commands told [] [] (n ∷ ns) alone offers hears = absurd hears
    row-came commands told [] (o ∷ os) ns alone offers hears = absurd offers
    row-came commands told (b ∷ bs) [] ns alone offers hears = absurd offers
    row-came commands told (b ∷ bs) (o ∷ os) [] alone offers hears = absurd hears
    row-came commands told (b ∷ bs) (o ∷ os) (n ∷ ns) alone offers hears =
        row-one commands b n bs ns (came-heard migration homes (own homes b.switch commands) hears.0 (view tell b) (view tell o) (view tell n) offers.0 hears.2 alone.0 hears.2.over) (row-came commands hears.1 bs os ns alone.1 offers.1 hears.4)

    some-came : (commands : List Command) (bs ns : List (SessionView P)) → All (IsHomed homes (switches_of bs)) commands → (row : RowCame commands bs ns) → offered_in commands ≤ row.went
    some-came [] bs ns homed row = let low : 0 ≤ row.went = omega arith in low
    some-came (c ∷ cs) bs ns homed row =
        let home = All-head (IsHomed homes (switches_of bs)) c cs homed in
        let found = map-found (λ (t : SessionView P). t.switch) bs home.0 home.2 in
        let w = found.0.switch in
        let mine : home_at homes c.item ≡ Some w = home.1 ∙ ap Some (sym found.2) in
        let has : Contains (own homes w (c ∷ cs)) c
        = filter-has (λ (d : Command). is_switch w (home_at homes d.item)) (c ∷ cs) c (ap (is_switch w) mine ∙ eq-eqb w w refl) (0, omega arith, refl) in
        let inside = has.1 in
        let low : 1 ≤ row.went = row.some found.0 found.1 (omega (arith, inside)) in
        low

    -- what is at home at some of the switches is so at one of all
    homed-of : (asked switches : List ℕ) → AreSome asked switches → (c : Command) → IsHomed homes asked c → IsHomed homes switches c
    homed-of asked switches some c home = (home.0, home.1, All-contains (Contains switches) asked home.0 some home.2)

    -- a whole round in which the late switches were left alone
    pub round-owed : (commands : List Command) (told : List Answer) (bs ns : List (SessionView P)) → LeavesAlone homes commands bs → Exchanges tell migration homes bs commands told ns → All (IsHomed homes (switches_of bs)) commands → HasOwed (offered_in commands) bs ns
    round-owed commands told bs ns alone went homed =
        let row = row-came commands told bs went.offered ns alone went.offers went.hears in
        let some = some-came commands bs ns homed row in
        let enough = row.enough in
        record { count = row.count; each = row.each; enough = omega (arith, some, enough) }

    -- whose commands were listed at a history, of the due ones
    pub listed-owed : (o : Opening) → homes ≡ homes_of o.rollout.problem → (commands : List Command) (told : List Answer) (log : List Written) (bs ns : List (SessionView P)) → LeavesAlone homes commands bs → Exchanges tell migration homes bs commands told ns
        → commands ≡ commands_at o log (due_of bs) → HasOwed (offered_in commands) bs ns
    listed-owed o same commands told log bs ns alone went listed =
        round-owed commands told bs ns alone went
        (All-weaker (IsHomed homes (due_of bs)) (IsHomed homes (switches_of bs)) (homed-of (due_of bs) (switches_of bs) (due-among bs)) commands (all-homed homes o same commands log (due_of bs) listed))

    -- in which nothing was listed
    pub idle-owed : (commands : List Command) (told : List Answer) (bs ns : List (SessionView P)) → commands ≡ [] → LeavesAlone homes commands bs → Exchanges tell migration homes bs commands told ns → HasOwed (offered_in commands) bs ns
    idle-owed commands told bs ns none alone went =
        round-owed commands told bs ns alone went (subst (λ (cs : List Command). All (IsHomed homes (switches_of bs)) cs) (sym none) (All-nil (IsHomed homes (switches_of bs))))
