-- A run over ports that have answered all: what stops it has an excuse.
use Rattle.std.proofs.Common.{◌≡◌, ℕ, zero, suc, ◌<◌, ◌≤◌, true, List, [], ◌∷◌, ◌++◌, map, length, slice_index_or, Option, Some, None, inl, inr, ⊎_elim, refl, sym, ap, ◌∙◌, subst, arith}
use Rattle.std.proofs.lemmas.List.Elements.{All-contains, Contains-append_left, Contains-get_or}
use Rattle.std.proofs.lemmas.List.Sorted.{Contains-permutation, IsPermutation-sym}
use Rattle.std.proofs.lemmas.Bool.{cases_eq}
use Rattle.std.proofs.lemmas.Option.{same_Some}
use Rattle.std.specs.List.{All, Contains}
use Rattle.std.specs.Prelude.{IsTrue}
use Rattle.lists.proofs.Conditions.{some_same_is}
use Rattle.rollout_rules.specs.History.{History}
use Rattle.rollout_rules.specs.Legal.{unsettled}
use Rattle.rollout_laws.proofs.Histories.{with_none}
use Rattle.wan_edge.specs.Frames.{Answer}
use Rattle.wan_edge.specs.Ports.{PortTrace}
use Rattle.port_session.specs.Sessions.{SessionView}
use Rattle.shared_book.specs.declared.note.Cause.{Cause}
use Rattle.shared_book.specs.declared.note.Cause.TheVariants as cause
use Rattle.shared_book.specs.declared.note.Written.{Written}
use Rattle.shared_book.specs.declared.call_reply.Halt.{Halt}
use Rattle.shared_book.specs.declared.call_reply.Wake.{Wake}
use Rattle.shared_book.specs.declared.call_reply.Wake.TheVariants as wake
use Rattle.shared_book.specs.Histories.{Opening, history_of}
use Rattle.shared_book.specs.Legal.{is_legal_shared}
use Rattle.shared_book.specs.Notes.{first_stop}
use Rattle.shared_book.proofs.Going.{front_is_legal}
use Rattle.shared_book.proofs.Stops.{first_stop-append}
use Rattle.shared_book.specs.Calls.{seat_of}
use Rattle.shared_book.specs.Homes.{homes_of}
use Rattle.switch_ports.specs.Outboxes.{home_at}
use Rattle.switch_ports.specs.Rows.{AtOne}
use Rattle.switch_ports.specs.Views.{view}
use Rattle.controller_run.specs.Promises.{AreAnswered, IsEndAt, Promises, StopsNothing, WasTold, switches_of}
use Rattle.controller_run.specs.Serving.{Served}
use Rattle.controller_run.proofs.Keeps.{serves-keeps}
use Rattle.controller_run.proofs.Elements.{inside-later, map-has}
use Rattle.controller_run.proofs.Quiet.{none_is_no_halt, quiet-first}
use Rattle.controller_run.specs.Shifts.{IsEarlyCause, IsShift, Returns, Shift}
use Rattle.controller_run.specs.Together.{given_ports}
use Rattle.controller_run.proofs.Keeping.{keeps}
use Rattle.controller_run.proofs.RunPorts.{in_all, of_one}
use Rattle.controller_run.proofs.Causes.{noted, stands_in}
use Rattle.completion_laws.specs.Answering.{IsUpToDate}
use Rattle.completion_laws.specs.Faults.{IsExcused}
use Rattle.completion_laws.specs.Finishing.{AreServedApart, IsOfWorkers, IsServed}
use Rattle.completion_laws.specs.Turns.{OthersEndElsewhere}
use Rattle.completion_laws.proofs.Passing.{Passes, passes-unsettled, passes-up}
use Rattle.completion_laws.proofs.WholeRounds.{worker-excused}
use Rattle.completion_laws.proofs.Stopping.{excused-quiet}

early-excused : (seen : List Written) (why : Cause) → IsEarlyCause seen why → IsExcused why
early-excused seen (cause.Spent given item number) early = early
early-excused seen (cause.Port switch) early = tt
early-excused seen (cause.Above item held begun) early = early
early-excused seen (cause.NotMine switch item) early = early
early-excused seen (cause.NoAnswer switch byte) early = early
early-excused seen cause.Disk early = tt
early-excused seen cause.Memory early = tt

-- ---- a worker
module _ {P : Type 0} (tell : P → PortTrace) (o : Opening) (migration : ℕ) (homes : List (Option ℕ)) (rounds : ℕ) (same_homes : homes ≡ homes_of o.rollout.problem) (log : List Written) (legal : is_legal_shared o log ≡ true) (opened : List (SessionView P)) (sure : IsServed tell o migration homes rounds opened)
    (s : Shift P) (shift : IsShift tell o migration homes rounds log s) (elsewhere : OthersEndElsewhere homes (switches_of s.given.before.ports) s.given.seat log) (among : (t : SessionView P) → Contains s.given.before.ports t → Contains opened t) where
  abbrev seat : ℕ
  seat = s.given.seat

  abbrev before : List Written
  before = s.given.before.seen

  abbrev switches : List ℕ
  switches = switches_of s.given.before.ports

  seen-first : (halt : Halt) → first_stop log ≡ Some halt → halt.seat ≡ seat → first_stop s.now.seen ≡ Some halt
  seen-first halt first mine =
      stands_in seat (first_stop s.now.seen) (first_stop shift.follows.past) halt (sym (first_stop-append s.now.seen shift.follows.past) ∙ sym (ap first_stop shift.follows.is) ∙ first)
      (λ later. quiet-first seat shift.follows.past halt (λ k d inside own. absurd (shift.follows.none k d inside 0 seat (omega arith) (sym own))) later) mine

  others : OthersEndElsewhere homes switches seat s.now.seen
  others w at = elsewhere w (subst (λ (ws : List Written). Contains ws w) (sym shift.follows.is) (Contains-append_left s.now.seen shift.follows.past w at))

  module _ (more : List Written) (goes_on : s.now.seen ≡ before ++ more) where
    -- the rounds before it has served ended nothing
    none-ended : Passes o homes switches [] before
    none-ended = record {
      more = before;
      is = refl;
      none = λ k d inside op at switch home there.
          let w = slice_index_or before k d in
          let in_before : Contains before w = Contains-get_or before k d inside in
          let in_log : Contains log w = subst (λ (ws : List Written). Contains ws w) (sym (shift.follows.is ∙ ap (λ (ws : List Written). ws ++ shift.follows.past) goes_on)) (Contains-append_left (before ++ more) shift.follows.past w (Contains-append_left before more w in_before)) in
          ⊎_elim (λ (own : w.note.seat ≡ seat). shift.quiet k d inside own op at) (λ (other : w.note.seat ≡ seat → ⊥). elsewhere w in_log (λ same. other (sym same)) op at switch home there) (cases_eq w.note.seat seat);
    }

    at-found : history_of o [] ≡ o.found
    at-found = with_none o.found

    ups : All (λ t. IsUpToDate o.rollout migration homes (history_of o before) (view tell t)) s.given.before.ports
    ups = λ k d inside.
        let t = slice_index_or s.given.before.ports k d in
        let at : Contains s.given.before.ports t = Contains-get_or s.given.before.ports k d inside in
        let up = All-contains (λ t. IsUpToDate o.rollout migration homes o.found (view tell t)) opened t sure.up (among t at) in
        passes-up o homes switches [] before none-ended migration (view tell t) (map-has (λ u. u.switch) s.given.before.ports t at)
        (subst (λ (h : History). IsUpToDate o.rollout migration homes h (view tell t)) (sym at-found) up)

    legal-before : is_legal_shared o before ≡ true
    legal-before =
        front_is_legal o before more (front_is_legal o (before ++ more) shift.follows.past
        (subst (λ (ws : List Written). is_legal_shared o ws ≡ true) (shift.follows.is ∙ ap (λ (ws : List Written). ws ++ shift.follows.past) goes_on) legal))

    enough : unsettled o.rollout.problem o.rollout.plan (history_of o before) ≤ rounds
    enough = omega (arith, passes-unsettled o homes switches [] before none-ended, ap (unsettled o.rollout.problem o.rollout.plan) at-found, sure.enough)

    served-excused : StopsNothing seat before → (halt : Halt) → Served tell o (seat ∷ []) seat migration homes rounds s.given.before (wake.Stopped halt) s.now → halt.seat ≡ seat → IsExcused halt.cause
    served-excused quiet halt served mine =
        worker-excused tell o seat [] migration homes rounds sure.network sure.plan sure.small same_homes s.given.before legal-before ups (excused-quiet seat before quiet) enough halt s.now served others mine

  by-wake : (end : Wake) → IsEndAt o s.now.seen end → Promises tell o seat migration homes rounds s.given.before end s.now → StopsNothing seat before → Served tell o (seat ∷ []) seat migration homes rounds s.given.before end s.now → (halt : Halt) → first_stop s.now.seen ≡ Some halt → halt.seat ≡ seat → IsExcused halt.cause
  by-wake (wake.Work op) ends promises quiet served halt first mine = absurd ends
  by-wake wake.Finished ends promises quiet served halt first mine = absurd (none_is_no_halt halt (sym ends.0 ∙ first))
  by-wake wake.Held ends promises quiet served halt first mine = absurd (none_is_no_halt halt (sym ends.0 ∙ first))
  by-wake (wake.Stopped told) ends promises quiet served halt first mine =
      let same = some_same_is told halt (sym ends ∙ first) in
      subst (λ (h : Halt). IsExcused h.cause) same (served-excused promises.more promises.goes_on quiet told served (ap (λ (h : Halt). h.seat) same ∙ mine))
  by-wake wake.Memory ends promises quiet served halt first mine = absurd ends

  by-end : (end : Option Wake) → Returns tell o seat migration homes rounds s.given.before end s.now → (halt : Halt) → first_stop s.now.seen ≡ Some halt → halt.seat ≡ seat → IsExcused halt.cause
  by-end None returns halt first mine = early-excused s.now.seen halt.cause (returns.1 halt first mine)
  by-end (Some end) returns halt first mine =
      let live : All (λ (t : SessionView P). IsTrue t.stream.live) s.given.before.ports = λ k d inside. subst (λ (t : SessionView P). IsTrue t.stream.live) (sym (shift.fresh k d inside)) refl in
      let promises = serves-keeps tell o seat [] migration homes rounds s.given.before returns.0 end s.now live returns.1 in
      by-wake end promises.ends promises returns.0 returns.1 halt first mine

  pub one-excused : (halt : Halt) → first_stop log ≡ Some halt → halt.seat ≡ seat → IsExcused halt.cause
  one-excused halt first mine = by-end s.end shift.returns halt (seen-first halt first mine) mine

-- the switch of a port that told something
one-told : {P : Type 0} (tell : P → PortTrace) (migration switch : ℕ) (answer : Answer) (bs ns : List (SessionView P)) → AtOne (λ b n. WasTold migration switch answer (view tell b) (view tell n)) bs ns → Contains (switches_of bs) switch
one-told tell migration switch answer [] [] one = absurd one
one-told tell migration switch answer [] (n ∷ ns) one = absurd one
one-told tell migration switch answer (b ∷ bs) [] one = absurd one
one-told tell migration switch answer (b ∷ bs) (n ∷ ns) (inl here) = (0, omega arith, here.told.is_port)
one-told tell migration switch answer (b ∷ bs) (n ∷ ns) (inr later) = inside-later b.switch switch (switches_of bs) (one-told tell migration switch answer bs ns later)

-- ---- all of them
module _ {P : Type 0} (tell : P → PortTrace) (o : Opening) (migration : ℕ) (homes : List (Option ℕ)) (rounds : ℕ) (same_homes : homes ≡ homes_of o.rollout.problem) (log : List Written) (legal : is_legal_shared o log ≡ true) (opened : List (SessionView P)) (sure : IsServed tell o migration homes rounds opened)
    (one : IsOfWorkers tell o migration homes rounds opened log) where
  abbrev shifts : List (Shift P)
  shifts = one.worked.shifts

  shift-of : (seat : ℕ) → seat < one.seats → (s : Shift P) × Contains shifts s × (s.given.seat ≡ seat)
  shift-of seat low = of_one shifts seat (one.worked.seated seat low)

  whole-of : (s : Shift P) → Contains shifts s → IsShift tell o migration homes rounds log s
  whole-of s at = All-contains (IsShift tell o migration homes rounds log) shifts s one.worked.whole_shifts at

  -- what another worker's notes settle was told at its own ports
  elsewhere : (s : Shift P) → Contains shifts s → OthersEndElsewhere homes (switches_of s.given.before.ports) s.given.seat log
  elsewhere s at_s w at other op done switch home here =
      let found = shift-of w.note.seat (All-contains (λ v. seat_of v < one.seats) log w one.made at) in
      let r : Shift P = found.0 in
      let mine = keeps tell o migration homes rounds log r (whole-of r found.1) in
      let answered = All-contains (λ v. v.note.seat ≡ r.given.seat → AreAnswered tell migration homes r.given.before.ports v.entries r.now.ports) log w mine.answered at (sym found.2) op done in
      let told = answered.told in
      let same : told.switch ≡ switch = same_Some told.switch switch (sym told.home ∙ ap (home_at homes) answered.item ∙ home) in
      let there = one-told tell migration told.switch answered.answer r.given.before.ports r.now.ports told.told in
      one.apart s r at_s found.1 (λ seats. other (seats ∙ found.2)) switch here (subst (Contains (switches_of r.given.before.ports)) same there)

  pub run-excused : (halt : Halt) → first_stop log ≡ Some halt → IsExcused halt.cause
  run-excused halt first =
      let note = noted log halt first in
      let below : halt.seat < one.seats = subst (λ (n : ℕ). n < one.seats) note.seat (All-contains (λ w. seat_of w < one.seats) log note.note one.made note.among) in
      let found = shift-of halt.seat below in
      let s : Shift P = found.0 in
      one-excused tell o migration homes rounds same_homes log legal opened sure s (whole-of s found.1) (elsewhere s found.1)
      (λ t at. Contains-permutation (given_ports shifts ++ one.worked.spare) opened t (IsPermutation-sym opened (given_ports shifts ++ one.worked.spare) one.worked.same)
      (Contains-append_left (given_ports shifts) one.worked.spare t (in_all (λ r. r.given.before.ports) shifts s t found.1 at)))
      halt first (sym found.2)

-- one worker's ports are apart from no other's
pub alone-apart : {P : Type 0} (shifts : List (Shift P)) (ports : List (SessionView P)) → map (λ s. s.now.ports) shifts ≡ ports ∷ [] → AreServedApart shifts
alone-apart [] ports back a b at_a at_b other switch here there = omega (arith, ap length back)
alone-apart (s ∷ r ∷ shifts) ports back a b at_a at_b other switch here there = omega (arith, ap length back)
alone-apart {P = P} (s ∷ []) ports back a b at_a at_b other switch here there = other (ap (λ (r : Shift P). r.given.seat) (sym (only s a at_a) ∙ only s b at_b))
  where
    only : {P : Type 0} (s x : Shift P) → Contains (s ∷ []) x → s ≡ x
    only s x (zero, inside, is) = is
    only s x (suc k, inside, is) = absurd (omega (arith, inside))
