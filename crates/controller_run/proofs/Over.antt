-- A run over ports that were opened, said of the fleet.
use Rattle.std.proofs.lemmas.List.Elements.{All-head, All-tail, Contains-append_left, Contains-append_right, Contains-get_or}
use Rattle.std.proofs.lemmas.List.Sorted.{Contains-permutation, IsPermutation-map, IsPermutation-trans}
use Rattle.std.proofs.Common.{◌≡◌, ℕ, Bool, false, suc, zero, ◌<◌, List, [], ◌∷◌, ◌++◌, IsPermutation, Option, Some, length, map, slice_index_or, refl, sym, ap, ap₂, ◌∙◌, subst, arith, inr}
use Rattle.std.specs.Prelude.{All, nat_eq}
use Rattle.std.specs.List.{AllByRecursion, Contains, IsDistinct}
use Rattle.disk_model.specs.Traces.{DiskTrace}
use Rattle.wan_edge.specs.Streams.{Rose}
use Rattle.port_session.specs.Sessions.{SessionView, first_session}
use Rattle.wan_edge.specs.Frames.{Command}
use Rattle.wan_edge.specs.Ports.{PortTrace}
use Rattle.switch_ports.specs.Stories.{LastStoryEach}
use Rattle.switch_ports.specs.declared.ports.Berth.{Berth}
use Rattle.rollout_book.specs.JournaledRounds.{Journaled}
use Rattle.switch_ports.specs.Berths.{AreApart, AreLent, AreNamed, FleetPorts, after_keeping, switches_of, with_each, without_each}
use Rattle.switch_ports.specs.Hands.{berths_of, first_sessions}
use Rattle.switch_ports.specs.Opening.{Opens}
use Rattle.switch_ports.proofs.Given.{given_back, opened_named}
use Rattle.switch_ports.proofs.Places.{without_others}
use Rattle.shared_book.specs.declared.note.Written.{Written}
use Rattle.shared_book.specs.Histories.{Opening}
use Rattle.shared_book.specs.Homes.{homes_of}
use Rattle.controller_run.specs.Keeping.{Keeps}
use Rattle.controller_run.specs.PortRuns.{AreAtHome}
use Rattle.controller_run.specs.Ran.{EndsRun, IsBegunOver, IsOver, Ran}
use Rattle.controller_run.specs.Runs.{IsRun, Runs}
use Rattle.controller_run.specs.Shifts.{IsShift, Shift}
use Rattle.controller_run.specs.Together.{HasWorked, given_ports, left_ports}
use Rattle.controller_run.specs.declared.end.RunEnd.{RunEnd}
use Rattle.controller_run.specs.declared.end.RunEnd.TheVariants as run
use Rattle.controller_run.proofs.Hands.{same_berths}
use Rattle.controller_run.proofs.Fleets.{as_it_was, given_back_at}
use Rattle.controller_run.proofs.Keeping.{keeps}
use Rattle.controller_run.proofs.Causes.{has_reason}
use Rattle.controller_run.proofs.Kept.{all_in_any_order, apart_in_order, distinct_of, keeping_alike, lent_in_order}
use Rattle.controller_run.proofs.RunPorts.{at_home, contains_later, in_all, is_back}
use Rattle.controller_run.proofs.Rows.{map_both}

abbrev switches : {P : Type 0} → List (SessionView P) → List ℕ
switches talks = map (λ t. t.switch) talks

-- ---- switches of berths and of talks
pub talks_switches : {P : Type 0} (berths : List (Berth P)) → switches (first_sessions berths) ≡ switches_of berths
talks_switches [] = refl
talks_switches (b ∷ berths) = ap (λ (l : List ℕ). b.switch ∷ l) (talks_switches berths)

pub berths_switches : {P : Type 0} (talks : List (SessionView P)) → switches_of (berths_of talks) ≡ switches talks
berths_switches [] = refl
berths_switches (t ∷ talks) = ap (λ (l : List ℕ). t.switch ∷ l) (berths_switches talks)

-- each port is before its first round
pub all_fresh : {P : Type 0} (berths : List (Berth P)) (k : ℕ) (d : SessionView P) → k < length (first_sessions berths) → slice_index_or (first_sessions berths) k d ≡ first_session (slice_index_or (first_sessions berths) k d).switch (slice_index_or (first_sessions berths) k d).port
all_fresh [] k d inside = absurd (omega (arith, inside))
all_fresh (b ∷ berths) zero d inside = refl
all_fresh (b ∷ berths) (suc k) d inside = all_fresh berths k d (omega (arith, inside))

-- the ports that a run leaves are apart and lent as those that were opened
pub left_apart : {P : Type 0} (berths : List (Berth P)) (ports : List (SessionView P)) → IsPermutation (switches_of berths) (switches ports) → AreApart berths → AreApart (berths_of ports)
left_apart berths ports same apart = apart_in_order berths (berths_of ports) (subst (λ (l : List ℕ). IsPermutation (switches_of berths) l) (sym (berths_switches ports)) same) apart

pub left_lent : {P : Type 0} (lent : ℕ → Bool) (berths : List (Berth P)) (ports : List (SessionView P)) → IsPermutation (switches_of berths) (switches ports) → AreLent lent berths → AreLent lent (berths_of ports)
left_lent lent berths ports same all = lent_in_order lent berths (berths_of ports) (subst (λ (l : List ℕ). IsPermutation (switches_of berths) l) (sym (berths_switches ports)) same) all

-- ports that were dealt and then served
pub moved_switches : {P : Type 0} (berths : List (Berth P)) (dealt ports : List (SessionView P)) → IsPermutation (first_sessions berths) dealt → IsPermutation (switches dealt) (switches ports) → IsPermutation (switches_of berths) (switches ports)
moved_switches berths dealt ports deals moved =
    IsPermutation-trans (switches_of berths) (switches dealt) (switches ports) (subst (λ (l : List ℕ). IsPermutation l (switches dealt)) (talks_switches berths) (IsPermutation-map (λ (t : SessionView _). t.switch) (first_sessions berths) dealt deals)) moved

-- a talk's berth is among the berths of the talks
berth_among : {P : Type 0} (talks : List (SessionView P)) (t : SessionView P) → Contains talks t → Contains (berths_of talks) (record { switch = t.switch; port = t.port })
berth_among [] t at = absurd (omega (arith, at.1))
berth_among (u ∷ talks) t (zero, inside, is) = (0, omega arith, ap (λ (v : SessionView _). record { switch = v.switch; port = v.port }) is)
berth_among (u ∷ talks) t (suc k, inside, is) = contains_later (record { switch = u.switch; port = u.port }) (berths_of talks) (record { switch = t.switch; port = t.port }) (berth_among talks t (k, omega (arith, inside), is))

module _ {D P : Type 0} (trace : D → DiskTrace) (tell : P → PortTrace) (o : Opening) (from count migration rounds : ℕ) (homes : List ℕ) (before opened now : FleetPorts P) (end : RunEnd) (book : Journaled D) (berths : List (Berth P)) where
  pub to_ran : Opens tell o.rollout.problem homes before berths opened → AreApart berths
      → IsBegunOver opened now berths (λ ports. Runs trace tell o from count migration rounds (first_sessions berths) end book ports)
      → Ran trace tell o from count migration rounds homes before end book now
  to_ran opens apart over =
      let runs = over.runs in
      let worked = runs.worked in
      let places = without_each before.kept homes in
      let all_keep : All (Keeps tell o migration (homes_of o.rollout.problem) runs.log) worked.shifts = λ k d inside. keeps tell o migration (homes_of o.rollout.problem) rounds runs.log (slice_index_or worked.shifts k d) (worked.whole_shifts k d inside) in
      let kept_is : now.kept ≡ with_each places (berths_of over.ports) = ap (λ (p : FleetPorts P). p.kept) over.kept ∙ ap (λ (p : FleetPorts P). with_each p.kept (berths_of over.ports)) opens.ports in
      let distinct : IsDistinct nat_eq (switches (first_sessions berths)) = subst (λ (l : List ℕ). IsDistinct nat_eq l) (sym (talks_switches berths)) (distinct_of berths apart) in
      let now_apart : AreApart (berths_of over.ports) = left_apart berths over.ports over.switches apart in
      let among : (t : SessionView P) → Contains (left_ports worked.shifts ++ worked.spare) t → Contains over.ports t = λ t at. Contains-permutation (left_ports worked.shifts ++ worked.spare) over.ports t worked.back at in
      let at_ports : (t : SessionView P) → Contains over.ports t → now.kept t.switch ≡ Some t.port = λ t at. ap (λ (k : ℕ → Option P). k t.switch) kept_is ∙ given_back_at places (berths_of over.ports) (record { switch = t.switch; port = t.port }) now_apart (berth_among over.ports t at) in
      let back : (s : Shift P) (t : SessionView P) → Contains worked.shifts s → Contains s.now.ports t → now.kept t.switch ≡ Some t.port = λ s t in_shifts at. at_ports t (among t (Contains-append_left (left_ports worked.shifts) worked.spare t (in_all (λ (r : Shift P). r.now.ports) worked.shifts s t in_shifts at))) in
      let left : (t : SessionView P) → Contains worked.spare t → now.kept t.switch ≡ Some t.port = λ t at. at_ports t (among t (Contains-append_right (left_ports worked.shifts) worked.spare t at)) in
      record {
        log = runs.log;
        legal = runs.legal;
        closed = runs.closed;
        images = runs.images;
        heard = runs.heard;
        ends = runs.ends;
        berths = berths;
        switches = opens.switches;
        given = opens.given;
        asked = subst (λ (named : ℕ → Option (List ℕ)). AreNamed named o.rollout.problem homes) (sym (ap (λ (p : FleetPorts P). p.named) over.kept)) (opened_named tell o.rollout.problem homes before opened berths opens);
        ports = λ k d inside. is_back tell o migration (homes_of o.rollout.problem) runs.log worked.shifts worked.spare (first_sessions berths) runs.seats now.kept all_keep worked.seated runs.made worked.same distinct back left (slice_index_or (first_sessions berths) k d) (Contains-get_or (first_sessions berths) k d inside);
        at_home = subst (λ (l : List ℕ). AreAtHome (homes_of o.rollout.problem) runs.log l) (talks_switches berths ∙ opens.switches) (at_home tell o migration (homes_of o.rollout.problem) runs.log worked.shifts worked.spare (first_sessions berths) runs.seats now.kept all_keep worked.seated runs.made worked.same distinct back left);
        reason = has_reason tell o migration (homes_of o.rollout.problem) rounds runs.log runs.legal worked.shifts worked.spare (first_sessions berths) runs.seats now.kept (Rose count (trace book.disk).faults) worked.whole_shifts all_keep worked.seated runs.made worked.same back runs.images.failed end runs.ends;
        apart = apart;
        seats = runs.seats;
        made = runs.made;
        left = over.ports;
        worked = worked;
        others = λ switch other. ap (λ (k : ℕ → Option P). k switch) kept_is ∙ as_it_was places (berths_of over.ports) switch (subst (λ (l : List ℕ). AllByRecursion (λ n. nat_eq switch n ≡ false) l) (sym (berths_switches over.ports)) (all_in_any_order (λ n. nat_eq switch n ≡ false) (switches_of berths) (switches over.ports) over.switches (subst (λ (l : List ℕ). AllByRecursion (λ n. nat_eq switch n ≡ false) l) (sym opens.switches) other))) ∙ without_others before.kept homes switch other;
      }

-- ---- a run over the same ports in another order
module _ {P : Type 0} (tell : P → PortTrace) (o : Opening) (migration : ℕ) (homes : List (Option ℕ)) (rounds : ℕ) where
  pub worked_over : (whole dealt : List (SessionView P)) (seats : ℕ) (log : List Written) (now : List (SessionView P)) → IsPermutation whole dealt → HasWorked tell o migration homes rounds dealt seats log now → HasWorked tell o migration homes rounds whole seats log now
  worked_over whole dealt seats log now deals worked = record {
    shifts = worked.shifts;
    whole_shifts = worked.whole_shifts;
    some_seat = worked.some_seat;
    seated = worked.seated;
    spare = worked.spare;
    same = IsPermutation-trans whole dealt (given_ports worked.shifts ++ worked.spare) deals worked.same;
    back = worked.back;
    spared = worked.spared;
  }

  -- no port is taken for another's switch
  switches_stay : (commands : List Command) (ps ns : List (SessionView P)) → LastStoryEach tell migration homes commands ps ns → switches ns ≡ switches ps
  switches_stay commands [] [] story = refl
  switches_stay commands [] (n ∷ ns) story = absurd story
  switches_stay commands (p ∷ ps) [] story = absurd story
  switches_stay commands (p ∷ ps) (n ∷ ns) story = ap₂ (λ (w : ℕ) (ws : List ℕ). w ∷ ws) story.0.switch (switches_stay commands ps ns story.1)

  shifts_stay : (log : List Written) (ss : List (Shift P)) → All (IsShift tell o migration homes rounds log) ss → switches (left_ports ss) ≡ switches (given_ports ss)
  shifts_stay log [] all = refl
  shifts_stay log (s ∷ ss) all =
      let kept : Keeps tell o migration homes log s = keeps tell o migration homes rounds log s (All-head (IsShift tell o migration homes rounds log) s ss all) in
      map_both (λ (t : SessionView P). t.switch) s.now.ports (left_ports ss)
      ∙ ap₂ (λ (a b : List ℕ). a ++ b) (switches_stay kept.sent s.given.before.ports s.now.ports kept.story) (shifts_stay log ss (All-tail (IsShift tell o migration homes rounds log) s ss all))
      ∙ sym (map_both (λ (t : SessionView P). t.switch) s.given.before.ports (given_ports ss))

  pub same_switches : (whole : List (SessionView P)) (seats : ℕ) (log : List Written) (now : List (SessionView P)) → HasWorked tell o migration homes rounds whole seats log now → IsPermutation (switches whole) (switches now)
  same_switches whole seats log now worked =
      IsPermutation-trans (switches whole) (switches (given_ports worked.shifts ++ worked.spare)) (switches now) (IsPermutation-map (λ (t : SessionView P). t.switch) _ _ worked.same)
      (subst (λ (l : List ℕ). IsPermutation l (switches now))
      (map_both (λ (t : SessionView P). t.switch) (left_ports worked.shifts) worked.spare ∙ ap (λ (l : List ℕ). l ++ switches worked.spare) (shifts_stay log worked.shifts worked.whole_shifts) ∙ sym (map_both (λ (t : SessionView P). t.switch) (given_ports worked.shifts) worked.spare))
      (IsPermutation-map (λ (t : SessionView P). t.switch) _ _ worked.back))

module _ {D P : Type 0} (trace : D → DiskTrace) (tell : P → PortTrace) (o : Opening) (from count migration rounds : ℕ) (end : RunEnd) (book : Journaled D) (ports : List (SessionView P)) where
  pub runs_over : (whole dealt : List (SessionView P)) → IsPermutation whole dealt → Runs trace tell o from count migration rounds dealt end book ports → Runs trace tell o from count migration rounds whole end book ports
  runs_over whole dealt deals runs = record {
    log = runs.log;
    seats = runs.seats;
    legal = runs.legal;
    closed = runs.closed;
    images = runs.images;
    heard = runs.heard;
    made = runs.made;
    worked = worked_over tell o migration (homes_of o.rollout.problem) rounds whole dealt runs.seats runs.log ports deals runs.worked;
    ends = runs.ends;
  }

-- ---- by the end of a run
module _ {P : Type 0} (before now : FleetPorts P) (berths : List (Berth P)) (runs : List (SessionView P) → Type 0) (dealt_runs unbegun : Type 0) (dealt ports : List (SessionView P)) (over : dealt_runs → runs ports) (kept : now ≡ after_keeping before (berths_of ports)) (same : IsPermutation (switches_of berths) (switches ports)) (deals : IsPermutation (first_sessions berths) dealt) (apart : AreApart berths) where
  begun_over : dealt_runs → IsBegunOver before now berths runs
  begun_over holds = record { ports = ports; runs = over holds; switches = same; kept = kept }

  -- where nothing was begun all were given back as they were opened
  all_back : ports ≡ dealt → now ≡ after_keeping before berths
  all_back is = kept ∙ ap (λ (ts : List (SessionView P)). after_keeping before (berths_of ts)) is ∙ sym (keeping_alike berths (berths_of dealt) apart (subst (λ (bs : List (Berth P)). IsPermutation bs (berths_of dealt)) (same_berths berths) (IsPermutation-map (λ (t : SessionView P). record { switch = t.switch; port = t.port }) (first_sessions berths) dealt deals)) before)

  pub is_over : (end : RunEnd) → IsRun end dealt_runs (unbegun × (ports ≡ dealt)) → IsOver before now berths end runs unbegun
  is_over run.Finished holds = begun_over holds
  is_over run.Held holds = begun_over holds
  is_over (run.Stopped halt) holds = begun_over holds
  is_over (run.NoPort switch) holds = absurd holds
  is_over run.Memory holds = (holds.0, all_back holds.1)

-- and over the fleet as it was before the ports were opened
module _ {D P : Type 0} (tell : P → PortTrace) (homes : List ℕ) (book_before book : Journaled D) (before opened now : FleetPorts P) (berths : List (Berth P)) (runs : List (SessionView P) → Type 0) (ran : Type 0) (to : IsBegunOver opened now berths runs → ran) (opens : Opens tell book_before.rollout.problem homes before berths opened) where
  pub ends_run : (end : RunEnd) → IsOver opened now berths end runs (book ≡ book_before) → EndsRun tell homes book_before book before now ran end
  ends_run run.Finished over = to over
  ends_run run.Held over = to over
  ends_run (run.Stopped halt) over = to over
  ends_run (run.NoPort switch) over = absurd over
  ends_run run.Memory over = record { same = over.0; ports = inr (given_back tell book_before.rollout.problem homes before opened now berths opens over.1) }
