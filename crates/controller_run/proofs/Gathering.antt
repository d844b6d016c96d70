-- Workers are taken in, one after the other.
use Rattle.std.proofs.Common.{◌≡◌, ◌≢◌, ◌⊎◌, ℕ, ◌+◌, ◌<◌, ◌≤◌, List, [], ◌∷◌, ◌++◌, IsPermutation, Option, append-nil, slice_index_or, inl, inr, sym, ap, ◌∙◌, subst, arith}
use Rattle.std.proofs.lemmas.Bool.{cases_eq}
use Rattle.std.specs.List.{Contains}
use Rattle.std.proofs.lemmas.List.Elements.{All-nil, All-push, Contains-append_left, Contains-append_right}
use Rattle.std.proofs.lemmas.List.Sorted.{IsPermutation-append_left, IsPermutation-trans}
use Rattle.turn_lock.specs.Histories.{Follows}
use Rattle.port_session.specs.Sessions.{SessionView}
use Rattle.wan_edge.specs.Ports.{PortTrace}
use Rattle.shared_book.specs.Calls.{seat_of}
use Rattle.shared_book.specs.declared.note.Written.{Written}
use Rattle.shared_book.specs.Histories.{Opening}
use Rattle.shared_book.specs.Notes.{first_stop}
use Rattle.shared_book.proofs.Stops.{first_stop-stays}
use Rattle.controller_run.specs.Shifts.{IsHalted, IsOfOne, IsShift, Shift}
use Rattle.controller_run.specs.Workers.{Gathers}
use Rattle.controller_run.specs.Together.{HasWorked, given_ports, left_ports}
use Rattle.controller_run.proofs.Histories.{follows_on}
use Rattle.controller_run.proofs.Rows.{flat_push, of_last, of_one_left}
use Rattle.controller_run.proofs.Shuffles.{end_in}

-- what stands in a history stands in a longer one
pub halted_on : (seats : List ℕ) (log later : List Written) → Follows seat_of seats log later → IsHalted log → IsHalted later
halted_on seats log later past halted = (halted.0, ap first_stop past.is ∙ first_stop-stays log past.past halted.0 halted.1)

spared_on : {P : Type 0} (seats : List ℕ) (log later : List Written) (spare : List (SessionView P)) → Follows seat_of seats log later → (spare ≡ []) ⊎ IsHalted log → (spare ≡ []) ⊎ IsHalted later
spared_on seats log later spare past (inl none) = inl none
spared_on seats log later spare past (inr halted) = inr (halted_on seats log later past halted)

module _ {P : Type 0} (tell : P → PortTrace) (o : Opening) (migration : ℕ) (homes : List (Option ℕ)) (rounds : ℕ) where
  -- a shift goes on in a longer history, while its seat is one of those that know it
  goes_on : (seats : List ℕ) (log later : List Written) → Follows seat_of seats log later → (s : Shift P) → Contains seats s.given.seat → IsShift tell o migration homes rounds log s → IsShift tell o migration homes rounds later s
  goes_on seats log later past s among shift = record {
    quiet = shift.quiet;
    fresh = shift.fresh;
    returns = shift.returns;
    follows = follows_on seat_of s.given.seat seats s.now.seen log later among shift.follows past;
  }

  -- the caller, before any other is taken in
  pub caller_alone : (first : ℕ) (s : Shift P) (whole now spare : List (SessionView P)) (log : List Written) → s.given.seat ≡ 0 → IsShift tell o migration homes rounds log s
      → IsPermutation whole (s.given.before.ports ++ spare) → IsPermutation (s.now.ports ++ spare) now → (spare ≡ []) ⊎ IsHalted log → Gathers tell o migration homes rounds first 0 whole (0 ∷ []) log now
  caller_alone first s whole now spare log is shift same back spared = record {
    shifts = s ∷ [];
    whole_shifts = All-push (IsShift tell o migration homes rounds log) [] s (All-nil (IsShift tell o migration homes rounds log)) shift;
    among = All-push (λ (r : Shift P). Contains (0 ∷ []) r.given.seat) [] s (All-nil (λ (r : Shift P). Contains (0 ∷ []) r.given.seat)) (0, omega arith, sym is);
    caller = inl is;
    seated = λ seat from below. absurd (omega (arith, from, below));
    spare = spare;
    same = subst (λ (l : List (SessionView P)). IsPermutation whole (l ++ spare)) (sym (append-nil s.given.before.ports)) same;
    back = subst (λ (l : List (SessionView P)). IsPermutation (l ++ spare) now) (sym (append-nil s.now.ports)) back;
    spared = spared;
  }

  -- One worker more is taken in.
  pub one_more : (first count : ℕ) (seats theirs : List ℕ) (log later : List Written) (whole0 whole now0 now : List (SessionView P)) (s : Shift P)
      → Follows seat_of seats log later → IsShift tell o migration homes rounds later s → Contains theirs s.given.seat → s.given.seat ≡ first
      → IsPermutation whole (whole0 ++ s.given.before.ports) → now ≡ now0 ++ s.now.ports
      → Gathers tell o migration homes rounds (first + 1) count whole0 seats log now0 → Gathers tell o migration homes rounds first (count + 1) whole (seats ++ theirs) later now
  one_more first count seats theirs log later whole0 whole now0 now s past shift mine is same back g = record {
    shifts = g.shifts ++ s ∷ [];
    whole_shifts = All-push (IsShift tell o migration homes rounds later) g.shifts s
        (λ k d inside. goes_on seats log later past (slice_index_or g.shifts k d) (g.among k d inside) (g.whole_shifts k d inside)) shift;
    among = All-push (λ (r : Shift P). Contains (seats ++ theirs) r.given.seat) g.shifts s (λ k d inside. Contains-append_left seats theirs (slice_index_or g.shifts k d).given.seat (g.among k d inside))
        (Contains-append_right seats theirs s.given.seat mine);
    caller = of_one_left g.shifts s 0 g.caller;
    seated = λ seat from below. at_seat seat from below (cases_eq seat first);
    spare = g.spare;
    same = IsPermutation-trans whole (whole0 ++ s.given.before.ports) (given_ports (g.shifts ++ s ∷ []) ++ g.spare) same
        (subst (λ (l : List (SessionView P)). IsPermutation (whole0 ++ s.given.before.ports) (l ++ g.spare)) (sym (flat_push (λ (r : Shift P). r.given.before.ports) g.shifts s))
        (IsPermutation-trans _ _ _ (IsPermutation-append_left s.given.before.ports whole0 (given_ports g.shifts ++ g.spare) g.same) (end_in (given_ports g.shifts) g.spare s.given.before.ports)));
    back = subst (λ (l : List (SessionView P)). IsPermutation (l ++ g.spare) now) (sym (flat_push (λ (r : Shift P). r.now.ports) g.shifts s))
        (subst (λ (l : List (SessionView P)). IsPermutation ((left_ports g.shifts ++ s.now.ports) ++ g.spare) l) (sym back)
        (IsPermutation-trans _ _ _ (end_in (left_ports g.shifts) s.now.ports g.spare) (IsPermutation-append_left s.now.ports (left_ports g.shifts ++ g.spare) now0 g.back)));
    spared = spared_on seats log later g.spare past g.spared;
  }
    where
      at_seat : (seat : ℕ) → first ≤ seat → seat < first + (count + 1) → (seat ≡ first) ⊎ (seat ≢ first) → IsOfOne (g.shifts ++ s ∷ []) seat
      at_seat seat from below (inl here) = of_last g.shifts s seat (is ∙ sym here)
      at_seat seat from below (inr other) = of_one_left g.shifts s seat (g.seated seat (omega (arith, from, other)) (omega (arith, below)))

  -- All are in.
  pub all_in : (first count given : ℕ) (whole : List (SessionView P)) (seats : List ℕ) (log : List Written) (now : List (SessionView P)) → first ≡ 1 → given ≡ first + count
      → Gathers tell o migration homes rounds first count whole seats log now → HasWorked tell o migration homes rounds whole given log now
  all_in first count given whole seats log now one many g = record {
    shifts = g.shifts;
    whole_shifts = g.whole_shifts;
    some_seat = omega (arith, one, many);
    seated = λ seat below. at_seat seat below (cases_eq seat 0);
    spare = g.spare;
    same = g.same;
    back = g.back;
    spared = g.spared;
  }
    where
      at_seat : (seat : ℕ) → seat < given → (seat ≡ 0) ⊎ (seat ≢ 0) → IsOfOne g.shifts seat
      at_seat seat below (inl here) = subst (λ (n : ℕ). IsOfOne g.shifts n) (sym here) g.caller
      at_seat seat below (inr other) = g.seated seat (omega (arith, one, other)) (omega (arith, below, many))
