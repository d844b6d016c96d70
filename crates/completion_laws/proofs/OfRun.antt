-- How the workers of a run came to its history, as the clause of the run tells.
use Rattle.std.proofs.Common.{◌≡◌, ◌⊎◌, ℕ, ◌<◌, true, false, List, [], ◌∷◌, ◌++◌, map, Option, Some, None, inl, inr, refl, sym, ap, ◌∙◌, subst, arith, append_assoc}
use Rattle.std.proofs.lemmas.Bool.{both_ways}
use Rattle.std.proofs.lemmas.List.Elements.{All-contains}
use Rattle.std.specs.List.{All, IsDistinct}
use Rattle.std.specs.Prelude.{IsTrue, nat_eq}
use Rattle.rollout_rules.specs.Legal.{is_finished}
use Rattle.port_session.specs.Sessions.{SessionView}
use Rattle.shared_book.specs.declared.note.Written.{Written}
use Rattle.shared_book.specs.declared.call_reply.Wake.{Wake}
use Rattle.shared_book.specs.declared.call_reply.Wake.TheVariants as wake
use Rattle.shared_book.specs.Histories.{Opening, history_of}
use Rattle.shared_book.specs.Legal.{is_still}
use Rattle.shared_book.specs.Notes.{first_stop}
use Rattle.shared_book.proofs.Stops.{first_stop-stays}
use Rattle.shared_book.specs.Calls.{seat_of}
use Rattle.wan_edge.specs.Ports.{PortTrace}
use Rattle.switch_ports.specs.declared.ports.Berth.{Berth}
use Rattle.switch_ports.specs.Berths.{AreApart}
use Rattle.switch_ports.specs.Hands.{first_sessions}
use Rattle.controller_run.specs.Promises.{IsEndAt, Promises}
use Rattle.controller_run.proofs.Keeps.{serves-keeps}
use Rattle.controller_run.specs.Shifts.{HasTurned, IsHalted, IsRelieved, IsShift, Returns, Shift}
use Rattle.controller_run.specs.Together.{HasWorked}
use Rattle.controller_run.proofs.Kept.{distinct_of}
use Rattle.controller_run.proofs.Over.{talks_switches}
use Rattle.controller_run.proofs.RunPorts.{of_one}
use Rattle.controller_run.proofs.Quiet.{none_is_no_halt}
use Rattle.completion_laws.specs.Finishing.{HasEnded, IsOfWorkers}
use Rattle.completion_laws.proofs.Apart.{served-apart}

-- what has turned has turned, whatever comes later
turned-on : (ws more : List Written) → HasTurned ws → HasTurned (ws ++ more)
turned-on ws more turned = record {
  front = turned.front;
  note = turned.note;
  later = turned.later ++ more;
  is = ap (λ (vs : List Written). vs ++ more) turned.is ∙ append_assoc turned.front (turned.note ∷ turned.later) more;
  dones = turned.dones;
  begins = turned.begins;
  says = turned.says;
}

module _ {P : Type 0} (tell : P → PortTrace) (o : Opening) (migration : ℕ) (homes : List (Option ℕ)) (rounds : ℕ) (log : List Written) (none : first_stop log ≡ None) (s : Shift P) (shift : IsShift tell o migration homes rounds log s) where
  abbrev Idles : Type 0
  Idles = is_finished o.rollout.problem o.rollout.plan (history_of o s.now.seen) ≡ false → is_still o.rollout.problem (history_of o s.now.seen) ≡ true

  -- no stop stands in what it has seen
  unhalted : IsHalted s.now.seen → ⊥
  unhalted halted =
      none_is_no_halt halted.0 (sym none ∙ ap first_stop shift.follows.is ∙ first_stop-stays s.now.seen shift.follows.past halted.0 halted.1)

  promised : (end : Wake) → Returns tell o s.given.seat migration homes rounds s.given.before (Some end) s.now → Promises tell o s.given.seat migration homes rounds s.given.before end s.now
  promised end returns =
      serves-keeps tell o s.given.seat [] migration homes rounds s.given.before returns.0 end s.now (λ k d inside. subst (λ (t : SessionView P). IsTrue t.stream.live) (sym (shift.fresh k d inside)) refl) returns.1

  by-wake : (end : Wake) → IsEndAt o s.now.seen end → Idles
  by-wake (wake.Work op) ends unfinished = absurd ends
  by-wake wake.Finished ends unfinished = absurd (both_ways (is_finished o.rollout.problem o.rollout.plan (history_of o s.now.seen)) unfinished ends.1)
  by-wake wake.Held ends unfinished = ends.1
  by-wake (wake.Stopped halt) ends unfinished = absurd (unhalted (halt, ends))
  by-wake wake.Memory ends unfinished = absurd ends

  -- the worker of seat 0 leaves its ports to nobody
  unrelieved : s.given.seat ≡ 0 → IsHalted s.now.seen ⊎ IsRelieved s.given.seat s.now.ports → ⊥
  unrelieved first (inl halted) = unhalted halted
  unrelieved first (inr relieved) = omega (arith, first, relieved.0)

  ended-by : (end : Option Wake) → Returns tell o s.given.seat migration homes rounds s.given.before end s.now → s.given.seat ≡ 0 → HasEnded o log
  ended-by None returns first = absurd (unrelieved first returns.2)
  ended-by (Some end) returns first =
      let promises = promised end returns in
      record {
        front = s.now.seen;
        later = shift.follows.past;
        is = shift.follows.is;
        turned = subst HasTurned (sym promises.goes_on) (turned-on s.given.before.seen promises.more returns.2);
        idle = by-wake end promises.ends;
      }

module _ {P : Type 0} (tell : P → PortTrace) (o : Opening) (migration : ℕ) (homes : List (Option ℕ)) (rounds : ℕ) (berths : List (Berth P)) (apart : AreApart berths) (log : List Written) (seats : ℕ) (made : All (λ w. seat_of w < seats) log) (left : List (SessionView P)) (worked : HasWorked tell o migration homes rounds (first_sessions berths) seats log left) where
  distinct : IsDistinct nat_eq (map (λ (t : SessionView P). t.switch) (first_sessions berths))
  distinct = subst (λ (l : List ℕ). IsDistinct nat_eq l) (sym (talks_switches berths)) (distinct_of berths apart)

  -- the worker of seat 0 has come to its end
  ended : first_stop log ≡ None → HasEnded o log
  ended none =
      let caller = of_one worked.shifts 0 (worked.seated 0 worked.some_seat) in
      let shift = All-contains (IsShift tell o migration homes rounds log) worked.shifts caller.0 worked.whole_shifts caller.1 in
      ended-by tell o migration homes rounds log none caller.0 shift caller.0.end shift.returns caller.2

  pub of-workers : IsOfWorkers tell o migration homes rounds (first_sessions berths) log
  of-workers = record {
    seats = seats;
    made = made;
    left = left;
    worked = worked;
    apart = served-apart worked.shifts worked.spare (first_sessions berths) worked.same distinct;
    ended = ended;
  }
