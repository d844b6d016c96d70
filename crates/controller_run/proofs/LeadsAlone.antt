-- A worker that is alone in its run.
use Rattle.std.proofs.Common.{◌≡◌, ℕ, true, false, Bool, List, [], ◌∷◌, ◌++◌, Option, Some, None, append-nil, if◌then◌else◌, inl, inr, refl, sym, ap, ◌∙◌, subst, arith}
use Rattle.std.proofs.lemmas.List.Elements.{All-append, All-nil, All-push}
use Rattle.std.proofs.lemmas.List.Sorted.{IsPermutation-refl}
use Rattle.port_session.specs.Sessions.{SessionView}
use Rattle.wan_edge.specs.Ports.{PortTrace}
use Rattle.shared_book.specs.Calls.{IsRoundCall, IsStopCall, seat_of}
use Rattle.shared_book.specs.declared.reply.RoundReply.{RoundReply}
use Rattle.rollout_book.specs.declared.fault.BookFault.TheVariants as fault
use Rattle.rollout_book.specs.declared.turn.Turn.{Turn}
use Rattle.shared_book.specs.declared.reply.RoundReply.TheVariants as round
use Rattle.shared_book.specs.declared.note.Cause.{Cause}
use Rattle.shared_book.specs.declared.note.Cause.TheVariants as cause
use Rattle.shared_book.specs.declared.note.What.TheVariants as what
use Rattle.shared_book.specs.declared.note.Written.{Written}
use Rattle.shared_book.specs.declared.call_reply.Halt.{Halt}
use Rattle.shared_book.specs.declared.call_reply.Wake.{Wake}
use Rattle.shared_book.specs.Histories.{Opening, history_of}
use Rattle.shared_book.specs.Knows.{next_note}
use Rattle.shared_book.specs.Notes.{has_asked}
use Rattle.shared_book.specs.Replies.{batch_at}
use Rattle.controller_run.specs.Promises.{BeginsAlone, EndNothing, StopsNothing}
use Rattle.controller_run.specs.Serving.{Served}
use Rattle.controller_run.specs.Working.{Standing}
use Rattle.controller_run.proofs.Alone.{begins-alone, quiet-turned}
use Rattle.controller_run.proofs.Endings.{stop-first}
use Rattle.controller_run.specs.Runs.{cause_behind}
use Rattle.controller_run.specs.Shifts.{AreFresh, HasTurned, IsHalted, IsQuiet, IsShift, Returns, Shift, StopsEarly}
use Rattle.controller_run.specs.Together.{HasWorked}

has_turned : (reply : RoundReply) → ((why : Cause) → cause_behind reply ≡ Some why → ⊥) → (turn : Turn) × (reply ≡ round.Turned turn)
has_turned (round.Turned turn) uncaused = (turn, refl)
has_turned (round.Refused (fault.Alien item held begun)) uncaused = absurd (uncaused (cause.Above item held begun) refl)
has_turned (round.Refused fault.Disk) uncaused = absurd (uncaused cause.Disk refl)
has_turned (round.Stopped halt) uncaused = absurd (uncaused halt.cause refl)
has_turned round.Memory uncaused = absurd (uncaused cause.Memory refl)

module _ (o : Opening) (seat : ℕ) where
  -- after a first round without answers
  pub quiet_round : (seen after : List Written) (reply : RoundReply) → seen ≡ [] → IsRoundCall o (seat ∷ []) seat seen [] reply after → IsQuiet seat after
  quiet_round seen after reply none call =
      let begins : BeginsAlone seat seen after = begins-alone o seat [] seen after reply call in
      subst (λ (ws : List Written). IsQuiet seat ws) (sym (begins.goes_on ∙ ap (λ (ws : List Written). ws ++ begins.more) none)) begins.ends_nothing

  -- the same, said of a pass that is the first
  pub quiet_first : (seats : List ℕ) (asked : ℕ) (seen after : List Written) (reply : RoundReply) → seats ≡ seat ∷ [] → asked ≡ seat → seen ≡ [] → IsRoundCall o seats asked seen [] reply after → IsQuiet seat after
  quiet_first seats asked seen after reply same is none call =
      quiet_round seen after reply none (subst (λ (ns : List ℕ). IsRoundCall o ns seat seen [] reply after) same (subst (λ (n : ℕ). IsRoundCall o seats n seen [] reply after) is call))

  -- where it turned the seat has stopped nothing
  pub stopped_nothing : (seats : List ℕ) (asked : ℕ) (seen after : List Written) (reply : RoundReply) → seats ≡ seat ∷ [] → asked ≡ seat → seen ≡ [] → ((why : Cause) → cause_behind reply ≡ Some why → ⊥) → IsRoundCall o seats asked seen [] reply after → StopsNothing seat after
  stopped_nothing seats asked seen after reply same is none uncaused call =
      let turned = has_turned reply uncaused in
      quiet-turned o seat [] seen after turned.0 (subst (λ (ws : List Written). StopsNothing seat ws) (sym none) (All-nil _))
      (subst (λ (r : RoundReply). IsRoundCall o (seat ∷ []) seat seen [] r after) turned.1 (subst (λ (ns : List ℕ). IsRoundCall o ns seat seen [] reply after) same (subst (λ (n : ℕ). IsRoundCall o seats n seen [] reply after) is call)))

  -- and a note says that it did
  pub turned_first : (seats : List ℕ) (asked : ℕ) (seen after : List Written) (reply : RoundReply) → ((why : Cause) → cause_behind reply ≡ Some why → ⊥) → IsRoundCall o seats asked seen [] reply after → HasTurned after
  turned_first seats asked seen after reply uncaused call =
      let turned = has_turned reply uncaused in
      of_call turned.0 (subst (λ (r : RoundReply). IsRoundCall o seats asked seen [] r after) turned.1 call)
    where
      of_call : (turn : Turn) → IsRoundCall o seats asked seen [] (round.Turned turn) after → HasTurned after
      of_call turn call = record { front = call.log; note = next_note asked call.log (what.Turned turn.dones turn.begins) (batch_at o (history_of o call.log) []); later = []; is = call.noted; dones = turn.dones; begins = turn.begins; says = refl }

  -- after the call of a stop one stands
  pub halted_after : (seats : List ℕ) (asked : ℕ) (seen after : List Written) (why : Cause) (halt : Halt) → IsStopCall o seats asked seen why halt after → IsHalted after
  halted_after seats asked seen after why halt call = (halt, stop-first asked call.log why halt after (has_asked asked call.log) refl call.noted call.told)

  -- and after a stop
  quiet_stop : (seen after : List Written) (why : Cause) (halt : Halt) → IsQuiet seat seen → IsStopCall o (seat ∷ []) seat seen why halt after → IsQuiet seat after
  quiet_stop seen after why halt quiet call = subst (λ (ws : List Written). IsQuiet seat ws) (sym call.noted) (either (has_asked seat call.log))
    where
      past : IsQuiet seat call.past.past
      past k d inside is = absurd (call.past.none k d inside 0 seat (omega arith) (sym is))

      so_far : IsQuiet seat call.log
      so_far = subst (λ (ws : List Written). IsQuiet seat ws) (sym call.past.is) (All-append (λ w. seat_of w ≡ seat → EndNothing w.entries) seen call.past.past quiet past)

      either : (asked : Bool) → IsQuiet seat (if asked then call.log else call.log ++ next_note seat call.log (what.Stop why) [] ∷ [])
      either true = so_far
      either false = All-push (λ w. seat_of w ≡ seat → EndNothing w.entries) call.log (next_note seat call.log (what.Stop why) []) so_far (λ is op among. absurd (omega (arith, among.1)))

  pub quiet_after : (seats : List ℕ) (asked : ℕ) (seen after : List Written) (why : Cause) (halt : Halt) → seats ≡ seat ∷ [] → asked ≡ seat → IsQuiet seat seen → IsStopCall o seats asked seen why halt after → IsQuiet seat after
  quiet_after seats asked seen after why halt same is quiet call =
      quiet_stop seen after why halt quiet (subst (λ (ns : List ℕ). IsStopCall o ns seat seen why halt after) same (subst (λ (n : ℕ). IsStopCall o seats n seen why halt after) is call))

module _ {P : Type 0} (tell : P → PortTrace) (o : Opening) (migration : ℕ) (homes : List (Option ℕ)) (rounds : ℕ) where
  -- served by seat 0, as it is told of the pass
  pub served : (seats : List ℕ) (seat : ℕ) (before now : Standing P) (end : Wake) → seats ≡ 0 ∷ [] → seat ≡ 0 → Served tell o seats seat migration homes rounds before end now → Served tell o (0 ∷ []) 0 migration homes rounds before end now
  served seats seat before now end same is did =
      subst (λ (ns : List ℕ). Served tell o ns 0 migration homes rounds before end now) same
      (subst (λ (n : ℕ). Served tell o seats n migration homes rounds before end now) is did)

  -- the shift of seat 0, of which all that it has seen is the history
  pub own_shift : (before now : Standing P) (end : Option Wake) → IsQuiet 0 before.seen → AreFresh before.ports → Returns tell o 0 migration homes rounds before end now
      → IsShift tell o migration homes rounds now.seen (record { given = record { seat = 0; before = before }; end = end; now = now })
  own_shift before now end quiet fresh returns = record { quiet = quiet; fresh = fresh; returns = returns; follows = record { past = []; is = sym (append-nil now.seen); none = All-nil _ } }

  abbrev pub unbegun : List Written → Standing P
  unbegun seen = record { seen = seen; ports = [] }

  -- where it never began it has no ports
  pub idle_shift : (seen : List Written) → IsQuiet 0 seen → StopsEarly 0 seen → IsHalted seen → IsShift tell o migration homes rounds seen (record { given = record { seat = 0; before = unbegun seen }; end = None; now = unbegun seen })
  idle_shift seen quiet early halted = own_shift (unbegun seen) (unbegun seen) None quiet (λ k d inside. absurd (omega (arith, inside))) (refl, early, inl halted)

  -- and nobody has served any
  pub unserved : (whole : List (SessionView P)) (given : ℕ) (seen : List Written) → given ≡ 1 → IsQuiet 0 seen → StopsEarly 0 seen → IsHalted seen → HasWorked tell o migration homes rounds whole given seen whole
  unserved whole given seen one quiet early halted =
      let s : Shift P = record { given = record { seat = 0; before = unbegun seen }; end = None; now = unbegun seen } in
      record {
        shifts = s ∷ [];
        whole_shifts = All-push (IsShift tell o migration homes rounds seen) [] s (All-nil (IsShift tell o migration homes rounds seen)) (idle_shift seen quiet early halted);
        some_seat = omega (arith, one);
        seated = λ seat below. inl (omega (arith, below, one));
        spare = whole;
        same = IsPermutation-refl whole;
        back = IsPermutation-refl whole;
        spared = inr halted;
      }
