-- The pass of seat 0, from the first split to the last join.
use Rattle.std.proofs.Common.{◌≡◌, ◌⊎◌, ℕ, ◌+◌, ◌<◌, List, [], ◌∷◌, ◌++◌, IsPermutation, Option, Some, None, length, length-append, inl, inr, refl, sym, ap, ap₂, ◌∙◌, subst, arith}
use Rattle.std.proofs.lemmas.List.Sorted.{IsPermutation-refl}
use Rattle.turn_lock.specs.declared.counted.Counted.{Ghosts}
use Rattle.turn_lock.specs.declared.lock.TurnLock.{TurnLock}
use Rattle.turn_lock.specs.declared.pass.Pass.{Pass}
use Rattle.turn_lock.specs.Histories.{Follows}
use Rattle.turn_lock.specs.Passes.{HasGiven, HasJoined, IsNewPass, IsPassOf, IsSamePass, given_of, seat_of_pass, seats_of, seen_of}
use Rattle.port_session.specs.Sessions.{SessionView}
use Rattle.wan_edge.specs.Ports.{PortTrace}
use Rattle.switch_ports.specs.declared.ports.Berth.{Berth}
use Rattle.switch_ports.specs.Hands.{first_sessions}
use Rattle.shared_book.specs.declared.note.Cause.TheVariants as cause
use Rattle.shared_book.specs.declared.note.Written.{Written}
use Rattle.shared_book.specs.declared.call_reply.Halt.{Halt}
use Rattle.shared_book.specs.declared.call_reply.Wake.{Wake}
use Rattle.shared_book.specs.Histories.{Opening}
use Rattle.shared_book.specs.Notes.{calls_by}
use Rattle.shared_book.specs.Calls.{IsCounted, IsStopCall, seat_of}
use Rattle.controller_run.specs.Serving.{Served}
use Rattle.controller_run.specs.Shifts.{AreFresh, HasTurned, IsHalted, IsShift, Shift}
use Rattle.controller_run.specs.Workers.{Answers, Gathers, HasLed, HasReturned, IsLeader, Relieves, all_ports, workers_ports}
use Rattle.controller_run.proofs.LeadsAlone.{halted_after, idle_shift, own_shift, quiet_after, served, unbegun}
use Rattle.controller_run.proofs.Coming.{IsComing, came, handed, standing}
use Rattle.controller_run.proofs.Crews.{last_ports, more_ports}
use Rattle.controller_run.proofs.Early.{memory_stop}
use Rattle.controller_run.proofs.Gathering.{caller_alone, one_more}
use Rattle.controller_run.proofs.Shuffles.{handed_in, same}

module _ {V P : Type 0} {C : Ghosts V Written} (tell : P → PortTrace) (o : Opening) (migration : ℕ) (homes : List (Option ℕ)) (rounds : ℕ) (lock : TurnLock V Written) where
  -- nobody else is sent out
  module _ (seats crews : ℕ) (given pass : Pass V Written C) (calls calls' : ℕ) (leads : IsLeader lock seats crews given calls) (of_lock : IsPassOf lock pass) (passed : IsSamePass given pass) (counted : IsCounted calls' pass) where
    before : seats_of given ≡ 0 ∷ []
    before = ap₂ (λ (n : ℕ) (ns : List ℕ). n ∷ ns) leads.first leads.alone

    after : seats_of pass ≡ 0 ∷ []
    after = ap₂ (λ (n : ℕ) (ns : List ℕ). n ∷ ns) (passed.seat ∙ leads.first) (passed.joined ∙ leads.alone)

    led_by : (whole now spare : List (SessionView P)) (s : Shift P) → s.given.seat ≡ 0 → IsShift tell o migration homes rounds (seen_of pass) s → IsPermutation whole (s.given.before.ports ++ spare) → IsPermutation (s.now.ports ++ spare) now → (spare ≡ []) ⊎ IsHalted (seen_of pass)
        → HasLed tell o migration homes rounds lock 0 given whole pass calls' now
    led_by whole now spare s is shift first last spared = record {
      of_lock = of_lock;
      counted = counted;
      first = passed.seat ∙ leads.first;
      given = omega (arith, passed.given);
      out = passed.out;
      gathers = subst (λ (ns : List ℕ). Gathers tell o migration homes rounds (given_of given) 0 whole ns (seen_of pass) now) (sym after) (caller_alone tell o migration homes rounds (given_of given) s whole now spare (seen_of pass) is shift first last spared);
    }

    -- the caller stops all for lack of memory
    pub stopped_alone : (whole : List (SessionView P)) (halt : Halt) → IsStopCall o (seats_of given) (seat_of_pass given) (seen_of given) cause.Memory halt (seen_of pass) → HasLed tell o migration homes rounds lock 0 given whole pass calls' whole
    stopped_alone whole halt call =
        let halted = halted_after o 0 (seats_of given) (seat_of_pass given) (seen_of given) (seen_of pass) cause.Memory halt call in
        let own : IsStopCall o (0 ∷ []) 0 (seen_of given) cause.Memory halt (seen_of pass) =
        subst (λ (ns : List ℕ). IsStopCall o ns 0 (seen_of given) cause.Memory halt (seen_of pass)) before (subst (λ (n : ℕ). IsStopCall o (seats_of given) n (seen_of given) cause.Memory halt (seen_of pass)) leads.first call) in
        led_by whole whole whole (record { given = record { seat = 0; before = unbegun tell o migration homes rounds (seen_of pass) }; end = None; now = unbegun tell o migration homes rounds (seen_of pass) }) refl
        (idle_shift tell o migration homes rounds (seen_of pass) (quiet_after o 0 (seats_of given) (seat_of_pass given) (seen_of given) (seen_of pass) cause.Memory halt before leads.first leads.quiet call) (memory_stop o 0 (seen_of given) (seen_of pass) halt leads.stops_nothing own) halted)
        (IsPermutation-refl whole) (IsPermutation-refl whole) (inr halted)

    -- the caller serves its ports
    pub served_alone : (ports now spare : List (SessionView P)) (end : Wake) → AreFresh ports → spare ≡ []
        → Served tell o (seats_of given) (seat_of_pass given) migration homes rounds (standing (seen_of given) ports) end (standing (seen_of pass) now) → HasLed tell o migration homes rounds lock 0 given (ports ++ spare) pass calls' (now ++ spare)
    served_alone ports now spare end fresh none did =
        led_by (ports ++ spare) (now ++ spare) spare (record { given = record { seat = 0; before = standing (seen_of given) ports }; end = Some end; now = standing (seen_of pass) now }) refl
        (own_shift tell o migration homes rounds (standing (seen_of given) ports) (standing (seen_of pass) now) (Some end) leads.quiet fresh
        (leads.stops_nothing, served tell o migration homes rounds (seats_of given) (seat_of_pass given) (standing (seen_of given) ports) (standing (seen_of pass) now) end before leads.first did, leads.turned))
        (IsPermutation-refl (ports ++ spare)) (IsPermutation-refl (now ++ spare)) (inl none)

  -- one worker is sent out, the others with the caller work, and then it is taken in
  pub led_on : (crews rest : ℕ) (p split one theirs q : Pass V Written C) (calls inner : ℕ) (whole0 whole now0 now : List (SessionView P)) (s : Shift P)
      → crews ≡ rest + 1 → HasGiven p split → HasLed tell o migration homes rounds lock rest split whole0 one inner now0
      → HasJoined one theirs q → IsPassOf lock q → IsCounted calls q → Follows seat_of (seats_of one) (seen_of one) (seen_of q)
      → IsShift tell o migration homes rounds (seen_of q) s → seat_of_pass theirs ≡ s.given.seat → s.given.seat ≡ given_of p
      → IsPermutation whole (whole0 ++ s.given.before.ports) → now ≡ now0 ++ s.now.ports
      → HasLed tell o migration homes rounds lock crews p whole q calls now
  led_on crews rest p split one theirs q calls inner whole0 whole now0 now s many given led joined of_lock counted past shift mine first same back = record {
    of_lock = of_lock;
    counted = counted;
    first = joined.seat ∙ led.first;
    given = omega (arith, joined.given, led.given, given.given, many);
    out = omega (arith, joined.out, led.out, given.out);
    gathers =
        subst (λ (n : ℕ). Gathers tell o migration homes rounds (given_of p) n whole (seats_of q) (seen_of q) now) (sym many)
        (subst (λ (ns : List ℕ). Gathers tell o migration homes rounds (given_of p) (rest + 1) whole ns (seen_of q) now) (sym (ap₂ (λ (n : ℕ) (ns : List ℕ). n ∷ ns) joined.seat joined.joined))
        (one_more tell o migration homes rounds (given_of p) rest (seats_of one) (seats_of theirs) (seen_of one) (seen_of q) whole0 whole now0 now s past shift (0, omega arith, mine) first same back
        (subst (λ (n : ℕ). Gathers tell o migration homes rounds n rest whole0 (seats_of one) (seen_of one) now0) given.given led.gathers)));
  }

  -- the same, said of the teams; all but the last worker with the caller have worked meanwhile
  module _ (own own1 own2 : List (SessionView P)) (spare spare1 spare2 : List (Berth P)) (crews rest crews1 crews2 : List (List (SessionView P))) (ports left : List (SessionView P))
      (p split given one pass q : Pass V Written C) (calls inner : ℕ)
      (last : crews ≡ rest ++ ports ∷ []) (gives : HasGiven p split) (new : IsNewPass p given)
      (joined : HasJoined one pass q) (of_lock : IsPassOf lock q) (calls_are : IsCounted calls q) (past : Follows seat_of (seats_of one) (seen_of one) (seen_of q))
      (same_own : own2 ≡ own1) (same_spare : spare2 ≡ spare1) (more : crews2 ≡ crews1 ++ left ∷ []) where
    long : length crews ≡ length rest + 1
    long = ap length last ∙ length-append rest (ports ∷ [])

    left_ports : workers_ports own2 spare2 crews2 ≡ workers_ports own1 spare1 crews1 ++ left
    left_ports = ap₂ (λ (a : List (SessionView P)) (b : List (Berth P)). workers_ports a b crews2) same_own same_spare ∙ more_ports own1 spare1 crews2 crews1 left more

    -- what it has come to is known
    come_on : (whole0 kept : List (SessionView P)) → IsComing tell o migration homes rounds (seen_of q) (seat_of_pass given) kept left → seat_of_pass pass ≡ seat_of_pass given → IsPermutation (workers_ports own spare crews) (whole0 ++ kept)
        → HasLed tell o migration homes rounds lock (length rest) split whole0 one inner (workers_ports own1 spare1 crews1)
        → HasLed tell o migration homes rounds lock (length crews) p (workers_ports own spare crews) q calls (workers_ports own2 spare2 crews2)
    come_on whole0 kept coming mine moved led =
        led_on (length crews) (length rest) p split one pass q calls inner whole0 (workers_ports own spare crews) (workers_ports own1 spare1 crews1) (workers_ports own2 spare2 crews2)
        coming.shift long gives led joined of_lock calls_are past coming.whole (mine ∙ sym coming.seat_is) (coming.seat_is ∙ new.seat)
        (subst (λ (l : List (SessionView P)). IsPermutation (workers_ports own spare crews) (whole0 ++ l)) (sym coming.began) moved)
        (left_ports ∙ ap (λ (l : List (SessionView P)). workers_ports own1 spare1 crews1 ++ l) (sym coming.left))

    module _ (first calls' : ℕ) (end : Option Wake) (fresh : AreFresh ports) (turned : HasTurned (seen_of p)) (some : 0 < given_of p) (counted : IsCounted first given) (none : first ≡ 0)
        (past' : Follows seat_of (seats_of pass) (seen_of pass) (seen_of q)) where
      no_call : calls_by (seat_of_pass given) (seen_of given) ≡ 0
      no_call = sym counted ∙ none

      some_seat : 0 < seat_of_pass given
      some_seat = omega (arith, new.seat, some)

      turned_too : HasTurned (seen_of given)
      turned_too = subst HasTurned (sym new.seen) turned

      -- its thread has ended
      pub thread_on : (theirs : Pass V Written C) → HasReturned tell o migration homes rounds given ports theirs calls' end left → IsSamePass theirs pass → Answers o end theirs pass
          → HasLed tell o migration homes rounds lock (length rest) split (workers_ports own spare rest) one inner (workers_ports own1 spare1 crews1)
          → HasLed tell o migration homes rounds lock (length crews) p (workers_ports own spare crews) q calls (workers_ports own2 spare2 crews2)
      thread_on theirs returned answered answers led =
          come_on (workers_ports own spare rest) ports
          (came tell o migration homes rounds given theirs ports left calls' (seen_of q) new.joined no_call some_seat turned_too fresh pass answered past' end returned answers)
          (answered.seat ∙ returned.same.seat) (same _ _ (more_ports own spare crews rest ports last)) led

      -- none was started, and the caller has relieved it
      pub relieved_on : (back : List (SessionView P)) → HasReturned tell o migration homes rounds given ports pass calls' end back → (own0 : List (SessionView P)) (spare0 : List (Berth P)) → Relieves end back left own (first_sessions spare) own0 (first_sessions spare0)
          → HasLed tell o migration homes rounds lock (length rest) split (workers_ports own0 spare0 rest) one inner (workers_ports own1 spare1 crews1)
          → HasLed tell o migration homes rounds lock (length crews) p (workers_ports own spare crews) q calls (workers_ports own2 spare2 crews2)
      relieved_on back returned own0 spare0 relieves led =
          let h = handed tell o migration homes rounds given pass ports back calls' (seen_of q) new.joined no_call some_seat turned_too fresh past' own (first_sessions spare) own0 (first_sessions spare0) left end returned relieves in
          come_on (workers_ports own0 spare0 rest) h.ports_kept h.coming returned.same.seat
          (subst (λ (l : List (SessionView P)). IsPermutation l ((own0 ++ (first_sessions spare0 ++ all_ports rest)) ++ h.ports_kept)) (sym (last_ports own spare crews rest ports last))
          (handed_in own (first_sessions spare) (all_ports rest) ports own0 (first_sessions spare0) h.ports_kept h.moved)) led

  -- nobody was sent out
  pub led_none : (own : List (SessionView P)) (spare : List (Berth P)) (crews rest : List (List (SessionView P))) (p q : Pass V Written C) (calls : ℕ) (now : List (SessionView P)) → crews ≡ [] → rest ≡ []
      → HasLed tell o migration homes rounds lock 0 p (workers_ports own spare rest) q calls now → HasLed tell o migration homes rounds lock (length crews) p (workers_ports own spare crews) q calls now
  led_none own spare crews rest p q calls now none none' led =
      subst (λ (l : List (List (SessionView P))). HasLed tell o migration homes rounds lock (length l) p (workers_ports own spare l) q calls now) (sym none)
      (subst (λ (l : List (List (SessionView P))). HasLed tell o migration homes rounds lock 0 p (workers_ports own spare l) q calls now) none' led)
