-- What comes back of a worker, said of what it began with.
use Rattle.std.proofs.Common.{◌≡◌, ℕ, ◌<◌, List, [], ◌∷◌, ◌++◌, IsPermutation, Option, Some, None, append-nil, append_assoc, inl, inr, refl, sym, ap, ap₂, ◌∙◌, subst, arith}
use Rattle.turn_lock.specs.declared.counted.Counted.{Ghosts}
use Rattle.turn_lock.specs.declared.pass.Pass.{Pass}
use Rattle.turn_lock.specs.Histories.{Follows}
use Rattle.turn_lock.specs.Passes.{IsSamePass, joined_of, seat_of_pass, seats_of, seen_of}
use Rattle.port_session.specs.Sessions.{SessionView}
use Rattle.wan_edge.specs.Ports.{PortTrace}
use Rattle.shared_book.specs.declared.note.Cause.TheVariants as cause
use Rattle.shared_book.specs.declared.note.Written.{Written}
use Rattle.shared_book.specs.declared.call_reply.Halt.{Halt}
use Rattle.shared_book.specs.declared.call_reply.Wake.{Wake}
use Rattle.shared_book.specs.Histories.{Opening}
use Rattle.shared_book.specs.Notes.{calls_by}
use Rattle.shared_book.specs.Calls.{IsStopCall, seat_of}
use Rattle.controller_run.specs.Promises.{StopsNothing}
use Rattle.controller_run.specs.Serving.{Served}
use Rattle.controller_run.specs.Working.{Standing}
use Rattle.controller_run.proofs.Quiet.{quiet-first, quiet-uncalled}
use Rattle.controller_run.specs.Shifts.{AreFresh, HasTurned, IsQuiet, IsShift, Shift, StopsEarly}
use Rattle.controller_run.specs.Workers.{Answers, HasReturned, Relieves}
use Rattle.controller_run.proofs.LeadsAlone.{halted_after, quiet_after}
use Rattle.controller_run.proofs.Early.{memory_stop}
use Rattle.controller_run.proofs.Histories.{no_note}
use Rattle.controller_run.proofs.Shuffles.{same}

abbrev pub standing : {P : Type 0} → List Written → List (SessionView P) → Standing P
standing seen ports = record { seen = seen; ports = ports }

-- a seat without calls has ended nothing
pub is_quiet : (seat : ℕ) (ws : List Written) → calls_by seat ws ≡ 0 → IsQuiet seat ws
is_quiet seat ws none k d inside is = absurd (no_note seat ws none k d inside is)

-- and is not the one that stopped all
pub stops_late : (seat : ℕ) (ws : List Written) → StopsNothing seat ws → StopsEarly seat ws
stops_late seat ws nothing halt first mine = absurd (quiet-first seat ws halt nothing first mine)

-- a worker of this seat that was given these ports, and what it has come to
pub record IsComing {P : Type 0} (tell : P → PortTrace) (o : Opening) (migration : ℕ) (homes : List (Option ℕ)) (rounds : ℕ) (later : List Written) (seat : ℕ) (ports back : List (SessionView P)) : Type 0 where
  pub shift : Shift P
  pub seat_is : shift.given.seat ≡ seat
  pub whole : IsShift tell o migration homes rounds later shift
  pub began : shift.given.before.ports ≡ ports
  pub left : shift.now.ports ≡ back

module _ {V P : Type 0} {C : Ghosts V Written} (tell : P → PortTrace) (o : Opening) (migration : ℕ) (homes : List (Option ℕ)) (rounds : ℕ) (given theirs : Pass V Written C) (ports back : List (SessionView P)) (calls : ℕ) (later : List Written)
    (alone : joined_of given ≡ []) (none : calls_by (seat_of_pass given) (seen_of given) ≡ 0) (some : 0 < seat_of_pass given) (turned : HasTurned (seen_of given)) (fresh : AreFresh ports) where
  abbrev seat : ℕ
  seat = seat_of_pass given

  nothing : StopsNothing seat (seen_of given)
  nothing = quiet-uncalled seat (seen_of given) none

  own_seats : IsSamePass given theirs → seats_of theirs ≡ seat ∷ []
  own_seats passed = ap₂ (λ (n : ℕ) (ns : List ℕ). n ∷ ns) passed.seat (passed.joined ∙ alone)

  own_follows : IsSamePass given theirs → Follows seat_of (seats_of theirs) (seen_of theirs) later → Follows seat_of (seat ∷ []) (seen_of theirs) later
  own_follows passed follows = subst (λ (ns : List ℕ). Follows seat_of ns (seen_of theirs) later) (own_seats passed) follows

  -- it has served
  served_shift : (end : Wake) → IsSamePass given theirs → Follows seat_of (seats_of theirs) (seen_of theirs) later
      → Served tell o (seats_of given) seat migration homes rounds (standing (seen_of given) ports) end (standing (seen_of theirs) back) → IsComing tell o migration homes rounds later seat ports back
  served_shift end passed follows served = record {
    shift = record { given = record { seat = seat; before = standing (seen_of given) ports }; end = Some end; now = standing (seen_of theirs) back };
    seat_is = refl;
    whole = record {
      quiet = is_quiet seat (seen_of given) none;
      fresh = fresh;
      returns = (nothing, subst (λ (ns : List ℕ). Served tell o ns seat migration homes rounds (standing (seen_of given) ports) end (standing (seen_of theirs) back)) (ap (λ (ns : List ℕ). seat ∷ ns) alone) served, turned);
      follows = own_follows passed follows;
    };
    began = refl;
    left = refl;
  }

  -- it never began, and left its ports to the caller
  left_shift : IsSamePass given theirs → Follows seat_of (seats_of theirs) (seen_of theirs) later → standing (seen_of theirs) back ≡ standing (seen_of given) ports → IsComing tell o migration homes rounds later seat [] []
  left_shift passed follows is =
      let seen : seen_of theirs ≡ seen_of given = ap (λ (s : Standing P). s.seen) is in
      record {
        shift = record { given = record { seat = seat; before = standing (seen_of given) [] }; end = None; now = standing (seen_of theirs) [] };
        seat_is = refl;
        whole = record {
          quiet = is_quiet seat (seen_of given) none;
          fresh = λ k d inside. absurd (omega (arith, inside));
          returns = (ap (λ (ws : List Written). standing ws []) seen, stops_late seat (seen_of theirs) (subst (λ (ws : List Written). StopsNothing seat ws) (sym seen) nothing), inr (some, refl));
          follows = own_follows passed follows;
        };
        began = refl;
        left = refl;
      }

  module _ (pass : Pass V Written C) (answered : IsSamePass theirs pass) (follows : Follows seat_of (seats_of pass) (seen_of pass) later) where
    passed_on : IsSamePass given theirs → seats_of pass ≡ seat ∷ []
    passed_on passed = ap₂ (λ (n : ℕ) (ns : List ℕ). n ∷ ns) (answered.seat ∙ passed.seat) (answered.joined ∙ passed.joined ∙ alone)

    -- it never began, and has asked that all stop
    stopped_shift : IsSamePass given theirs → standing (seen_of theirs) back ≡ standing (seen_of given) ports → (halt : Halt) → IsStopCall o (seats_of theirs) (seat_of_pass theirs) (seen_of theirs) cause.Memory halt (seen_of pass) → IsComing tell o migration homes rounds later seat ports back
    stopped_shift passed is halt call =
        let seen : seen_of theirs ≡ seen_of given = ap (λ (s : Standing P). s.seen) is in
        let quiet = subst (λ (ws : List Written). IsQuiet seat ws) (sym seen) (is_quiet seat (seen_of given) none) in
        let own : IsStopCall o (seat ∷ []) seat (seen_of theirs) cause.Memory halt (seen_of pass) =
        subst (λ (ns : List ℕ). IsStopCall o ns seat (seen_of theirs) cause.Memory halt (seen_of pass)) (own_seats passed) (subst (λ (n : ℕ). IsStopCall o (seats_of theirs) n (seen_of theirs) cause.Memory halt (seen_of pass)) passed.seat call) in
        record {
          shift = record { given = record { seat = seat; before = standing (seen_of pass) ports }; end = None; now = standing (seen_of pass) ports };
          seat_is = refl;
          whole = record {
            quiet = quiet_after o seat (seats_of theirs) (seat_of_pass theirs) (seen_of theirs) (seen_of pass) cause.Memory halt (own_seats passed) passed.seat quiet call;
            fresh = fresh;
            returns = (
              refl,
              memory_stop o seat (seen_of theirs) (seen_of pass) halt (subst (λ (ws : List Written). StopsNothing seat ws) (sym seen) nothing) own,
              inl (halted_after o seat (seats_of theirs) (seat_of_pass theirs) (seen_of theirs) (seen_of pass) cause.Memory halt call),
            );
            follows = subst (λ (ns : List ℕ). Follows seat_of ns (seen_of pass) later) (passed_on passed) follows;
          };
          began = refl;
          left = sym (ap (λ (s : Standing P). s.ports) is);
        }

    -- its thread has ended
    pub came : (end : Option Wake) → HasReturned tell o migration homes rounds given ports theirs calls end back → Answers o end theirs pass → IsComing tell o migration homes rounds later seat ports back
    came None returned answers = stopped_shift returned.same returned.served answers.0 answers.1
    came (Some end) returned answers = served_shift end returned.same (subst (λ (p : Pass V Written C). Follows seat_of (seats_of p) (seen_of p) later) answers follows) returned.served

  module _ (follows : Follows seat_of (seats_of theirs) (seen_of theirs) later) where
    -- what is left of a worker whose thread was refused, where its ports are the caller's now
    pub record IsHanded (own spare own' spare' now : List (SessionView P)) : Type 0 where
      pub ports_kept : List (SessionView P)
      pub coming : IsComing tell o migration homes rounds later seat ports_kept now
      pub moved : IsPermutation (own ++ (spare ++ ports)) ((own' ++ spare') ++ ports_kept)

    pub handed : (own spare own' spare' now : List (SessionView P)) (end : Option Wake) → HasReturned tell o migration homes rounds given ports theirs calls end back → Relieves end back now own spare own' spare' → IsHanded own spare own' spare' now
    handed own spare own' spare' now None returned relieves = record {
      ports_kept = [];
      coming = subst (λ (l : List (SessionView P)). IsComing tell o migration homes rounds later seat [] l) (sym relieves.0) (left_shift returned.same follows returned.served);
      moved = subst (λ (l : List (SessionView P)). IsPermutation (own ++ (spare ++ ports)) l) (sym (append-nil (own' ++ spare')))
          (subst (λ (l : List (SessionView P)). IsPermutation (own ++ (spare ++ l)) (own' ++ spare')) (ap (λ (s : Standing P). s.ports) returned.served) relieves.1);
    }
    handed own spare own' spare' now (Some end) returned relieves = record {
      ports_kept = ports;
      coming = subst (λ (l : List (SessionView P)). IsComing tell o migration homes rounds later seat ports l) (sym relieves.0) (served_shift end returned.same follows returned.served);
      moved = same _ _ (sym (append_assoc own spare ports) ∙ ap₂ (λ (a b : List (SessionView P)). (a ++ b) ++ ports) (sym relieves.1) (sym relieves.2));
    }
