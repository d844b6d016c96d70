use Rattle.std.proofs.Common.{ℕ, List, [], ◌∷◌, ◌++◌, ◌∙◌, inr, ap₂, subst}
use Rattle.std.specs.Prelude.{All, IsTrue}
use Rattle.turn_lock.specs.Passes.{seat_of_pass, seats_of, seen_of}
use Rattle.shared_book.specs.Calls.{IsStopCall}
use Rattle.controller_run.specs.Serving.{Moment}
use Rattle.controller_run.specs.declared.round_end.RoundEnd.TheVariants as outcome
use Rattle.controller_run.proofs.Serves.{ends, of_seat, of_whole, one_more}
use Rattle.controller_run.proofs.Works.{of-offered}
use Rattle.controller_run.proofs.serving.serve.Goals as goal

pub left_behind-left-requires : goal.left_behind-left-requires
left_behind-left-requires g c = record { some = of-offered c.work-next.result.1 c.in-Whole.offered _ c.in-Whole.is c.work-next.ensures.some_left }

pub loop-preserved : goal.loop-preserved
loop-preserved g c =
    let same = c.loop.invariant.same in
    let next = c.work-next.ensures.pass in
    let at : Moment g.row.T.Denot = (record { stands = record { seen = seen_of c.loop.pass.pass; ports = c.loop.ports }; left = c.loop.left }) in
    let now : Moment g.row.T.Denot = record { stands = record { seen = seen_of c.work-next.result.0.pass; ports = c.work-next.new.ports }; left = c.left_behind-left.result } in
    record {
      lock = c.work-next.ensures.lock;
      same = record {
        seat = next.seat ∙ same.seat;
        joined = next.joined ∙ same.joined;
        given = next.given ∙ same.given;
        out = next.out ∙ same.out;
      };
      calls = c.work-next.ensures.calls;
      live = of_whole c.work-next.result.1 c.in-Whole.offered _ c.in-Whole.is c.work-next.ensures.live;
      moments = c.loop.invariant.moments ++ now ∷ [];
      whole = one_more g.T.Port.told g.M.Marker.opening c.args.terms.migration c.args.terms.homes.now c.args.terms.rounds (seats_of c.args.pass.pass) (seat_of_pass c.args.pass.pass) (record { stands = record { seen = seen_of c.args.pass.pass; ports = c.args.ports }; left = c.args.terms.rounds }) c.loop.invariant.moments at now c.loop.invariant.whole (record {
        offered = c.in-Whole.offered;
        worked = of_seat g.T.Port.told g.M.Marker.opening c.args.terms.migration c.args.terms.homes.now c.args.terms.rounds (seats_of c.args.pass.pass) (seats_of c.loop.pass.pass) (seat_of_pass c.args.pass.pass) (seat_of_pass c.loop.pass.pass) (record { stands = record { seen = seen_of c.loop.pass.pass; ports = c.loop.ports }; left = c.loop.left }) c.work-next.result.1 (outcome.Whole c.in-Whole.offered) now.stands
            (ap₂ (λ (s : ℕ) (js : List ℕ). s ∷ js) same.seat same.joined) same.seat c.in-Whole.is c.work-next.ensures.worked;
        less = c.left_behind-left.ensures;
      });
    }

pub returns-in-Ended-clause-served : goal.returns-in-Ended-clause-served
returns-in-Ended-clause-served g c =
    let same = c.loop.invariant.same in
    record {
      moments = c.loop.invariant.moments;
      at = (record { stands = record { seen = seen_of c.loop.pass.pass; ports = c.loop.ports }; left = c.loop.left });
      whole = c.loop.invariant.whole;
      last = ends g.T.Port.told g.M.Marker.opening c.args.terms.migration c.args.terms.homes.now c.args.terms.rounds (seats_of c.args.pass.pass) (seat_of_pass c.args.pass.pass) c.in-Ended.end (record { stands = record { seen = seen_of c.loop.pass.pass; ports = c.loop.ports }; left = c.loop.left }) (record { seen = seen_of c.work-next.result.0.pass; ports = c.work-next.new.ports })
          (of_seat g.T.Port.told g.M.Marker.opening c.args.terms.migration c.args.terms.homes.now c.args.terms.rounds (seats_of c.args.pass.pass) (seats_of c.loop.pass.pass) (seat_of_pass c.args.pass.pass) (seat_of_pass c.loop.pass.pass) (record { stands = record { seen = seen_of c.loop.pass.pass; ports = c.loop.ports }; left = c.loop.left }) c.work-next.result.1 (outcome.Ended c.in-Ended.end) (record { seen = seen_of c.work-next.result.0.pass; ports = c.work-next.new.ports })
          (ap₂ (λ (s : ℕ) (js : List ℕ). s ∷ js) same.seat same.joined) same.seat c.in-Ended.is c.work-next.ensures.worked);
    }

pub returns-in-Stops-clause-served : goal.returns-in-Stops-clause-served
returns-in-Stops-clause-served g c =
    let same = c.loop.invariant.same in
    let next = c.work-next.ensures.pass in
    record {
      moments = c.loop.invariant.moments;
      at = (record { stands = record { seen = seen_of c.loop.pass.pass; ports = c.loop.ports }; left = c.loop.left });
      whole = c.loop.invariant.whole;
      last = inr (record {
        cause = c.in-Stops.cause;
        log = seen_of c.work-next.result.0.pass;
        worked = of_seat g.T.Port.told g.M.Marker.opening c.args.terms.migration c.args.terms.homes.now c.args.terms.rounds (seats_of c.args.pass.pass) (seats_of c.loop.pass.pass) (seat_of_pass c.args.pass.pass) (seat_of_pass c.loop.pass.pass) (record { stands = record { seen = seen_of c.loop.pass.pass; ports = c.loop.ports }; left = c.loop.left }) c.work-next.result.1 (outcome.Stops c.in-Stops.cause) (record { seen = seen_of c.work-next.result.0.pass; ports = c.work-next.new.ports })
            (ap₂ (λ (s : ℕ) (js : List ℕ). s ∷ js) same.seat same.joined) same.seat c.in-Stops.is c.work-next.ensures.worked;
        asked = subst (λ (s : List ℕ). IsStopCall g.M.Marker.opening s (seat_of_pass c.args.pass.pass) (seen_of c.work-next.result.0.pass) c.in-Stops.cause c.stop-pass.result.1 (seen_of c.stop-pass.result.0.pass))
            (ap₂ (λ (s : ℕ) (js : List ℕ). s ∷ js) (next.seat ∙ same.seat) (next.joined ∙ same.joined))
            (subst (λ (n : ℕ). IsStopCall g.M.Marker.opening (seats_of c.work-next.result.0.pass) n (seen_of c.work-next.result.0.pass) c.in-Stops.cause c.stop-pass.result.1 (seen_of c.stop-pass.result.0.pass))
            (next.seat ∙ same.seat) c.stop-pass.ensures.call);
      });
    }
