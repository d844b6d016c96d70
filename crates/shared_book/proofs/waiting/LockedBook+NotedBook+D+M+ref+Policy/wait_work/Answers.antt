use Rattle.std.proofs.Common.{ℕ, List, ◌∷◌, Some, ap₂, ◌∙◌}
use Rattle.turn_lock.specs.Passes.{seat_of_pass, seats_of, seen_of}
use Rattle.shared_book.proofs.Waits.{look-behind, look-past}
use Rattle.shared_book.proofs.waiting.LockedBook+NotedBook+D+M+ref+Policy.wait_work.Goals as goal

pub look-looked-requires-clause-lock : goal.look-looked-requires-clause-lock
look-looked-requires-clause-lock g c = c.loop.invariant.lock

pub look-looked-requires-clause-calls : goal.look-looked-requires-clause-calls
look-looked-requires-clause-calls g c = c.loop.invariant.calls

pub returns-in-Some-woken-clause-call : goal.returns-in-Some-woken-clause-call
returns-in-Some-woken-clause-call g c =
    let same = c.loop.invariant.same in
    look-behind g.M.Marker.opening (seats_of c.args.pass.pass) (seats_of c.loop.pass.pass) (seat_of_pass c.args.pass.pass) (seat_of_pass c.loop.pass.pass) (seen_of c.args.pass.pass) (seen_of c.loop.pass.pass) c.args.switches.now (seen_of c.look-looked.result.0.pass)
    c.loop.invariant.follows (ap₂ (λ (s : ℕ) (js : List ℕ). s ∷ js) same.seat same.joined) c.look-looked.result.1 (Some c.in-Some-woken.woken) c.in-Some-woken.is same.seat c.look-looked.ensures.call

pub loop-preserved : goal.loop-preserved
loop-preserved g c =
    let same = c.loop.invariant.same in
    let looked = c.look-looked.ensures.pass in
    record {
      lock = c.look-looked.ensures.lock;
      same = record {
        seat = looked.seat ∙ same.seat;
        joined = looked.joined ∙ same.joined;
        given = looked.given ∙ same.given;
        out = looked.out ∙ same.out;
      };
      calls = c.look-looked.ensures.calls;
      follows = look-past g.M.Marker.opening (seats_of c.args.pass.pass) (seats_of c.loop.pass.pass) (seat_of_pass c.args.pass.pass) (seat_of_pass c.loop.pass.pass) (seen_of c.args.pass.pass) (seen_of c.loop.pass.pass) c.args.switches.now
          (seen_of c.look-looked.result.0.pass) c.loop.invariant.follows (ap₂ (λ (s : ℕ) (js : List ℕ). s ∷ js) same.seat same.joined) c.look-looked.result.1 c.in_default.is c.look-looked.ensures.call;
    }
