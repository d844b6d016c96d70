use Rattle.std.proofs.Common.{ℕ, List, Option, ◌∷◌, ◌∙◌, length, sym, ap, ap₂, subst, arith}
use Rattle.turn_lock.specs.Passes.{given_of, seat_of_pass, seats_of, seen_of}
use Rattle.rollout_book.specs.Aliens.{told_by}
use Rattle.port_session.specs.Standing.{HeardAnswers}
use Rattle.shared_book.specs.Calls.{IsRoundCall}
use Rattle.shared_book.specs.Homes.{homes_of}
use Rattle.shared_book.specs.Lasting.{CountsAsHeard}
use Rattle.controller_run.specs.Workers.{Gathers, workers_ports}
use Rattle.controller_run.proofs.LeadsAlone.{halted_after, quiet_after, quiet_first, stopped_nothing, turned_first, unserved}
use Rattle.controller_run.proofs.Early.{early_stop}
use Rattle.controller_run.proofs.Gathering.{all_in}
use Rattle.controller_run.proofs.leading.work.Goals as goal

-- no answer was heard, so none of another migration
pub round-pass-requires-clause-told : goal.round-pass-requires-clause-told
round-pass-requires-clause-told g c = subst (λ (m : ℕ). CountsAsHeard g.T.Port.told m g.M.Marker.heard) (sym (ap (λ (h : HeardAnswers). h.migration) c.new-nothing.ensures)) c.requires.told

pub returns-in-Some-clause-worked : goal.returns-in-Some-clause-worked
returns-in-Some-clause-worked g c =
    let o = g.M.Marker.opening in
    let first = c.requires.first in
    let passed = c.round-pass.ensures.pass in
    let turned = c.round-pass.result.0.pass in
    let stopped = c.stop.result.0.pass in
    let call = subst (λ (h : HeardAnswers). IsRoundCall o (seats_of c.args.pass.pass) (seat_of_pass c.args.pass.pass) (seen_of c.args.pass.pass) (told_by h.answers) c.round-pass.result.1 (seen_of turned)) c.new-nothing.ensures c.round-pass.ensures.call in
    let own = ap₂ (λ (n : ℕ) (ns : List ℕ). n ∷ ns) first.seat first.joined in
    let own' = ap₂ (λ (n : ℕ) (ns : List ℕ). n ∷ ns) (passed.seat ∙ first.seat) (passed.joined ∙ first.joined) in
    let quiet = quiet_first o 0 (seats_of c.args.pass.pass) (seat_of_pass c.args.pass.pass) (seen_of c.args.pass.pass) (seen_of turned) c.round-pass.result.1 own first.seat first.seen call in
    let after = quiet_after o 0 (seats_of turned) (seat_of_pass turned) (seen_of turned) (seen_of stopped) c.in-Some.cause c.stop.result.1 own' (passed.seat ∙ first.seat) quiet c.stop.ensures.call in
    let early = early_stop o 0 (seats_of c.args.pass.pass) (seats_of turned) (seat_of_pass c.args.pass.pass) (seat_of_pass turned) (seen_of c.args.pass.pass) (seen_of turned) (seen_of stopped) c.round-pass.result.1 c.in-Some.cause c.stop.result.1 own first.seat own' (passed.seat ∙ first.seat) first.seen (sym c.cause_of.ensures ∙ c.in-Some.is) call c.stop.ensures.call in
    unserved g.T.Port.told o c.args.limits.migration (homes_of o.rollout.problem) c.args.limits.rounds
    (workers_ports c.args.team.own.ports c.args.team.own.spare.items c.args.team.crews.items) (given_of stopped) (seen_of stopped) (c.stop.ensures.pass.given ∙ passed.given ∙ first.given) after early
    (halted_after o 0 (seats_of turned) (seat_of_pass turned) (seen_of turned) (seen_of stopped) c.in-Some.cause c.stop.result.1 c.stop.ensures.call)

pub work_in_scope-requires-clause-leader : goal.work_in_scope-requires-clause-leader
work_in_scope-requires-clause-leader g c κs within =
    let o = g.M.Marker.opening in
    let first = c.requires.first in
    let passed = c.round-pass.ensures.pass in
    let turned = c.round-pass.result.0.pass in
    let call = subst (λ (h : HeardAnswers). IsRoundCall o (seats_of c.args.pass.pass) (seat_of_pass c.args.pass.pass) (seen_of c.args.pass.pass) (told_by h.answers) c.round-pass.result.1 (seen_of turned)) c.new-nothing.ensures c.round-pass.ensures.call in
    let own = ap₂ (λ (n : ℕ) (ns : List ℕ). n ∷ ns) first.seat first.joined in
    record {
      of_lock = c.round-pass.ensures.lock;
      counted = c.round-pass.ensures.calls;
      first = passed.seat ∙ first.seat;
      alone = passed.joined ∙ first.joined;
      some_seat = omega (arith, passed.given, first.given);
      room = omega (arith, passed.given, first.given, c.requires.seats.0);
      few = c.requires.seats.1;
      quiet = quiet_first o 0 (seats_of c.args.pass.pass) (seat_of_pass c.args.pass.pass) (seen_of c.args.pass.pass) (seen_of turned) c.round-pass.result.1 own first.seat first.seen call;
      stops_nothing = stopped_nothing o 0 (seats_of c.args.pass.pass) (seat_of_pass c.args.pass.pass) (seen_of c.args.pass.pass) (seen_of turned) c.round-pass.result.1 own first.seat first.seen (λ why is. c.in_default.not-Some why (c.cause_of.ensures ∙ is)) call;
      turned = turned_first o 0 (seats_of c.args.pass.pass) (seat_of_pass c.args.pass.pass) (seen_of c.args.pass.pass) (seen_of turned) c.round-pass.result.1 (λ why is. c.in_default.not-Some why (c.cause_of.ensures ∙ is)) call;
    }

-- the homes are the book's, and so the opening's
pub work_in_scope-requires-clause-home : goal.work_in_scope-requires-clause-home
work_in_scope-requires-clause-home g c κs within = c.homes.ensures ∙ c.requires.homes

pub returns-clause-lock : goal.returns-clause-lock
returns-clause-lock g c = c.work_in_scope.ensures.led.of_lock

pub returns-clause-first : goal.returns-clause-first
returns-clause-first g c = c.work_in_scope.ensures.led.first

pub returns-clause-all_in : goal.returns-clause-all_in
returns-clause-all_in g c = c.work_in_scope.ensures.led.out ∙ c.round-pass.ensures.pass.out ∙ c.requires.first.out

pub returns-clause-worked : goal.returns-clause-worked
returns-clause-worked g c =
    let o = g.M.Marker.opening in
    let tell = g.T.Port.told in
    let turned = c.round-pass.result.0.pass in
    let last = c.work_in_scope.result.0.pass in
    let team = c.args.team in
    let now = c.work_in_scope.result.1 in
    let whole = workers_ports team.own.ports team.own.spare.items team.crews.items in
    let left = workers_ports now.own.ports now.own.spare.items now.crews.items in
    let led = c.work_in_scope.ensures.led in
    all_in tell o c.args.limits.migration (homes_of o.rollout.problem) c.args.limits.rounds (given_of turned) (length team.crews.items) (given_of last) whole (seats_of last) (seen_of last) left
    (c.round-pass.ensures.pass.given ∙ c.requires.first.given) led.given
    (subst (λ (hs : List (Option ℕ)). Gathers tell o c.args.limits.migration hs c.args.limits.rounds (given_of turned) (length team.crews.items) whole (seats_of last) (seen_of last) left) (c.homes.ensures ∙ c.requires.homes) led.gathers)
