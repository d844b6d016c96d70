use Rattle.std.proofs.Common.{ℕ, ◌+◌, ◌≤◌, List, Option, [], ◌∷◌, ◌++◌, ◌∙◌, length, map, length-append, sym, ap, subst, arith}
use Rattle.std.specs.Prelude.{nat_eq, vec_capacity, vec_len}
use Rattle.std.specs.List.{IsDistinct}
use Rattle.port_session.specs.Sessions.{SessionView}
use Rattle.switch_ports.specs.Hands.{first_sessions}
use Rattle.shared_book.specs.declared.call_reply.Wake.{Wake}
use Rattle.controller_run.specs.Shifts.{AreFresh}
use Rattle.controller_run.specs.Workers.{HasReturned, AreWorkers, Relieves}
use Rattle.controller_run.proofs.Crews.{fresh_last, leads_on, own_apart, own_room, team_behind, team_without}
use Rattle.controller_run.proofs.LeadingOn.{relieved_on, thread_on}
use Rattle.controller_run.proofs.Relieving.{as_given, moved}
use Rattle.controller_run.proofs.together.+work_together.Goals as goal

pub send-requires-clause-fresh : goal.send-requires-clause-fresh
send-requires-clause-fresh g t c κs within = fresh_last c.args.team.own.ports c.args.team.own.spare.items (vec_capacity c.args.team.own.spare) c.args.team.crews.items c.next_crew.new.crews.items c.in-Some.ports c.requires.team c.in-Some.ensures.next.0

pub work_together-pass-requires-clause-leader : goal.work_together-pass-requires-clause-leader
work_together-pass-requires-clause-leader g t c κs within =
    leads_on c.args.book.now.lock g.M.Marker.seats (length c.args.team.crews.items) (length c.next_crew.new.crews.items) c.args.pass.pass c.split-pass.result.0.pass c.args.pass.calls c.split-pass.result.0.calls c.requires.leader
    (ap length c.in-Some.ensures.next.0 ∙ length-append c.next_crew.new.crews.items (c.in-Some.ports ∷ [])) c.split-pass.ensures.first c.split-pass.ensures.lock.0 c.split-pass.ensures.calls.0

pub work_together-pass-requires-clause-team : goal.work_together-pass-requires-clause-team
work_together-pass-requires-clause-team g t c κs within =
    team_without c.args.team.own.ports c.args.team.own.spare.items (vec_capacity c.args.team.own.spare) c.args.team.crews.items c.next_crew.new.crews.items c.in-Some.ports c.requires.team c.in-Some.ensures.next.0

pub returns-in-Ok-clause-led : goal.returns-in-Ok-clause-led
returns-in-Ok-clause-led g t c =
    let tell = g.T.Port.told in
    let o = g.M.Marker.opening in
    let theirs = c.split-pass.result.1.pass in
    let inner = c.work_together-pass.result in
    let back = c.join.result in
    let last = c.take_in.result in
    let promised = c.in-Ok.thread.promise in
    let returned = subst (λ t. HasReturned tell o t.migration t.homes.now t.rounds theirs c.in-Some.ports back.pass.pass back.pass.calls back.end back.ports) c.in-Ok.ensures.ok.2
    (subst (λ (ps : List (SessionView g.row.T.Denot)). HasReturned tell o promised.terms.migration promised.terms.homes.now promised.terms.rounds theirs ps back.pass.pass back.pass.calls back.end back.ports) c.in-Ok.ensures.ok.1
    (subst (λ p. HasReturned tell o promised.terms.migration promised.terms.homes.now promised.terms.rounds p promised.given.value.ports back.pass.pass back.pass.calls back.end back.ports) c.in-Ok.ensures.ok.0 c.join.ensures)) in
    thread_on tell o c.args.terms.migration c.args.terms.homes.now c.args.terms.rounds c.args.book.now.lock
    c.args.team.own.ports inner.1.own.ports last.1.own.ports c.args.team.own.spare.items inner.1.own.spare.items last.1.own.spare.items c.args.team.crews.items c.next_crew.new.crews.items inner.1.crews.items last.1.crews.items c.in-Some.ports c.answer_for-back.result.ports
    c.args.pass.pass c.split-pass.result.0.pass theirs inner.0.pass c.answer_for-back.result.pass.pass last.0.pass last.0.calls inner.0.calls
    c.in-Some.ensures.next.0 c.split-pass.ensures.first c.split-pass.ensures.second
    c.take_in.ensures.pass c.take_in.ensures.lock c.take_in.ensures.calls c.take_in.ensures.one c.take_in.ensures.own.0 c.take_in.ensures.own.1 c.take_in.ensures.crews
    c.split-pass.result.1.calls back.pass.calls back.end (fresh_last c.args.team.own.ports c.args.team.own.spare.items (vec_capacity c.args.team.own.spare) c.args.team.crews.items c.next_crew.new.crews.items c.in-Some.ports c.requires.team c.in-Some.ensures.next.0)
    c.requires.leader.turned c.requires.leader.some_seat c.split-pass.ensures.calls.1 c.split-pass.ensures.no_call c.take_in.ensures.other
    back.pass.pass (subst (λ (ps : List (SessionView g.row.T.Denot)). HasReturned tell o c.args.terms.migration c.args.terms.homes.now c.args.terms.rounds theirs c.in-Some.ports back.pass.pass back.pass.calls back.end ps) (sym c.answer_for-back.ensures.ports) returned)
    c.answer_for-back.ensures.pass c.answer_for-back.ensures.answers c.work_together-pass.ensures.led

pub relieve-back-requires-clause-back : goal.relieve-back-requires-clause-back
relieve-back-requires-clause-back g t c = λ is.
    let tell = g.T.Port.told in
    let o = g.M.Marker.opening in
    let own = c.args.team.own.ports in
    let spare = c.args.team.own.spare in
    let ports = c.in-Some.ports in
    let back = c.in-Err.back in
    let same = as_given tell o c.args.terms.migration c.args.terms.homes.now c.args.terms.rounds c.split-pass.result.1.pass back.pass.pass ports back.ports back.pass.calls back.end is c.in-Err.ensures.err in
    let room = own_room own spare.items (vec_capacity spare) c.args.team.crews.items c.next_crew.new.crews.items ports c.requires.team c.in-Some.ensures.next.0 in
    subst (λ (ps : List (SessionView g.row.T.Denot)). AreFresh ps × IsDistinct nat_eq (map (λ (t : SessionView g.row.T.Denot). t.switch) (own ++ ps)) × (vec_len spare + length ps ≤ vec_capacity spare)) (sym same) (
      fresh_last own spare.items (vec_capacity spare) c.args.team.crews.items c.next_crew.new.crews.items ports c.requires.team c.in-Some.ensures.next.0,
      own_apart own spare.items (vec_capacity spare) c.args.team.crews.items c.next_crew.new.crews.items ports c.requires.team c.in-Some.ensures.next.0,
      omega (arith, room, spare.ok.0),
    )

pub work_together-pass-requires-in-Err-clause-leader : goal.work_together-pass-requires-in-Err-clause-leader
work_together-pass-requires-in-Err-clause-leader g t c κs within =
    leads_on c.args.book.now.lock g.M.Marker.seats (length c.args.team.crews.items) (length c.next_crew.new.crews.items) c.args.pass.pass c.split-pass.result.0.pass c.args.pass.calls c.split-pass.result.0.calls c.requires.leader
    (ap length c.in-Some.ensures.next.0 ∙ length-append c.next_crew.new.crews.items (c.in-Some.ports ∷ [])) c.split-pass.ensures.first c.split-pass.ensures.lock.0 c.split-pass.ensures.calls.0

pub work_together-pass-requires-in-Err-clause-team : goal.work_together-pass-requires-in-Err-clause-team
work_together-pass-requires-in-Err-clause-team g t c κs within =
    let tell = g.T.Port.told in
    let o = g.M.Marker.opening in
    let own = c.args.team.own.ports in
    let spare = c.args.team.own.spare in
    let ports = c.in-Some.ports in
    let back = c.in-Err.back in
    let now = c.relieve-back.new.self in
    let relieved = c.relieve-back.result in
    let relieves = subst (λ (e : Option Wake). Relieves e back.ports relieved.ports own (first_sessions spare.items) now.ports (first_sessions now.spare.items)) c.relieve-back.ensures.end c.relieve-back.ensures.ports in
    let shared = moved tell o c.args.terms.migration c.args.terms.homes.now c.args.terms.rounds c.split-pass.result.1.pass back.pass.pass ports back.ports back.pass.calls own (first_sessions spare.items) now.ports (first_sessions now.spare.items) relieved.ports back.end c.in-Err.ensures.err relieves in
    subst (λ (n : ℕ). AreWorkers now.ports now.spare.items n c.next_crew.new.crews.items) (sym c.relieve-back.ensures.room)
    (team_behind own spare.items (vec_capacity spare) c.args.team.crews.items c.next_crew.new.crews.items ports c.requires.team c.in-Some.ensures.next.0 now.ports now.spare.items shared.0 c.relieve-back.ensures.fresh shared.1)

pub returns-in-Err-clause-led : goal.returns-in-Err-clause-led
returns-in-Err-clause-led g t c =
    let tell = g.T.Port.told in
    let o = g.M.Marker.opening in
    let theirs = c.split-pass.result.1.pass in
    let ports = c.in-Some.ports in
    let inner = c.work_together-pass-in-Err.result in
    let back = c.in-Err.back in
    let now = c.relieve-back.new.self in
    let relieved = c.relieve-back.result in
    let last = c.take_in-in-Err.result in
    let relieves = subst (λ (e : Option Wake). Relieves e back.ports relieved.ports c.args.team.own.ports (first_sessions c.args.team.own.spare.items) now.ports (first_sessions now.spare.items)) c.relieve-back.ensures.end c.relieve-back.ensures.ports in
    let returned = subst (λ p. HasReturned tell o c.args.terms.migration c.args.terms.homes.now c.args.terms.rounds theirs ports p.pass p.calls back.end back.ports) (sym c.relieve-back.ensures.pass) c.in-Err.ensures.err in
    relieved_on tell o c.args.terms.migration c.args.terms.homes.now c.args.terms.rounds c.args.book.now.lock
    c.args.team.own.ports inner.1.own.ports last.1.own.ports c.args.team.own.spare.items inner.1.own.spare.items last.1.own.spare.items c.args.team.crews.items c.next_crew.new.crews.items inner.1.crews.items last.1.crews.items ports relieved.ports
    c.args.pass.pass c.split-pass.result.0.pass theirs inner.0.pass relieved.pass.pass last.0.pass last.0.calls inner.0.calls
    c.in-Some.ensures.next.0 c.split-pass.ensures.first c.split-pass.ensures.second
    c.take_in-in-Err.ensures.pass c.take_in-in-Err.ensures.lock c.take_in-in-Err.ensures.calls c.take_in-in-Err.ensures.one c.take_in-in-Err.ensures.own.0 c.take_in-in-Err.ensures.own.1 c.take_in-in-Err.ensures.crews
    c.split-pass.result.1.calls relieved.pass.calls back.end (fresh_last c.args.team.own.ports c.args.team.own.spare.items (vec_capacity c.args.team.own.spare) c.args.team.crews.items c.next_crew.new.crews.items ports c.requires.team c.in-Some.ensures.next.0)
    c.requires.leader.turned c.requires.leader.some_seat c.split-pass.ensures.calls.1 c.split-pass.ensures.no_call c.take_in-in-Err.ensures.other
    back.ports returned now.ports now.spare.items relieves c.work_together-pass-in-Err.ensures.led
