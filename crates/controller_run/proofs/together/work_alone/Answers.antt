use Rattle.std.proofs.Common.{◌++◌, ◌∙◌, eqb-true, subst, sym, refl, arith}
use Rattle.std.specs.Prelude.{IsTrue, vec_len}
use Rattle.lists.proofs.Rows.{none_of_length_0}
use Rattle.port_session.specs.Sessions.{SessionView}
use Rattle.switch_ports.specs.Hands.{first_sessions}
use Rattle.controller_run.specs.Workers.{all_ports, workers_ports}
use Rattle.controller_run.proofs.Crews.{no_ports}
use Rattle.controller_run.proofs.LeadingOn.{served_alone, stopped_alone}
use Rattle.controller_run.proofs.together.work_alone.Goals as goal

pub stop-requires-clause-lock : goal.stop-requires-clause-lock
stop-requires-clause-lock g c = c.requires.leader.of_lock

pub stop-requires-clause-seat : goal.stop-requires-clause-seat
stop-requires-clause-seat g c = let leads = c.requires.leader in omega (arith, leads.first, leads.some_seat, leads.room)

pub stop-requires-clause-calls : goal.stop-requires-clause-calls
stop-requires-clause-calls g c = c.requires.leader.counted

pub serve-pass-requires-clause-lock : goal.serve-pass-requires-clause-lock
serve-pass-requires-clause-lock g c = c.requires.leader.of_lock

pub serve-pass-requires-clause-calls : goal.serve-pass-requires-clause-calls
serve-pass-requires-clause-calls g c = c.requires.leader.counted

pub serve-pass-requires-clause-seat : goal.serve-pass-requires-clause-seat
serve-pass-requires-clause-seat g c = let leads = c.requires.leader in omega (arith, leads.first, leads.some_seat, leads.room)

pub serve-pass-requires-clause-live : goal.serve-pass-requires-clause-live
serve-pass-requires-clause-live g c = λ k d inside. subst (λ (t : SessionView g.row.T.Denot). IsTrue t.stream.live) (sym (c.requires.fresh k d inside)) refl

pub returns-then-not-is_empty-clause-led : goal.returns-then-not-is_empty-clause-led
returns-then-not-is_empty-clause-led g c =
    stopped_alone g.T.Port.told g.M.Marker.opening c.args.terms.migration c.args.terms.homes.now c.args.terms.rounds c.args.book.now.lock
    g.M.Marker.seats 0 c.args.pass.pass c.stop.result.0.pass c.args.pass.calls c.stop.result.0.calls c.requires.leader c.stop.ensures.lock c.stop.ensures.pass c.stop.ensures.calls
    (workers_ports c.args.team.own.ports c.args.team.own.spare.items c.args.team.crews.items) c.stop.result.1 c.stop.ensures.call

pub returns-clause-led : goal.returns-clause-led
returns-clause-led g c =
    served_alone g.T.Port.told g.M.Marker.opening c.args.terms.migration c.args.terms.homes.now c.args.terms.rounds c.args.book.now.lock
    g.M.Marker.seats 0 c.args.pass.pass c.serve-pass.result.pass.pass c.args.pass.calls c.serve-pass.result.pass.calls c.requires.leader c.serve-pass.ensures.lock c.serve-pass.ensures.pass c.serve-pass.ensures.calls
    c.args.team.own.ports c.serve-pass.result.ports (first_sessions c.args.team.own.spare.items ++ all_ports c.args.team.crews.items) c.serve-pass.result.end c.requires.fresh
    (no_ports c.args.team.own.spare.items c.args.team.crews.items (none_of_length_0 c.args.team.own.spare.items (let none = eqb-true (vec_len c.args.team.own.spare) 0 (sym c.is_empty.ensures ∙ c.if-not-is_empty.false) in omega (arith, none, c.args.team.own.spare.ok.0))) c.requires.alone) c.serve-pass.ensures.served
