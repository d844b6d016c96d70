use Rattle.std.proofs.Common.{◌≡◌, List}
use Rattle.order_policy.specs.Answers.{rank_by}
use Rattle.port_session.specs.Sessions.{SessionView}
use Rattle.switch_ports.specs.Berths.{ports_of}
use Rattle.switch_ports.specs.Hands.{first_sessions}
use Rattle.shared_book.specs.Opened.{opening_of}
use Rattle.shared_book.proofs.Staying.{stays_alone}
use Rattle.controller_run.specs.Runs.{Runs}
use Rattle.controller_run.specs.Workers.{workers_ports}
use Rattle.controller_run.proofs.Over.{is_over, left_apart, left_lent, moved_switches, runs_over}
use Rattle.controller_run.proofs.running.run_over.Goals as goal

pub keep_all_ports-requires-clause-apart : goal.keep_all_ports-requires-clause-apart
keep_all_ports-requires-clause-apart g c =
    let dealt = c.in-Ok.team in
    let now = c.run_workers-book.result.team in
    let ports = workers_ports now.own.ports now.own.spare.items now.crews.items in
    left_apart c.args.berths.items ports
    (moved_switches c.args.berths.items (workers_ports dealt.own.ports dealt.own.spare.items dealt.crews.items) ports c.in-Ok.ensures.same c.run_workers-book.ensures.switches) c.requires.apart

pub keep_all_ports-requires-clause-lent : goal.keep_all_ports-requires-clause-lent
keep_all_ports-requires-clause-lent g c =
    let dealt = c.in-Ok.team in
    let now = c.run_workers-book.result.team in
    let ports = workers_ports now.own.ports now.own.spare.items now.crews.items in
    left_lent (g.F.Fleet.told c.args.fleet.now).lent c.args.berths.items ports
    (moved_switches c.args.berths.items (workers_ports dealt.own.ports dealt.own.spare.items dealt.crews.items) ports c.in-Ok.ensures.same c.run_workers-book.ensures.switches) c.requires.lent

pub returns-in-Ok-clause-ran : goal.returns-in-Ok-clause-ran
returns-in-Ok-clause-ran g c =
    let o = opening_of c.args.book.chronicle (rank_by c.args.book.policy.now.answers) in
    let end = c.run_workers-book.result.end in
    let book = c.run_workers-book.result.book.chronicle in
    let team = c.in-Ok.team in
    let now = c.run_workers-book.result.team in
    let dealt = workers_ports team.own.ports team.own.spare.items team.crews.items in
    let ports = workers_ports now.own.ports now.own.spare.items now.crews.items in
    let talks = first_sessions c.args.berths.items in
    let tell = g.F.Port.Port.told in
    let runs : List (SessionView g.row.F-Port.Denot) → List (SessionView g.row.F-Port.Denot) → Type 0 = λ whole left. Runs g.D.Disk.told tell o (g.D.Disk.told c.args.book.chronicle.disk).moment (g.D.Disk.told c.args.book.chronicle.disk).faults c.args.limits.migration c.args.limits.rounds whole end book left in
    is_over (ports_of (g.F.Fleet.told c.args.fleet.now)) (ports_of (g.F.Fleet.told c.keep_all_ports.new.fleet)) c.args.berths.items (runs talks) (runs dealt ports) (book ≡ c.args.book.chronicle) dealt ports
    (runs_over g.D.Disk.told tell o (g.D.Disk.told c.args.book.chronicle.disk).moment (g.D.Disk.told c.args.book.chronicle.disk).faults c.args.limits.migration c.args.limits.rounds end book ports talks dealt c.in-Ok.ensures.same)
    c.keep_all_ports.ensures.ports (moved_switches c.args.berths.items dealt ports c.in-Ok.ensures.same c.run_workers-book.ensures.switches) c.in-Ok.ensures.same c.requires.apart end c.run_workers-book.ensures.ran

pub returns-in-Ok-clause-stays : goal.returns-in-Ok-clause-stays
returns-in-Ok-clause-stays g c = c.run_workers-book.ensures.stays

pub returns-in-Err-clause-stays : goal.returns-in-Err-clause-stays
returns-in-Err-clause-stays g c = stays_alone g.D.Disk.told (opening_of c.args.book.chronicle (rank_by c.args.book.policy.now.answers)) c.args.book.chronicle.disk
