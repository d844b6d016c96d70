use Rattle.std.proofs.Common.{List, ◌∙◌, ap, subst}
use Rattle.order_policy.specs.Answers.{rank_by}
use Rattle.rollout_rules.specs.Wan.{Rollout}
use Rattle.port_session.specs.Sessions.{SessionView}
use Rattle.switch_ports.specs.Berths.{ports_of}
use Rattle.switch_ports.specs.Hands.{first_sessions}
use Rattle.switch_ports.specs.Homes.{working_homes}
use Rattle.switch_ports.specs.Opening.{Opens}
use Rattle.switch_ports.proofs.Given.{opened_lent}
use Rattle.shared_book.specs.Opened.{opening_of}
use Rattle.controller_run.specs.Ran.{Ran}
use Rattle.controller_run.specs.Runs.{Runs}
use Rattle.controller_run.proofs.Over.{ends_run, to_ran}
use Rattle.controller_run.proofs.running.run.Goals as goal

pub run_over-requires-clause-lent : goal.run_over-requires-clause-lent
run_over-requires-clause-lent g c κs within =
    opened_lent g.F.Port.Port.told c.plan.result.now.problem (working_homes c.plan.result.now.problem c.plan.result.now.plan) (ports_of (g.F.Fleet.told c.args.fleet.now)) (ports_of (g.F.Fleet.told c.open_ports.new.fleet)) c.in-Ok.berths.items c.in-Ok.ensures.opened

pub returns-in-Ok-clause-ran : goal.returns-in-Ok-clause-ran
returns-in-Ok-clause-ran g c =
    let before_book = c.args.book.chronicle in
    let o = opening_of before_book (rank_by c.args.book.policy.now.answers) in
    let end = c.run_over.result.1 in
    let book = c.run_over.result.0.chronicle in
    let tell = g.F.Port.Port.told in
    let homes = working_homes before_book.rollout.problem before_book.rollout.plan in
    let before = ports_of (g.F.Fleet.told c.args.fleet.now) in
    let opened = ports_of (g.F.Fleet.told c.open_ports.new.fleet) in
    let now = ports_of (g.F.Fleet.told c.run_over.new.fleet) in
    let berths = c.in-Ok.berths.items in
    let runs : List (SessionView g.row.F-Port.Denot) → Type 0 = λ ports. Runs g.D.Disk.told tell o (g.D.Disk.told before_book.disk).moment (g.D.Disk.told before_book.disk).faults c.args.limits.migration c.args.limits.rounds (first_sessions berths) end book ports in
    let opens : Opens g.F.Port.Port.told before_book.rollout.problem homes before berths opened = subst (λ (r : Rollout). Opens g.F.Port.Port.told r.problem (working_homes r.problem r.plan) before berths opened) (c.plan.ensures ∙ ap (λ gr. gr.rollout) c.graph.ensures.value) c.in-Ok.ensures.opened in
    ends_run g.F.Port.Port.told homes before_book book before opened now berths runs
    (Ran g.D.Disk.told tell o (g.D.Disk.told before_book.disk).moment (g.D.Disk.told before_book.disk).faults c.args.limits.migration c.args.limits.rounds homes before end book now)
    (to_ran g.D.Disk.told tell o (g.D.Disk.told before_book.disk).moment (g.D.Disk.told before_book.disk).faults c.args.limits.migration c.args.limits.rounds homes before opened now end book berths opens c.in-Ok.ensures.apart)
    opens end c.run_over.ensures.ran

pub returns-in-Ok-clause-stays : goal.returns-in-Ok-clause-stays
returns-in-Ok-clause-stays g c = c.run_over.ensures.stays
