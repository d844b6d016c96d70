use Rattle.std.proofs.Common.{List, IsPermutation, sym, subst, arith}
use Rattle.switch_ports.specs.declared.ports.Berth.{Berth}
use Rattle.std.specs.Prelude.{vec_capacity}
use Rattle.switch_ports.specs.Hands.{first_sessions}
use Rattle.controller_run.specs.Workers.{AreWorkers, workers_ports}
use Rattle.controller_run.proofs.Dealing.{few_left, taken, team_of}
use Rattle.controller_run.proofs.workers.Workers.of.Goals as goal

pub returns-clause-same : goal.returns-clause-same
returns-clause-same g c =
    let rest = c.take_last-ports.new.crews.items in
    let own = c.take_last-ports.result in
    subst (λ (bs : List (Berth g.row.T.Denot)). IsPermutation (first_sessions c.args.berths.items) (workers_ports own bs rest)) (sym c.in-Ok.ensures.0) (taken c.args.workers c.args.berths.items _ c.in_ok-crews.ensures.ok rest own c.take_last-ports.ensures)

pub returns-clause-team : goal.returns-clause-team
returns-clause-team g c =
    let rest = c.take_last-ports.new.crews.items in
    let own = c.take_last-ports.result in
    subst (λ (bs : List (Berth g.row.T.Denot)). AreWorkers own bs (vec_capacity c.in-Ok.spare) rest) (sym c.in-Ok.ensures.0)
    (team_of c.args.berths.items own (vec_capacity c.in-Ok.spare) rest c.requires (taken c.args.workers c.args.berths.items _ c.in_ok-crews.ensures.ok rest own c.take_last-ports.ensures) (omega (arith, c.in-Ok.ensures.1, c.len.ensures, c.args.berths.ok.0)))

pub returns-clause-few : goal.returns-clause-few
returns-clause-few g c = few_left c.args.workers c.args.berths.items _ c.in_ok-crews.ensures.ok c.take_last-ports.new.crews.items c.take_last-ports.result c.take_last-ports.ensures
