use Rattle.std.proofs.Common.{arith, lt-ltb}
use Rattle.rollout_rules.specs.Items.{the_link}
use Rattle.dependency_graph.proofs.RoomCells.{capacity-few}
use Rattle.rollout_report.proofs.Fullness.{link-fits}
use Rattle.sim_run.proofs.outcome.peaks_fit.Goals as goal

pub returns : goal.returns
returns c = λ l lt.
    let p = c.args.plan.now.problem in
    let plan = c.args.plan.now.plan in
    let net = c.checked_plan_is_valid.ensures.network in
    let valid = c.checked_plan_is_valid.ensures.valid in
    omega (arith, link-fits p plan c.args.history.now net valid c.requires l lt, capacity-few p plan net valid (the_link l) (lt-ltb l _ lt))
