use Rattle.std.proofs.Common.{refl}
use Rattle.rollout_rules.specs.Items.{item_count}
use Rattle.sim_run.specs.Rehearsing.{rehearsing_of}
use Rattle.sim_run.proofs.Turns.{first}
use Rattle.sim_run.proofs.Worldly.{keeps-first}
use Rattle.sim_run.proofs.acts.first_over.Goals as goal

pub returns : goal.returns
returns g c =
    first c.args.plan c.in_ok-controller.controller c.args.network (item_count c.args.plan.problem) c.in_ok-controller.ensures c.requires refl

pub invariant_of-result : goal.invariant_of-result
invariant_of-result g c live =
    let is = first c.args.plan c.in_ok-controller.controller c.args.network (item_count c.args.plan.problem) c.in_ok-controller.ensures c.requires refl in
    keeps-first c.args.plan (rehearsing_of c.in_ok-controller.controller c.args.network) is c.checked_plan_is_valid.ensures.valid
