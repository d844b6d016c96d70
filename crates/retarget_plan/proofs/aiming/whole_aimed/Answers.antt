use Rattle.rollout_rules.specs.History.{Places, places_of}
use Rattle.retarget_plan.specs.Aiming.{aimed_problem, large_aimed}
use Rattle.retarget_plan.specs.Leaving.{first_partly}
use Rattle.retarget_plan.proofs.Found.{cause-first, passed}
use Rattle.retarget_plan.proofs.aiming.whole_aimed.Goals as goal

pub first_partly-requires-clause-index : goal.first_partly-requires-clause-index
first_partly-requires-clause-index c = c.in_ok-index.ensures.rollout

pub small_aimed-requires-clause-index : goal.small_aimed-requires-clause-index
small_aimed-requires-clause-index c = c.in_ok-index.ensures.rollout

pub returns-in-Some : goal.returns-in-Some
returns-in-Some c =
    let r = c.args.plan.now in
    let at : Places = places_of r.problem c.args.graph.now.history in
    cause-first c.in-Some.cause (first_partly r.problem r.plan at) (large_aimed r.problem r.plan at c.args.aim.now) c.in-Some.ensures

pub returns : goal.returns
returns c =
    let r = c.args.plan.now in
    let at : Places = places_of r.problem c.args.graph.now.history in
    passed (first_partly r.problem r.plan at) (large_aimed r.problem r.plan at c.args.aim.now) (aimed_problem r.problem r.plan at c.args.aim.now) c.small_aimed.result c.in-None.ensures c.small_aimed.ensures
