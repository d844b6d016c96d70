use Rattle.rollout_rules.specs.History.{Places, places_of}
use Rattle.retarget_plan.specs.Left.{left_problem}
use Rattle.retarget_plan.specs.Leaving.{first_partly, large_left}
use Rattle.retarget_plan.proofs.Found.{cause-first, passed}
use Rattle.retarget_plan.proofs.leaving.whole_left.Goals as goal

pub first_partly-requires-clause-index : goal.first_partly-requires-clause-index
first_partly-requires-clause-index c = c.in_ok-index.ensures.rollout

pub small_left-requires-clause-index : goal.small_left-requires-clause-index
small_left-requires-clause-index c = c.in_ok-index.ensures.rollout

pub returns-in-Some : goal.returns-in-Some
returns-in-Some c =
    let r = c.args.plan.now in
    let at : Places = places_of r.problem c.args.graph.now.history in
    cause-first c.in-Some.cause (first_partly r.problem r.plan at) (large_left r.problem r.plan at) c.in-Some.ensures

pub returns : goal.returns
returns c =
    let r = c.args.plan.now in
    let at : Places = places_of r.problem c.args.graph.now.history in
    passed (first_partly r.problem r.plan at) (large_left r.problem r.plan at) (left_problem r.problem r.plan at) c.small_left.result c.in-None.ensures c.small_left.ensures
