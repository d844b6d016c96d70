use Rattle.std.proofs.Common.{subst}
use Rattle.dependency_graph.specs.Waiting.{AreRelated}
use Rattle.dependency_graph.proofs.Relatives.{related-flow}
use Rattle.dependency_graph.proofs.rousing.rouse_related.Goals as goal

pub returns-in-Flow-clause-related : goal.returns-in-Flow-clause-related
returns-in-Flow-clause-related c k here related =
    let p = c.args.plan.now.problem in
    related-flow p c.args.course.now c.rouse_tunnels.new.wakes c.in-Flow.flow c.checked_plan_is_valid.ensures.network c.rouse_tunnels.ensures.entries k here
    (subst (λ i. AreRelated p i k) c.in-Flow.is related)
