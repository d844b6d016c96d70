use Rattle.std.proofs.Common.{◌≡◌, ◌∙◌, [], length, ap, arith}
use Rattle.rollout_rules.specs.Wan.{Problem}
use Rattle.dependency_graph.specs.Cells.{resource_count}
use Rattle.dependency_graph.specs.Ahead.{places_with}
use Rattle.dependency_graph.proofs.Counts.{own-least-with}
use Rattle.dependency_graph.proofs.Filled.{filled-all}
use Rattle.dependency_graph.proofs.filling.fill.Goals as goal

pub returns : goal.returns
returns c =
    let r = c.args.plan.now in
    let links : length c.links.result.now ≡ length r.problem.links = ap length c.links.ensures.list ∙ ap (λ (p : Problem). length p.links) c.problem.ensures in
    let switches : length c.switches.result.now ≡ length r.problem.switches = ap length c.switches.ensures.list ∙ ap (λ (p : Problem). length p.switches) c.problem-2.ensures in
    let end : c.loop-resource.resource ≡ resource_count r.problem = omega (arith, links, switches, c.loop-resource-test.false, c.loop-resource.auto.resource-end) in
    filled-all r (places_with r c.args.progress.now []) c.least_stand-low.result c.loop-resource.resource c.loop-resource.cells end
    (c.least_stand-low.ensures.value ∙ own-least-with r c.args.progress.now) c.loop-resource.invariant
