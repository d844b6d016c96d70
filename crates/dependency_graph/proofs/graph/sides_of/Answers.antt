use Rattle.std.proofs.Common.{◌≡◌, ◌∙◌, length, sym, ap, subst, arith}
use Rattle.rollout_rules.specs.Wan.{Problem, Rollout}
use Rattle.dependency_graph.specs.Cells.{resource_count, AreRooms}
use Rattle.dependency_graph.specs.Graph.{places}
use Rattle.dependency_graph.proofs.Blocked.{first-waiting}
use Rattle.dependency_graph.proofs.graph.sides_of.Goals as goal

pub returns : goal.returns
returns c =
    let g = c.args.course.now in
    let w = c.in_ok-wakes.wakes in
    let own : c.args.plan.now ≡ g.rollout = sym c.requires in
    let resources : w.resources ≡ resource_count g.rollout.problem =
    omega (arith, c.in_ok-wakes.ensures.resources, ap length c.links.ensures.list, ap length c.switches.ensures.list, ap (λ (q : Problem). length q.links) c.problem.ensures, ap (λ (q : Problem). length q.switches) c.problem-2.ensures, ap (λ (r : Rollout). resource_count r.problem) own) in
    record {
      graph = record {
        own = own;
        rows = c.in_ok-touched.ensures ∙ own;
        longest = c.in_ok-chains.ensures ∙ own;
        rooms = subst (λ (r : Rollout). AreRooms r (places g) c.fill.new.cells) own c.fill.ensures;
      };
      waiting = first-waiting g w c.rouse_each.new.wakes (c.in_ok-wakes.ensures.items ∙ c.item_count.ensures) resources c.in_ok-wakes.ensures.free c.rouse_each.ensures.rouses c.rouse_each.ensures.each;
    }
