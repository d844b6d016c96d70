use Rattle.std.proofs.Common.{◌≡◌, ◌∙◌, [], true, length, sym, ap, subst, arith}
use Rattle.std.proofs.lemmas.Bool.{lt-leb}
use Rattle.rollout_rules.specs.Sums.{all_below}
use Rattle.rollout_rules.specs.Wan.{Problem}
use Rattle.rollout_rules.specs.Items.{capacity_of}
use Rattle.rollout_rules.specs.Room.{room}
use Rattle.dependency_graph.specs.Ahead.{places_with}
use Rattle.dependency_graph.specs.Cells.{resource_count, resource_at}
use Rattle.dependency_graph.specs.FirstFault.{has_room_for}
use Rattle.dependency_graph.proofs.Starts.{fits_at-numbers}
use Rattle.dependency_graph.proofs.soundness.first_over.Goals as goal

pub returns-then-room-capacity : goal.returns-then-room-capacity
returns-then-room-capacity c =
    let r = c.args.plan.now in
    let places = places_with r c.args.progress.now [] in
    let links : length c.links.result.now ≡ length r.problem.links = ap length c.links.ensures.list ∙ ap (λ (p : Problem). length p.links) c.problem.ensures in
    let switches : length c.switches.result.now ≡ length r.problem.switches = ap length c.switches.ensures.list ∙ ap (λ (p : Problem). length p.switches) c.problem-2.ensures in
    let q = c.loop-resource.resource in
    record {
      there = omega (arith, c.loop-resource-test.true, links, switches);
      fails = lt-leb (room r.problem r.plan places c.args.stage (resource_at r.problem q)) (capacity_of r.problem r.plan (resource_at r.problem q)) (omega (arith, c.if-room-capacity.true, c.room.ensures, c.capacity.ensures));
      before = c.loop-resource.invariant;
    }

pub returns : goal.returns
returns c =
    let r = c.args.plan.now in
    let places = places_with r c.args.progress.now [] in
    let links : length c.links.result.now ≡ length r.problem.links = ap length c.links.ensures.list ∙ ap (λ (p : Problem). length p.links) c.problem.ensures in
    let switches : length c.switches.result.now ≡ length r.problem.switches = ap length c.switches.ensures.list ∙ ap (λ (p : Problem). length p.switches) c.problem-2.ensures in
    let q = c.loop-resource.resource in
    let end : q ≡ resource_count r.problem = omega (arith, c.loop-resource-test.false, c.loop-resource.auto.resource-end, links, switches) in
    sym (fits_at-numbers r.problem r.plan places c.args.stage) ∙ subst (λ n. all_below n (has_room_for r.problem r.plan places c.args.stage) ≡ true) end c.loop-resource.invariant
