use Rattle.std.proofs.Common.{◌≡◌, ◌<◌, ◌∙◌, ℕ, Bool, true, length, nat_le, sym, ap, subst, arith}
use Rattle.std.proofs.lemmas.Bool.{lt-leb}
use Rattle.rollout_rules.specs.Sums.{all_below}
use Rattle.rollout_rules.specs.Wan.{Problem}
use Rattle.rollout_rules.specs.Items.{capacity_of}
use Rattle.rollout_rules.specs.Room.{room}
use Rattle.rollout_rules.proofs.Below.{all_below_stops}
use Rattle.dependency_graph.specs.Ahead.{places_begun}
use Rattle.dependency_graph.specs.Cells.{resource_count, resource_at}
use Rattle.dependency_graph.proofs.Starts.{fits_at-numbers}
use Rattle.rollout_core.proofs.room.fit_at.Goals as goal

pub returns-then-room-capacity : goal.returns-then-room-capacity
returns-then-room-capacity c =
    let r = c.args.plan.now in
    let places = places_begun r c.args.progress.now c.args.ahead.now c.args.op in
    let links : length c.links.result.now ≡ length r.problem.links = ap length c.links.ensures.list ∙ ap (λ (p : Problem). length p.links) c.problem.ensures in
    let switches : length c.switches.result.now ≡ length r.problem.switches = ap length c.switches.ensures.list ∙ ap (λ (p : Problem). length p.switches) c.problem-2.ensures in
    let test : ℕ → Bool = λ q. nat_le (room r.problem r.plan places c.args.stage (resource_at r.problem q)) (capacity_of r.problem r.plan (resource_at r.problem q)) in
    let q = c.loop-resource.resource in
    let low : q < resource_count r.problem = omega (arith, c.loop-resource-test.true, links, switches) in
    let fails = lt-leb (room r.problem r.plan places c.args.stage (resource_at r.problem q)) (capacity_of r.problem r.plan (resource_at r.problem q)) (omega (arith, c.if-room-capacity.true, c.room.ensures, c.capacity.ensures)) in
    sym (all_below_stops test (resource_count r.problem) q low fails) ∙ fits_at-numbers r.problem r.plan places c.args.stage

pub returns : goal.returns
returns c =
    let r = c.args.plan.now in
    let places = places_begun r c.args.progress.now c.args.ahead.now c.args.op in
    let links : length c.links.result.now ≡ length r.problem.links = ap length c.links.ensures.list ∙ ap (λ (p : Problem). length p.links) c.problem.ensures in
    let switches : length c.switches.result.now ≡ length r.problem.switches = ap length c.switches.ensures.list ∙ ap (λ (p : Problem). length p.switches) c.problem-2.ensures in
    let test : ℕ → Bool = λ q. nat_le (room r.problem r.plan places c.args.stage (resource_at r.problem q)) (capacity_of r.problem r.plan (resource_at r.problem q)) in
    let q = c.loop-resource.resource in
    let end : q ≡ resource_count r.problem = omega (arith, c.loop-resource-test.false, c.loop-resource.auto.resource-end, links, switches) in
    sym (subst (λ n. all_below n test ≡ true) end c.loop-resource.invariant) ∙ fits_at-numbers r.problem r.plan places c.args.stage
