use Rattle.std.proofs.Common.{◌≡◌, ◌-◌, ◌∙◌, length, sym, ap, arith}
use Rattle.rollout_rules.specs.Wan.{Problem}
use Rattle.rollout_rules.specs.Items.{the_table}
use Rattle.rollout_rules.specs.Room as rooms
use Rattle.dependency_graph.specs.Ahead.{places_begun}
use Rattle.dependency_graph.proofs.RoomCells.{link-at, table-at}
use Rattle.rollout_core.proofs.room.room.Goals as goal

pub returns-then-resource-links : goal.returns-then-resource-links
returns-then-resource-links c =
    let r = c.args.plan.now in
    let places = places_begun r c.args.progress.now c.args.ahead.now c.args.op in
    let links : length c.links-links.result.now ≡ length r.problem.links = ap length c.links-links.ensures.list ∙ ap (λ (p : Problem). length p.links) c.problem.ensures in
    c.load.ensures ∙ ap (rooms.room r.problem r.plan places c.args.stage) (sym (link-at r.problem c.args.resource (omega (arith, c.if-resource-links.true, links))))

pub returns : goal.returns
returns c =
    let r = c.args.plan.now in
    let places = places_begun r c.args.progress.now c.args.ahead.now c.args.op in
    let links : length c.links-links.result.now ≡ length r.problem.links = ap length c.links-links.ensures.list ∙ ap (λ (p : Problem). length p.links) c.problem.ensures in
    let at : c.args.resource - length c.links-links.result.now ≡ c.args.resource - length r.problem.links = ap (λ n. c.args.resource - n) links in
    c.entries.ensures
    ∙ ap (λ n. rooms.room r.problem r.plan places c.args.stage (the_table n)) at
    ∙ ap (rooms.room r.problem r.plan places c.args.stage) (sym (table-at r.problem c.args.resource (omega (arith, c.if-resource-links.false, links))))
