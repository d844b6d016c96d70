use Rattle.std.proofs.Common.{◌≡◌, ◌≤◌, ◌-◌, ◌∙◌, [], length, sym, ap, arith}
use Rattle.rollout_rules.specs.Wan.{Problem, Rollout}
use Rattle.rollout_rules.specs.Items.{the_link, the_table, item_count}
use Rattle.rollout_rules.specs.Room as rooms
use Rattle.rollout_rules.specs.declared.op.Op.{Op}
use Rattle.dependency_graph.specs.Ahead.{places_with, places_begun}
use Rattle.dependency_graph.proofs.Agreement.{room-same}
use Rattle.dependency_graph.proofs.Filled.{nobody-agree}
use Rattle.dependency_graph.proofs.RoomCells.{link-at, table-at}
use Rattle.dependency_graph.proofs.progress.room.room.Goals as goal

pub returns-then-resource-links : goal.returns-then-resource-links
returns-then-resource-links c =
    let r = c.args.plan.now in
    let op : Op = record { item = c.item_count.result; number = 0 } in
    let past : item_count r.problem ≤ op.item = omega (arith, c.item_count.ensures, ap (λ (q : Rollout). item_count q.problem) (c.lookup.ensures ∙ sym c.requires.own)) in
    let agree = nobody-agree r c.args.progress.now op past in
    c.load.ensures
    ∙ room-same r.problem r.plan (places_begun r c.args.progress.now [] op) (places_with r c.args.progress.now []) agree c.args.s (the_link c.args.resource)
    ∙ ap (rooms.room r.problem r.plan (places_with r c.args.progress.now []) c.args.s) (sym (link-at r.problem c.args.resource (omega (arith, c.if-resource-links.true, ap length c.links-links.ensures.list, ap (λ (p : Problem). length p.links) c.problem.ensures))))

pub returns : goal.returns
returns c =
    let r = c.args.plan.now in
    let op : Op = record { item = c.item_count.result; number = 0 } in
    let past : item_count r.problem ≤ op.item = omega (arith, c.item_count.ensures, ap (λ (q : Rollout). item_count q.problem) (c.lookup.ensures ∙ sym c.requires.own)) in
    let agree = nobody-agree r c.args.progress.now op past in
    let links : length c.links-links.result.now ≡ length r.problem.links = ap length c.links-links.ensures.list ∙ ap (λ (p : Problem). length p.links) c.problem.ensures in
    let at : c.args.resource - length c.links-links.result.now ≡ c.args.resource - length r.problem.links = ap (λ n. c.args.resource - n) links in
    c.entries.ensures
    ∙ room-same r.problem r.plan (places_begun r c.args.progress.now [] op) (places_with r c.args.progress.now []) agree c.args.s (the_table (c.args.resource - length c.links-links.result.now))
    ∙ ap (λ n. rooms.room r.problem r.plan (places_with r c.args.progress.now []) c.args.s (the_table n)) at
    ∙ ap (rooms.room r.problem r.plan (places_with r c.args.progress.now []) c.args.s) (sym (table-at r.problem c.args.resource (omega (arith, c.if-resource-links.false, links))))
