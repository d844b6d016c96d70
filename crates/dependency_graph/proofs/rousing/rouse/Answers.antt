use Rattle.std.proofs.Common.{◌≡◌, ◌∙◌, true, sym, ap, subst, arith}
use Rattle.rollout_rules.specs.Wan.{Rollout}
use Rattle.rollout_rules.specs.Items.{is_item, item_at, number_of}
use Rattle.rollout_rules.specs.declared.item.Item.{Item}
use Rattle.rollout_rules.proofs.Numbers.{is_item-item_at}
use Rattle.dependency_graph.specs.Waiting.{AreRelated, IsRoused}
use Rattle.dependency_graph.proofs.Waking.{rouses-none}
use Rattle.dependency_graph.proofs.Relatives.{roused-parts}
use Rattle.dependency_graph.proofs.rousing.rouse.Goals as goal

pub rouse_related-requires-clause-item : goal.rouse_related-requires-clause-item
rouse_related-requires-clause-item c =
    let p = c.args.plan.now.problem in
    let is : c.item.result ≡ item_at p c.args.item = c.item.ensures ∙ ap (λ (r : Rollout). item_at r.problem c.args.item) (sym c.requires.own) in
    ap (is_item p) is ∙ is_item-item_at p c.args.item c.requires.item

pub returns-then-rose : goal.returns-then-rose
returns-then-rose c =
    let p = c.args.plan.now.problem in
    let g = c.args.course.now in
    let n = c.args.item in
    let is : c.item.result ≡ item_at p n = c.item.ensures ∙ ap (λ (r : Rollout). item_at r.problem n) (sym c.requires.own) in
    let related = subst (λ i. (k : Item) → is_item p k ≡ true → AreRelated p i k → IsRoused g c.rouse_related.new.wakes (number_of p k)) is c.rouse_related.ensures.related in
    roused-parts p g n c.args.row.now c.args.rose c.args.wakes.now c.rouse_item.new.wakes c.rouse_related.new.wakes c.free_row.new.wakes c.free_all.new.self c.requires.items c.requires.item
    c.rouse_item.ensures.rouses c.rouse_item.ensures.own c.rouse_related.ensures.rouses related c.free_row.ensures.rouses c.free_row.ensures.freed
    c.free_all.ensures.rouses (λ up q lt. c.free_all.ensures.freed q (omega (arith, lt, c.free_all.ensures.rouses.resources)))

pub returns-else-rose : goal.returns-else-rose
returns-else-rose c =
    let p = c.args.plan.now.problem in
    let g = c.args.course.now in
    let n = c.args.item in
    let is : c.item.result ≡ item_at p n = c.item.ensures ∙ ap (λ (r : Rollout). item_at r.problem n) (sym c.requires.own) in
    let related = subst (λ i. (k : Item) → is_item p k ≡ true → AreRelated p i k → IsRoused g c.rouse_related.new.wakes (number_of p k)) is c.rouse_related.ensures.related in
    roused-parts p g n c.args.row.now c.args.rose c.args.wakes.now c.rouse_item.new.wakes c.rouse_related.new.wakes c.free_row.new.wakes c.free_row.new.wakes c.requires.items c.requires.item
    c.rouse_item.ensures.rouses c.rouse_item.ensures.own c.rouse_related.ensures.rouses related c.free_row.ensures.rouses c.free_row.ensures.freed
    (rouses-none c.free_row.new.wakes) (λ up. absurd (Rattle.std.proofs.lemmas.Bool.both_ways c.args.rose c.if-rose.false up))
