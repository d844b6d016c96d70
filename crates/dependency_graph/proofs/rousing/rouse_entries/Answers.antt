use Rattle.std.proofs.Common.{◌≡◌, ◌+◌, ◌<◌, ◌∙◌, length, sym, ap, subst, arith}
use Rattle.rollout_rules.specs.Wan.{Rollout, hops}
use Rattle.rollout_rules.specs.Items.{item_count, number_of}
use Rattle.rollout_rules.specs.declared.item.Item.TheVariants as item
use Rattle.rollout_rules.proofs.Numbers.{number_of-below}
use Rattle.rollout_rules.proofs.OverItems.{is_item-entry}
use Rattle.dependency_graph.specs.Waiting.{IsRoused}
use Rattle.dependency_graph.proofs.Growing.{number_of-few}
use Rattle.dependency_graph.proofs.Waking.{rouses-both}
use Rattle.dependency_graph.proofs.Relatives.{roused-more}
use Rattle.dependency_graph.proofs.rousing.rouse_entries.Goals as goal

pub overflow_add-first : goal.overflow_add-first
overflow_add-first c =
    let p = c.args.plan.now.problem in
    let low : c.loop-hop.hop < hops p c.args.tunnel = omega (arith, c.loop-hop-test.true, ap length c.path-path.ensures.list) in
    let first = c.first_entry-first.ensures ∙ ap (λ (r : Rollout). number_of r.problem (item.Entry c.args.tunnel 0)) (c.lookup.ensures ∙ sym c.requires.own) in
    omega (arith, first, number_of-few p c.args.tunnel c.loop-hop.hop c.path-path.ensures.network c.requires.tunnel low)

pub rouse_item-requires-clause-item : goal.rouse_item-requires-clause-item
rouse_item-requires-clause-item c =
    let p = c.args.plan.now.problem in
    let low : c.loop-hop.hop < hops p c.args.tunnel = omega (arith, c.loop-hop-test.true, ap length c.path-path.ensures.list) in
    let first = c.first_entry-first.ensures ∙ ap (λ (r : Rollout). number_of r.problem (item.Entry c.args.tunnel 0)) (c.lookup.ensures ∙ sym c.requires.own) in
    let inside = number_of-below p (item.Entry c.args.tunnel c.loop-hop.hop) (is_item-entry p c.args.tunnel c.loop-hop.hop c.requires.tunnel low) in
    let same = ap (λ (r : Rollout). item_count r.problem) c.requires.own in
    omega (arith, first, inside, same)

pub loop-hop-preserved : goal.loop-hop-preserved
loop-hop-preserved c =
    let p = c.args.plan.now.problem in
    let t = c.args.tunnel in
    let k = c.loop-hop.hop in
    let low : k < hops p t = omega (arith, c.loop-hop-test.true, ap length c.path-path.ensures.list) in
    let first = c.first_entry-first.ensures ∙ ap (λ (r : Rollout). number_of r.problem (item.Entry t 0)) (c.lookup.ensures ∙ sym c.requires.own) in
    let number : c.first_entry-first.result + k ≡ number_of p (item.Entry t k) = omega (arith, first) in
    let before = c.loop-hop.invariant in (
      rouses-both c.args.wakes.now c.loop-hop.wakes c.rouse_item.new.wakes before.0 c.rouse_item.ensures.rouses,
      roused-more c.args.course.now c.loop-hop.wakes c.rouse_item.new.wakes (λ h. number_of p (item.Entry t h)) k c.rouse_item.ensures.rouses
          (λ h lt. let inside = number_of-below p (item.Entry t h) (is_item-entry p t h c.requires.tunnel (omega (arith, lt, low))) in omega (arith, inside, before.0.items, c.requires.items))
          before.1 (subst (IsRoused c.args.course.now c.rouse_item.new.wakes) number c.rouse_item.ensures.own),
    )
