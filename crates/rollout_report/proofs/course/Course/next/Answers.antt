use Rattle.std.proofs.Common.{◌≡◌, ◌+◌, ◌<◌, ◌==◌, true, get_or, sym, ap, ◌∙◌, arith}
use Rattle.rollout_rules.specs.Items.{item_count}
use Rattle.rollout_rules.specs.declared.item.Item.TheVariants as item
use Rattle.rollout_report.specs.Course.{Coursed}
use Rattle.rollout_report.proofs.Looking.{items-of, row-there, next-goes}
use Rattle.rollout_report.proofs.course.Course.next.Goals as goal

pub stand_behind-requires-clause-item : goal.stand_behind-requires-clause-item
stand_behind-requires-clause-item c =
    let low : c.args.item < item_count c.args.plan.now.problem = omega (arith, c.requires.item, ap (λ r. item_count r.problem) c.requires.own) in
    let inside : Coursed = record { rollout = c.self.inside.plan.value; counts = c.self.inside.counts } in
    row-there c.args.plan.now c.as_slice.result.now (items-of c.args.plan.now c.args.self.now inside c.self.inside.items c.as_slice.result.now c.self.inside.stands.items c.requires.own c.self.view_is c.self.invariant c.as_slice.ensures) c.args.item _ low

pub returns-then-flies-clause-value : goal.returns-then-flies-clause-value
returns-then-flies-clause-value c =
    let low : c.args.item < item_count c.args.plan.now.problem = omega (arith, c.requires.item, ap (λ r. item_count r.problem) c.requires.own) in
    let inside : Coursed = record { rollout = c.self.inside.plan.value; counts = c.self.inside.counts } in
    let are = items-of c.args.plan.now c.args.self.now inside c.self.inside.items c.as_slice.result.now c.self.inside.stands.items c.requires.own c.self.view_is c.self.invariant c.as_slice.ensures in
    let flag : (get_or c.args.self.now.counts.begun c.args.item 0 == get_or c.args.self.now.counts.settled c.args.item 0 + 1) ≡ true =
    ap (λ v. get_or v.counts.begun c.args.item 0 == get_or v.counts.settled c.args.item 0 + 1) (sym c.self.view_is) ∙ sym c.flies.ensures ∙ c.if-flies.true in
    next-goes c.args.plan.now c.args.self.now (get_or c.as_slice.result.now c.args.item (item.Flow 0)) c.args.item c.here-here.result c.stand_behind.result c.requires.own
    (are.each c.args.item (item.Flow 0) low) c.here-here.ensures.value flag c.stand_behind.ensures.next
