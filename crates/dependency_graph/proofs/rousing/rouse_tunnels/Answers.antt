use Rattle.std.proofs.Common.{ℕ, ◌<◌, ◌∙◌, subst, arith}
use Rattle.rollout_rules.specs.Wan.{hops}
use Rattle.rollout_rules.specs.Items.{number_of}
use Rattle.rollout_rules.specs.declared.item.Item.TheVariants as item
use Rattle.dependency_graph.specs.Waiting.{IsRoused}
use Rattle.dependency_graph.proofs.Waking.{rouses-both}
use Rattle.dependency_graph.proofs.Relatives.{entries-more}
use Rattle.dependency_graph.proofs.rousing.rouse_tunnels.Goals as goal

pub loop-j-preserved : goal.loop-j-preserved
loop-j-preserved c =
    let p = c.args.plan.now.problem in
    let before = c.loop-j.invariant in
    let now = subst (λ t. (h : ℕ) → h < hops p t → IsRoused c.args.course.now c.rouse_entries.new.wakes (number_of p (item.Entry t h))) c.tunnel_of.ensures.value c.rouse_entries.ensures.entries in (
      rouses-both c.args.wakes.now c.loop-j.wakes c.rouse_entries.new.wakes before.0 c.rouse_entries.ensures.rouses,
      entries-more p c.args.course.now c.loop-j.wakes c.rouse_entries.new.wakes c.args.flow c.loop-j.j c.checked_plan_is_valid.ensures.network c.requires.flow (before.0.items ∙ c.requires.items)
          (omega (arith, c.loop-j-test.true, c.tunnel_count-j-end.ensures.value)) c.rouse_entries.ensures.rouses before.1 now,
    )
