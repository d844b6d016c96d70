use Rattle.std.proofs.Common.{◌<◌, ◌∙◌, length, sym, ap, arith, nat_le}
use Rattle.rollout_rules.specs.Wan.{hops}
use Rattle.rollout_rules.specs.History.{stand}
use Rattle.rollout_rules.specs.Needs.{installed_since}
use Rattle.rollout_rules.proofs.Below.{all_below_stops}
use Rattle.rollout_rules.specs.declared.item.Item.TheVariants as item
use Rattle.dependency_graph.specs.Ahead.{places_with}
use Rattle.dependency_graph.proofs.progress.needs.entries_past.Goals as goal

pub returns-then-not-entry_past : goal.returns-then-not-entry_past
returns-then-not-entry_past c =
    let p = c.args.plan.now.problem in
    let plan = c.args.plan.now.plan in
    let inside : c.loop-hop.hop < hops p c.args.t = omega (arith, ap length c.path-hop-end.ensures.list) in
    let fails = sym c.entry_past.ensures ∙ c.if-not-entry_past.true in
    sym (all_below_stops (λ k. nat_le (installed_since plan c.args.t c.args.s) (stand p plan (places_with c.args.plan.now c.args.progress.now c.args.ahead.now) (item.Entry c.args.t k))) (hops p c.args.t) c.loop-hop.hop inside fails)
