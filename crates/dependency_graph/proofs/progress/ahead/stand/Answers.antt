use Rattle.std.proofs.Common.{◌≡◌, ◌<◌, ◌≤◌, slice_index, sym, ap, ◌∙◌, subst, arith}
use Rattle.std.specs.Arc.{arc_value}
use Rattle.rollout_rules.specs.Wan.{Rollout, last_stage}
use Rattle.rollout_rules.specs.Items.{item_count, item_at}
use Rattle.rollout_laws.proofs.Standing.{stand-most}
use Rattle.dependency_graph.proofs.Standings.{is_item-read}
use Rattle.dependency_graph.proofs.progress.ahead.stand.Goals as goal

pub returns-then-dones-eq0-clause-within : goal.returns-then-dones-eq0-clause-within
returns-then-dones-eq0-clause-within c =
    let r = arc_value c.progress.inside.index in
    let same : c.args.plan.now ≡ r = c.requires.own ∙ sym (ap (λ v. v.rollout) c.progress.view_is) in
    let lt = subst (λ (q : Rollout). c.args.item < item_count q.problem) same c.requires.item in
    let most = stand-most r.problem r.plan (item_at r.problem c.args.item) (slice_index c.progress.inside.settled.items c.args.item) in
    omega (arith, c.stage.ensures, c.progress.invariant.stands.each c.args.item lt, most, ap (λ (q : Rollout). last_stage q.plan) same)

pub stand_after-requires : goal.stand_after-requires
stand_after-requires c =
    let same : c.args.plan.now ≡ c.lookup.result.now = c.requires.own ∙ sym c.lookup.ensures in
    is_item-read c.args.plan.now c.lookup.result.now c.args.item c.item.result same c.requires.item c.item.ensures

pub returns-clause-within : goal.returns-clause-within
returns-clause-within c = subst (λ x. x ≤ last_stage c.args.plan.now.plan) (sym c.stand_after.ensures) (stand-most c.args.plan.now.problem c.args.plan.now.plan c.item.result _)
