use Rattle.std.proofs.Common.{◌≡◌, ◌<◌, ◌≤◌, ◌+◌, ◌∙◌, length, refl, sym, ap, subst, arith}
use Rattle.std.specs.Arc.{arc_value}
use Rattle.rollout_rules.specs.Wan.{Rollout, last_stage}
use Rattle.rollout_rules.specs.Items.{item_count, item_at}
use Rattle.rollout_laws.proofs.Standing.{stand-most}
use Rattle.dependency_graph.specs.Progress.{AreCountsOf, MayCount}
use Rattle.dependency_graph.proofs.Elements.{read_from}
use Rattle.dependency_graph.proofs.Standings.{counts-begin, counts-done}
use Rattle.dependency_graph.proofs.progress.Progress.add.Goals as goal

pub stage_behind-stage-requires-clause-item : goal.stage_behind-stage-requires-clause-item
stage_behind-stage-requires-clause-item c =
    let left = subst (MayCount c.args.self.now) c.in-Done.is c.requires.left in
    subst (λ (q : Rollout). c.in-Done.op.item < item_count q.problem) (sym c.requires.own) left.0

pub set-requires-clause-stage : goal.set-requires-clause-stage
set-requires-clause-stage c =
    let r = c.args.plan.now in
    let same : r ≡ arc_value c.self.inside.index = c.requires.own ∙ sym (ap (λ v. v.rollout) c.self.view_is) in
    let most = subst (λ x. x ≤ last_stage r.plan) (sym c.stage_behind-stage.ensures) (stand-most r.problem r.plan (item_at r.problem c.in-Done.op.item) _) in
    omega (arith, most, c.self.invariant.last, ap (λ (q : Rollout). last_stage q.plan) same)

pub returns-in-Begin-clause-counts : goal.returns-in-Begin-clause-counts
returns-in-Begin-clause-counts c = λ h so.
    let r = arc_value c.self.inside.index in
    let started = c.self.inside.begun.items in
    let left = subst (MayCount c.args.self.now) c.in-Begin.is c.requires.left in
    let lt = subst (λ (q : Rollout). c.in-Begin.op.item < item_count q.problem) (sym (ap (λ v. v.rollout) c.self.view_is)) left.0 in
    let inside : c.in-Begin.op.item < length started = omega (arith, lt, c.self.invariant.begun) in
    let read = read_from started started c.in-Begin.op.item c.index_mut.result.now 0 refl inside c.index_mut.ensures.value in
    counts-begin r c.self.inside.settled.items started h c.args.entry c.in-Begin.op (c.index_mut.result.now + 1) c.in-Begin.is lt (ap (λ x. x + 1) read) (subst (λ v. AreCountsOf v h) (sym c.self.view_is) so)

pub returns-in-Done-clause-counts : goal.returns-in-Done-clause-counts
returns-in-Done-clause-counts c = λ h so.
    let r = arc_value c.self.inside.index in
    let done = c.self.inside.settled.items in
    let left = subst (MayCount c.args.self.now) c.in-Done.is c.requires.left in
    let lt = subst (λ (q : Rollout). c.in-Done.op.item < item_count q.problem) (sym (ap (λ v. v.rollout) c.self.view_is)) left.0 in
    let inside : c.in-Done.op.item < length done = omega (arith, lt, c.self.invariant.settled) in
    let read = read_from done done c.in-Done.op.item c.index.result.now 0 refl inside c.index.ensures in
    counts-done r done c.self.inside.begun.items h c.args.entry c.in-Done.op (c.index.result.now + 1) c.in-Done.is lt (ap (λ x. x + 1) read) (subst (λ v. AreCountsOf v h) (sym c.self.view_is) so)
