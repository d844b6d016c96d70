use Rattle.std.proofs.Common.{◌≡◌, ◌+◌, ◌<◌, ◌∙◌, slice_index, sym, ap, subst, arith}
use Rattle.std.specs.Arc.{arc_value}
use Rattle.rollout_rules.specs.Wan.{Rollout, last_stage}
use Rattle.rollout_rules.specs.Items.{item_count, item_at}
use Rattle.rollout_rules.specs.Operations.{stand_after}
use Rattle.rollout_laws.proofs.Standing.{stand-most}
use Rattle.dependency_graph.specs.Progress.{Counts}
use Rattle.dependency_graph.proofs.Standings.{is_item-read}
use Rattle.dependency_graph.proofs.progress.stage_behind.Goals as goal

pub stand_behind-requires-clause-item : goal.stand_behind-requires-clause-item
stand_behind-requires-clause-item c =
    let same : c.args.plan.now ≡ c.lookup.result.now = c.requires.own ∙ sym c.lookup.ensures in
    is_item-read c.args.plan.now c.lookup.result.now c.args.item c.item.result same c.requires.item c.item.ensures

pub stand_behind-requires-clause-stage : goal.stand_behind-requires-clause-stage
stand_behind-requires-clause-stage c =
    let s = c.progress.inside in
    let n = c.args.item in
    let r = arc_value s.index in
    let same : r ≡ c.args.plan.now = ap (λ (v : Counts). v.rollout) c.progress.view_is ∙ sym c.requires.own in
    let lt : n < item_count r.problem = subst (λ (q : Rollout). n < item_count q.problem) (sym same) c.requires.item in
    let stood = c.stage-from.ensures ∙ c.progress.invariant.stands.each n lt in
    let most = stand-most r.problem r.plan (item_at r.problem n) (slice_index s.settled.items n) in
    omega (arith, stood, most, ap (λ (q : Rollout). last_stage q.plan) same)

pub returns : goal.returns
returns c =
    let s = c.progress.inside in
    let n = c.args.item in
    let r = arc_value s.index in
    let p = c.args.plan.now.problem in
    let plan = c.args.plan.now.plan in
    let j = slice_index c.args.progress.now.settled n in
    let same : r ≡ c.args.plan.now = ap (λ (v : Counts). v.rollout) c.progress.view_is ∙ sym c.requires.own in
    let lt : n < item_count r.problem = subst (λ (q : Rollout). n < item_count q.problem) (sym same) c.requires.item in
    let it : c.item.result ≡ item_at p n = c.item.ensures ∙ ap (λ (q : Rollout). item_at q.problem n) (c.lookup.ensures ∙ sym c.requires.own) in
    let stood : c.stage-from.result ≡ stand_after p plan (item_at p n) j =
    c.stage-from.ensures ∙ c.progress.invariant.stands.each n lt
    ∙ ap (λ (q : Rollout). stand_after q.problem q.plan (item_at q.problem n) (slice_index s.settled.items n)) same
    ∙ ap (λ (v : Counts). stand_after p plan (item_at p n) (slice_index v.settled n)) c.progress.view_is in
    c.stand_behind.ensures j (stood ∙ ap (λ i. stand_after p plan i j) (sym it)) ∙ ap (λ i. stand_after p plan i (j + 1)) it
