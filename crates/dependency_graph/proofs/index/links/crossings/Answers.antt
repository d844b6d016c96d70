use Rattle.std.proofs.Common.{◌≡◌, ◌∙◌, length, subst, ap, arith}
use Rattle.rollout_rules.specs.Wan.{Problem}
use Rattle.dependency_graph.specs.Index.{AreEmpty}
use Rattle.dependency_graph.proofs.Passes.{passes-start, passes-all}
use Rattle.dependency_graph.proofs.index.links.crossings.Goals as goal

pub loop-t-init : goal.loop-t-init
loop-t-init c =
    let p = c.args.plan.now.problem in
    let count : length c.links.result.now ≡ length p.links = ap length c.links.ensures.list ∙ ap (λ (q : Problem). length q.links) c.problem.ensures in
    passes-start p c.in_ok-rows.rows.items (subst (λ n. AreEmpty n c.in_ok-rows.rows.items) count c.in_ok-rows.ensures)

pub returns : goal.returns
returns c =
    let p = c.args.plan.now.problem in
    let count : length c.tunnels-t-end.result.now ≡ length p.tunnels = ap length c.tunnels-t-end.ensures.list ∙ ap (λ (q : Problem). length q.tunnels) c.problem-2.ensures in
    let all : c.loop-t.t ≡ length p.tunnels = omega (arith, count, c.loop-t-test.false, c.loop-t.auto.t-end) in
    passes-all p c.loop-t.t c.loop-t.rows.items all c.loop-t.invariant
