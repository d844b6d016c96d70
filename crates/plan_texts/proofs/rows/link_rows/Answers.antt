use Rattle.std.proofs.Common.{◌≡◌, length, ap, ◌∙◌, arith}
use Rattle.rollout_rules.specs.Sums.{list_below}
use Rattle.rollout_rules.specs.Items.{load}
use Rattle.dependency_graph.proofs.StageRows.{push-below}
use Rattle.plan_texts.specs.Rows.{larger_at, ahead_of}
use Rattle.plan_texts.proofs.rows.link_rows.Goals as goal

pub loop-s-preserved : goal.loop-s-preserved
loop-s-preserved c =
    let p = c.args.problem.now in
    let plan = c.args.plan.now in
    push-below c.loop-s.s (λ s. list_below (length p.links) (load p (larger_at plan s (ahead_of plan c.args.ahead s)))) _ _ _ c.loop-s.invariant c.in_ok-push.ensures.ok
    (c.in_ok-row.ensures ∙ ap (λ u. list_below (length p.links) (load p (larger_at plan c.loop-s.s u))) c.stage_ahead-next.ensures.value)

pub returns : goal.returns
returns c =
    let p = c.args.problem.now in
    let plan = c.args.plan.now in
    let all : c.loop-s.s ≡ length plan.stages = grind arith in
    c.loop-s.invariant ∙ ap (λ n. list_below n (λ s. list_below (length p.links) (load p (larger_at plan s (ahead_of plan c.args.ahead s))))) all
