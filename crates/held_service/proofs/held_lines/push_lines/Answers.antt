use Rattle.std.proofs.Common.{◌≡◌, ◌++◌, ap, ◌∙◌, arith}
use Rattle.rollout_rules.specs.Items.{item_count}
use Rattle.rollout_rules.specs.Wan.{Rollout}
use Rattle.held_service.specs.HeldText.{line_at, lines_below}
use Rattle.held_service.proofs.Lined.{line-more}
use Rattle.held_service.proofs.held_lines.push_lines.Goals as goal

pub push_line_at-requires-clause-number : goal.push_line_at-requires-clause-number
push_line_at-requires-clause-number c = omega (arith, c.loop-number-test.true, c.item_count-number-end.ensures, ap (λ (r : Rollout). item_count r.problem) c.requires.index)

pub loop-number-preserved : goal.loop-number-preserved
loop-number-preserved c =
    let r = c.args.plan.now in
    line-more (line_at r.problem r.plan c.args.notes.now) c.loop-number.number c.args.text.now c.loop-number.text c.push_line_at.new.text c.loop-number.invariant c.in_ok-push_line_at.ensures

pub returns : goal.returns
returns c =
    let r = c.args.plan.now in
    let all : c.loop-number.number ≡ item_count r.problem = omega (arith, c.loop-number-test.false, c.loop-number.auto.number-end, c.item_count-number-end.ensures, ap (λ (q : Rollout). item_count q.problem) c.requires.index) in
    c.loop-number.invariant ∙ ap (λ n. c.args.text.now ++ lines_below r.problem r.plan c.args.notes.now n) all
