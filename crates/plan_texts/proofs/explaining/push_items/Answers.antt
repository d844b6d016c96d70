use Rattle.std.proofs.Common.{◌≡◌, ap, arith}
use Rattle.rollout_rules.specs.Wan.{Rollout}
use Rattle.rollout_rules.specs.Items.{item_count}
use Rattle.text_writer.proofs.Pushing.{said_so}
use Rattle.plan_texts.specs.Explain.{item_lines, lines_of_items}
use Rattle.plan_texts.proofs.Pushes.{row-pushed}
use Rattle.plan_texts.proofs.explaining.push_items.Goals as goal

pub push_item-requires-clause-lookup : goal.push_item-requires-clause-lookup
push_item-requires-clause-lookup g c = c.requires

pub push_item-requires-clause-number : goal.push_item-requires-clause-number
push_item-requires-clause-number g c = omega (arith, c.loop-number-test.true, c.item_count-number-end.ensures, ap (λ (r : Rollout). item_count r.problem) c.requires.index)

pub loop-number-init : goal.loop-number-init
loop-number-init g c = g.met.P.Pieces.nothing_pushed c.args.text.now

pub loop-number-preserved : goal.loop-number-preserved
loop-number-preserved g c =
    let r = c.args.plan.now in
    row-pushed g.P.Pieces.pushes g.met.P.Pieces.pushed_further (item_lines r.problem r.plan) (λ n. n) c.loop-number.number c.loop-number.invariant c.push_item.ensures

pub returns : goal.returns
returns g c =
    let r = c.args.plan.now in
    let all : c.loop-number.number ≡ item_count r.problem = omega (arith, c.loop-number-test.false, c.loop-number.auto.number-end, c.item_count-number-end.ensures, ap (λ (q : Rollout). item_count q.problem) c.requires.index) in
    said_so g.P.Pieces.pushes (ap (λ n. lines_of_items r.problem r.plan n) all) c.loop-number.invariant
