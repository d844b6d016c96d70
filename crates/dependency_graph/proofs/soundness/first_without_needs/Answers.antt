use Rattle.std.proofs.Common.{◌≡◌, ◌<◌, true, leb-true, ap, subst, arith}
use Rattle.rollout_rules.specs.Sums.{all_below}
use Rattle.rollout_rules.specs.Wan.{Rollout}
use Rattle.rollout_rules.specs.Items.{item_count}
use Rattle.rollout_rules.proofs.Below.{all_below-at}
use Rattle.dependency_graph.specs.Soundness.{has_settled, had_its_needs}
use Rattle.dependency_graph.proofs.FirstFaults.{lacks-all}
use Rattle.dependency_graph.proofs.Walks.{all_below-more}
use Rattle.dependency_graph.proofs.soundness.first_without_needs.Goals as goal

pub first_lacking-requires-clause-exist : goal.first_lacking-requires-clause-exist
first_lacking-requires-clause-exist c =
    let r = c.args.plan.now in
    let n = c.loop-item.item in
    let inside : n < item_count r.problem = omega (arith, c.item_count-item-end.ensures, c.loop-item-test.true, ap (λ (q : Rollout). item_count q.problem) c.requires.own) in
    leb-true _ _ (all_below-at (item_count r.problem) (has_settled r c.args.progress.now) c.requires.exist n inside)

pub returns-in-Some : goal.returns-in-Some
returns-in-Some c =
    let r = c.args.plan.now in
    let n = c.loop-item.item in
    let inside : n < item_count r.problem = omega (arith, c.item_count-item-end.ensures, c.loop-item-test.true, ap (λ (q : Rollout). item_count q.problem) c.requires.own) in
    record {
      item = record { there = inside; fails = lacks-all r c.args.progress.now n c.in-Some.number c.in-Some.ensures; before = c.loop-item.invariant };
      operation = c.in-Some.ensures;
    }

pub loop-item-preserved : goal.loop-item-preserved
loop-item-preserved c = all_below-more (had_its_needs c.args.plan.now c.args.progress.now) c.loop-item.item c.loop-item.invariant c.in-None.ensures

pub returns : goal.returns
returns c =
    let r = c.args.plan.now in
    let end : c.loop-item.item ≡ item_count r.problem = omega (arith, c.item_count-item-end.ensures, c.loop-item-test.false, c.loop-item.auto.item-end, ap (λ (q : Rollout). item_count q.problem) c.requires.own) in
    subst (λ n. all_below n (had_its_needs r c.args.progress.now) ≡ true) end c.loop-item.invariant
