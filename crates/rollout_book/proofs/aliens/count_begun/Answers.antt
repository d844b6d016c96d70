use Rattle.std.proofs.Common.{rules, ◌+◌, ◌∙◌, sym, arith, eqb-true, Fits, w32}
use Rattle.std.proofs.lemmas.Bool.{eqb-false}
use Rattle.rollout_rules.specs.History.{begun, settled}
use Rattle.rollout_laws.proofs.Histories.{is_counted}
use Rattle.rollout_book.proofs.aliens.count_begun.Goals as goal

pub overflow_add-result : goal.overflow_add-result
overflow_add-result c =
    let g = c.args.graph.now in
    let n = c.args.item in
    let f : Fits w32 c.op_count.result = search rules in
    omega (arith, f, c.op_count.ensures, c.settled.ensures, (is_counted g.rollout.problem g.rollout.plan g.history c.requires.legal n).exist c.requires.item, eqb-true (begun g.history n) (settled g.history n + 1) (sym c.flying.ensures ∙ c.if-flying.true))

pub returns-else-flying : goal.returns-else-flying
returns-else-flying c =
    let g = c.args.graph.now in
    let n = c.args.item in
    let counted = is_counted g.rollout.problem g.rollout.plan g.history c.requires.legal n in
    omega (arith, c.settled-else-flying.ensures, counted.settled_begun, counted.one_flies, eqb-false (begun g.history n) (settled g.history n + 1) (sym c.flying.ensures ∙ c.if-flying.false))
