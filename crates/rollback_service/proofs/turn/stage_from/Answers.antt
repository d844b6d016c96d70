use Rattle.std.proofs.Common.{sym, subst, arith}
use Rattle.std.proofs.lemmas.Result.{IfOk-weaker}
use Rattle.rollback_plan.proofs.Ceilings.{ceiling-most}
use Rattle.rollback_service.specs.Levellings.{TurnsFrom}
use Rattle.rollback_service.specs.declared.origin.BackFrom.{BackFrom}
use Rattle.rollback_service.proofs.turn.stage_from.Goals as goal

pub returns-in-Level-clause-turns : goal.returns-in-Level-clause-turns
returns-in-Level-clause-turns c =
    let g = c.args.graph.now in
    subst (λ (o : BackFrom). TurnsFrom o g.rollout g.history c.ceiling.result) (sym c.in-Level.is) c.ceiling.ensures

pub returns-in-Level-clause-most : goal.returns-in-Level-clause-most
returns-in-Level-clause-most c =
    let g = c.args.graph.now in
    omega (arith, c.ceiling.ensures, ceiling-most g.rollout.problem g.rollout.plan g.history c.requires)

pub returns-in-Here-clause-turns : goal.returns-in-Here-clause-turns
returns-in-Here-clause-turns c =
    let g = c.args.graph.now in
    IfOk-weaker c.turn_stage.result _ _ (λ stage first. subst (λ (o : BackFrom). TurnsFrom o g.rollout g.history stage) (sym c.in-Here.is) first) c.turn_stage.ensures

pub returns-in-Here-clause-most : goal.returns-in-Here-clause-most
returns-in-Here-clause-most c =
    let g = c.args.graph.now in
    IfOk-weaker c.turn_stage.result _ _ (λ stage first. omega (arith, first.most, ceiling-most g.rollout.problem g.rollout.plan g.history c.requires)) c.turn_stage.ensures
