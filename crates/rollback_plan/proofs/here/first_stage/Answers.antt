use Rattle.std.proofs.Common.{◌∙◌, sym, subst, arith, le_refl}
use Rattle.rollout_rules.specs.Network.{IsNetwork}
use Rattle.rollout_rules.specs.Valid.{is_valid_plan}
use Rattle.rollout_rules.specs.Wan.{Rollout}
use Rattle.std.specs.Prelude.{◌≡◌, true}
use Rattle.rollback_plan.specs.Levels.{ceiling}
use Rattle.rollback_plan.specs.Turns.{TurnsFirstAt, may_turn}
use Rattle.rollback_plan.proofs.Ceilings.{ceiling-most}
use Rattle.rollback_plan.proofs.TurnStages.{one-more, turns-at_ceiling}
use Rattle.rollback_plan.proofs.here.first_stage.Goals as goal

pub may_turn-requires-clause-stage : goal.may_turn-requires-clause-stage
may_turn-requires-clause-stage c =
    let g = c.args.graph.now in
    omega (arith, c.loop-stage-test.true, c.ceiling-most.ensures, ceiling-most g.rollout.problem g.rollout.plan g.history c.requires.legal)

pub returns-then-may : goal.returns-then-may
returns-then-may c = record {
  sound = sym c.in_ok-may.ensures ∙ c.if-may.true;
  most = omega (arith, c.loop-stage-test.true, c.ceiling-most.ensures);
  first = c.loop-stage.invariant;
}

pub loop-stage-preserved : goal.loop-stage-preserved
loop-stage-preserved c = λ t lt.
    let g = c.args.graph.now in
    one-more (may_turn g.rollout.problem g.rollout.plan g.history) c.loop-stage.stage c.loop-stage.invariant (sym c.in_ok-may.ensures ∙ c.if-may.false) t (omega (arith, lt))

pub returns : goal.returns
returns c =
    let g = c.args.graph.now in
    let net : IsNetwork g.rollout.problem = subst (λ (r : Rollout). IsNetwork r.problem) c.plan.ensures c.checked_plan_is_valid.ensures.network in
    let valid : is_valid_plan g.rollout.problem g.rollout.plan ≡ true = subst (λ (r : Rollout). is_valid_plan r.problem r.plan ≡ true) c.plan.ensures c.checked_plan_is_valid.ensures.valid in
    let here : TurnsFirstAt g.rollout.problem g.rollout.plan g.history (ceiling g.rollout.problem g.rollout.plan g.history) = record {
      sound = turns-at_ceiling g.rollout.problem g.rollout.plan g.history net valid c.requires.legal;
      most = le_refl (ceiling g.rollout.problem g.rollout.plan g.history);
      first = λ t lt. c.loop-stage.invariant t (omega (arith, lt, c.ceiling-most.ensures, c.loop-stage-test.false));
    } in
    subst (TurnsFirstAt g.rollout.problem g.rollout.plan g.history) (sym c.ceiling-most.ensures) here
