use Rattle.std.proofs.Common.{refl, sym, ap, ◌∙◌, subst}
use Rattle.rollout_rules.specs.Wan.{Problem}
use Rattle.wan_model.specs.Rates.{AreRates}
use Rattle.retarget_plan.specs.Copies.{AreCapacities}
use Rattle.retarget_plan.specs.Left.{remade}
use Rattle.retarget_plan.proofs.Found.{capacities-are, new-are, old-are}
use Rattle.retarget_plan.proofs.leaving.copy_problem.Goals as goal

pub remake-requires-clause-capacities : goal.remake-requires-clause-capacities
remake-requires-clause-capacities c =
    subst (λ (p : Problem). AreCapacities p c.args.capacities.now) (sym c.problem-problem.ensures) (capacities-are c.args.plan.now.problem c.args.capacities.now c.args.old.now c.args.new.now c.requires.rows c.requires.small)

pub remake-requires-clause-old : goal.remake-requires-clause-old
remake-requires-clause-old c =
    subst (λ (p : Problem). AreRates p c.args.old.now) (sym c.problem-problem.ensures) (old-are c.args.plan.now.problem c.args.capacities.now c.args.old.now c.args.new.now c.requires.rows c.requires.small)

pub remake-requires-clause-new : goal.remake-requires-clause-new
remake-requires-clause-new c =
    subst (λ (p : Problem). AreRates p c.args.new.now) (sym c.problem-problem.ensures) (new-are c.args.plan.now.problem c.args.capacities.now c.args.old.now c.args.new.now c.requires.rows c.requires.small)

pub returns : goal.returns
returns c = (refl, c.in_ok-copy.ensures ∙ ap (λ (p : Problem). remade p c.args.capacities.now c.args.old.now c.args.new.now) c.problem-problem.ensures)
