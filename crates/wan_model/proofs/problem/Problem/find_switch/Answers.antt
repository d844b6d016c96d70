use Rattle.std.proofs.Common.{◌∙◌, sym, ap}
use Rattle.rollout_rules.specs.Building.{find_switch}
use Rattle.wan_model.proofs.Numbers.{numbers_switch}
use Rattle.wan_model.proofs.problem.Problem.find_switch.Goals as goal

pub returns-in_err-number-clause-number : goal.returns-in_err-number-clause-number
returns-in_err-number-clause-number c =
    let found = c.find.ensures ∙ numbers_switch _ _ _ _ c.self.invariant.1 c.args.name.now ∙ ap (λ p. find_switch p c.args.name.now) c.self.view_is in
    c.from_residual.ensures ∙ sym c.in_err-number.was ∙ found

pub returns-clause-number : goal.returns-clause-number
returns-clause-number c =
    let found = c.find.ensures ∙ numbers_switch _ _ _ _ c.self.invariant.1 c.args.name.now ∙ ap (λ p. find_switch p c.args.name.now) c.self.view_is in
    sym c.in_ok-number.was ∙ found
