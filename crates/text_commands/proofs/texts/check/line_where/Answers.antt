use Rattle.std.proofs.Common.{sym, ◌∙◌, subst}
use Rattle.text_commands.specs.Runs.{Gives}
use Rattle.text_commands.specs.Safety.{HasLeast}
use Rattle.text_commands.proofs.Claims.{claim-shown, claim-unshown, ok-anyway}
use Rattle.text_commands.proofs.texts.check.line_where.Goals as goal

pub none_has_fewer-requires : goal.none_has_fewer-requires
none_has_fewer-requires c = sym c.requires ∙ c.if-shown.true

pub returns-then-shown-clause-gives : goal.returns-then-shown-clause-gives
returns-then-shown-clause-gives c =
    subst (λ r. Gives c.line_with.result r) (sym (claim-shown c.args.plan.now c.args.claim.now (sym c.requires ∙ c.if-shown.true))) c.line_with.ensures

pub returns-then-shown-clause-least : goal.returns-then-shown-clause-least
returns-then-shown-clause-least c = ok-anyway c.line_with.result (HasLeast c.args.plan.now.problem c.args.plan.now.plan) c.none_has_fewer.ensures

pub returns-clause-gives : goal.returns-clause-gives
returns-clause-gives c = claim-unshown c.args.plan.now c.args.claim.now _ (sym c.requires ∙ c.if-shown.false) c.of-place.ensures
