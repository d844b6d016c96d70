use Rattle.std.proofs.lemmas.Result.{IfOk-weaker}
use Rattle.fewest_plan.proofs.Chosen.{by_rule-is}
use Rattle.fewest_plan.proofs.rule.by_both.Goals as goal

pub returns : goal.returns
returns c =
    IfOk-weaker c.least_by_relief.result _ _ (λ best e. by_rule-is c.args.problem.now c.args.most c.in_ok-found.found best c.in_ok-found.ensures e) c.least_by_relief.ensures
