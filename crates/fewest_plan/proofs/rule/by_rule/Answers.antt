use Rattle.std.proofs.Common.{sym, ap, ◌∙◌}
use Rattle.fewest_plan.specs.Fewest.{by_rule}
use Rattle.fewest_plan.proofs.Chosen.{by_rule-none}
use Rattle.fewest_plan.proofs.rule.by_rule.Goals as goal

pub returns-then-most-eq0 : goal.returns-then-most-eq0
returns-then-most-eq0 c = sym (ap (by_rule c.args.problem.now) c.if-most-eq0.true ∙ by_rule-none c.args.problem.now)
