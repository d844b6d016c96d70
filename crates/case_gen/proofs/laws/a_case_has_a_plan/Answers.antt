use Rattle.case_gen.proofs.Planned.{has_plan}
use Rattle.case_gen.proofs.laws.a_case_has_a_plan.Goals as goal

pub returns : goal.returns
returns c = has_plan
