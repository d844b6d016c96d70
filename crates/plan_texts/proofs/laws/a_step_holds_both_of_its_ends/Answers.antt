use Rattle.plan_texts.proofs.Between.{between}
use Rattle.plan_texts.proofs.laws.a_step_holds_both_of_its_ends.Goals as goal

pub returns : goal.returns
returns c =
    λ s r low here. between c.args.plan.now.problem c.args.plan.now.plan c.checked_plan_is_valid.ensures.network c.checked_plan_is_valid.ensures.valid s r low here
