use Rattle.rollback_plan.proofs.Networks.{back-is_network}
use Rattle.rollback_plan.proofs.Ways.{back-is_valid, problem-twice, plan-twice}
use Rattle.rollback_plan.proofs.way_back.the_way_back_is_valid.Goals as goal

pub returns : goal.returns
returns c = record { network = back-is_network; valid = back-is_valid; problem_again = problem-twice; plan_again = plan-twice }
