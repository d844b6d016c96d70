use Rattle.fewest_plan.proofs.Arrivals.{accepted-some, accepted-none}
use Rattle.fewest_plan.proofs.walking.accept.Goals as goal

pub returns-in-Some : goal.returns-in-Some
returns-in-Some c = accepted-some c.args.problem.now c.args.rate_steps c.args.plan c.in_ok-found.found c.in_ok-found.ensures c.in-Some.plan c.in-Some.is

pub returns-in-None : goal.returns-in-None
returns-in-None c = accepted-none c.args.problem.now c.args.rate_steps c.args.plan c.in_ok-found.found c.in_ok-found.ensures c.in-None.is
