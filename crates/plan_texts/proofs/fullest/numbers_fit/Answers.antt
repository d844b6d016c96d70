use Rattle.plan_texts.proofs.Greatest.{room-few, total-few}
use Rattle.plan_texts.proofs.fullest.numbers_fit.Goals as goal

pub returns-clause-rooms : goal.returns-clause-rooms
returns-clause-rooms c = λ l lt. room-few c.args.problem.now c.args.plan.now c.requires l lt

pub returns-clause-totals : goal.returns-clause-totals
returns-clause-totals c = λ l lt. total-few c.args.problem.now c.args.plan.now c.requires l lt
