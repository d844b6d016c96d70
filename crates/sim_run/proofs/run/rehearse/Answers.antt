use Rattle.order_policy.specs.Answers.{rank_by}
use Rattle.sim_run.proofs.Whole.{first_text}
use Rattle.sim_run.proofs.run.rehearse.Goals as goal

pub returns-in-Ok : goal.returns-in-Ok
returns-in-Ok g c =
    first_text c.args.plan (rank_by c.args.policy.now.answers) c.args.script.now c.in-Ok.rehearsal c.of_rehearsal.result c.in-Ok.ensures c.of_rehearsal.ensures
