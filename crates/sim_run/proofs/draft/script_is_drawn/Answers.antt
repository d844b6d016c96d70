use Rattle.case_gen.specs.Draws.{seeded}
use Rattle.order_policy.specs.Answers.{rank_by}
use Rattle.sim_run.proofs.draft.script_is_drawn.Goals as goal

pub returns : goal.returns
returns g c =
    c.a_drawn_script_happens.ensures c.args.plan.now.problem c.args.plan.now.plan (rank_by c.args.policy.now.answers) (seeded c.args.shape.now.seed) c.args.shape.now.events
    c.checked_plan_is_valid.ensures.network c.checked_plan_is_valid.ensures.valid
