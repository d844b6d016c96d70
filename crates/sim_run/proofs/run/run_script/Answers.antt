use Rattle.std.proofs.Common.{◌∙◌, ap}
use Rattle.order_policy.specs.Answers.{rank_by}
use Rattle.sim_run.specs.Script.{script_text}
use Rattle.sim_run.proofs.Whole.{whole_text}
use Rattle.sim_run.proofs.run.run_script.Goals as goal

pub returns-clause-text : goal.returns-clause-text
returns-clause-text g c =
    c.in_ok-text.ensures
    ∙ whole_text c.args.plan (rank_by c.args.policy.now.answers) c.as_slice.result.now
    ∙ ap (λ script. script_text c.args.plan.problem c.args.plan.plan (rank_by c.args.policy.now.answers) script) c.as_slice.ensures
