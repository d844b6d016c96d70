use Rattle.order_policy.specs.Answers.{rank_by}
use Rattle.text_commands.proofs.Documents.{checked-rehearsed, sealed-rehearsal}
use Rattle.text_commands.proofs.texts.sim.rehearse.Goals as goal

pub returns-clause-gives : goal.returns-clause-gives
returns-clause-gives g c = checked-rehearsed _ _ _ _ c.in_ok-plan.ensures.gives c.in_ok-run_script.ensures.text

pub returns-clause-safe : goal.returns-clause-safe
returns-clause-safe g c =
    sealed-rehearsal (rank_by c.args.policy.now.answers) (record { document = c.args.document; script = c.args.script.now }) c.in_ok-plan.plan
    c.in_ok-plan.ensures.sealed c.in_ok-run_script.ensures.safe
