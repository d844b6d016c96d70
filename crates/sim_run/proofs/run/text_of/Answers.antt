use Rattle.order_policy.specs.Answers.{rank_by}
use Rattle.sim_run.proofs.Whole.{text_is}
use Rattle.sim_run.proofs.run.text_of.Goals as goal

pub returns : goal.returns
returns g c =
    text_is (rank_by c.args.policy.now.answers) c.args.script.now c.args.rehearsal.now c.push_acts.new.rehearsal c.in_ok-text.text c.push_acts.new.text c.push_end.new.text
    c.in_ok-text.ensures c.in_ok-push_acts.ensures.state c.in_ok-push_acts.ensures.text c.in_ok-push_end.ensures
