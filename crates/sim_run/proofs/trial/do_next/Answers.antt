use Rattle.std.proofs.lemmas.Result.{IfOk-weaker}
use Rattle.order_policy.specs.Answers.{rank_by}
use Rattle.sim_run.proofs.Trying.{did-act, did-nothing}
use Rattle.sim_run.proofs.trial.do_next.Goals as goal

pub returns-in-Some : goal.returns-in-Some
returns-in-Some g c =
    IfOk-weaker c.do_act.result _ _
    (λ n did. did-act (rank_by c.args.policy.now.answers) c.args.rehearsal.now c.args.draws.now c.next_act.new.draws c.in-Some.ensures.left c.in-Some.act c.in-Some.ensures.chosen c.do_act.new.rehearsal did.0 n did.1)
    c.do_act.ensures

pub returns-in-None : goal.returns-in-None
returns-in-None g c = did-nothing (rank_by c.args.policy.now.answers) c.args.rehearsal.now c.args.draws.now c.next_act.new.draws c.in-None.ensures.left c.in-None.ensures.chosen
