use Rattle.std.proofs.lemmas.Result.{on_ok_weaker}
use Rattle.order_policy.specs.Answers.{rank_by}
use Rattle.sim_run.proofs.Drafting.{chosen-act, chosen-nothing}
use Rattle.sim_run.proofs.draft.draw_next.Goals as goal

pub returns-in-Some : goal.returns-in-Some
returns-in-Some g c =
    on_ok_weaker c.join.result
    (chosen-act (rank_by c.args.policy.now.answers) c.args.rehearsal.now c.args.script.now c.args.draws.now c.next_act.new.draws c.in-Some.ensures.left c.in-Some.act c.in-Some.ensures.chosen c.join.new.rehearsal c.join.new.script)
    c.join.ensures

pub returns-in-None : goal.returns-in-None
returns-in-None g c =
    chosen-nothing (rank_by c.args.policy.now.answers) c.args.rehearsal.now c.args.script.now c.args.draws.now c.next_act.new.draws c.in-None.ensures.left c.in-None.ensures.chosen
