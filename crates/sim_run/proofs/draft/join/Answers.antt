use Rattle.std.proofs.Common.{sym, ◌∙◌}
use Rattle.std.proofs.lemmas.Result.{on_ok_weaker}
use Rattle.order_policy.specs.Answers.{rank_by}
use Rattle.sim_run.specs.Drafts.{draft_in}
use Rattle.sim_run.proofs.Drafting.{act-joins, act-stays-out, joins-happens, joins-in}
use Rattle.sim_run.proofs.draft.join.Goals as goal

pub add_act-requires-clause-happens : goal.add_act-requires-clause-happens
add_act-requires-clause-happens g c =
    joins-happens c.args.rehearsal.now.rollout.problem (draft_in c.args.rehearsal.now c.args.script.now) c.args.act
    (joins-in c.args.rehearsal.now c.args.script.now c.as_slice.result.now c.args.act c.as_slice.ensures ∙ sym c.joins.ensures ∙ c.if-joins.true)

pub returns-then-joins : goal.returns-then-joins
returns-then-joins g c =
    on_ok_weaker c.add_act.result
    (act-joins (rank_by c.args.policy.now.answers) c.args.rehearsal.now c.args.script.now c.args.act
    (joins-in c.args.rehearsal.now c.args.script.now c.as_slice.result.now c.args.act c.as_slice.ensures ∙ sym c.joins.ensures ∙ c.if-joins.true) c.add_act.new.rehearsal c.add_act.new.script)
    c.add_act.ensures

pub returns : goal.returns
returns g c =
    act-stays-out (rank_by c.args.policy.now.answers) c.args.rehearsal.now c.args.script.now c.args.act
    (joins-in c.args.rehearsal.now c.args.script.now c.as_slice.result.now c.args.act c.as_slice.ensures ∙ sym c.joins.ensures ∙ c.if-joins.false)
