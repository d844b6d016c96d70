use Rattle.std.proofs.Common.{subst}
use Rattle.std.proofs.lemmas.Result.{IfOk-weaker}
use Rattle.rollout_rules.specs.Wan.{Problem, Plan}
use Rattle.plan_texts.specs.LookedUp.{AreLoadsIn}
use Rattle.plan_texts.proofs.Cells.{checked-from}
use Rattle.plan_texts.proofs.load_rows.LoadRows.of.Goals as goal

pub rows_of-requires : goal.rows_of-requires
rows_of-requires c =
    checked-from c.args.plan.now.problem c.problem.result.now c.args.plan.now.plan c.plan.result.now c.problem.ensures c.plan.ensures.part c.checked_plan_is_valid.ensures.network c.checked_plan_is_valid.ensures.valid

pub returns : goal.returns
returns c =
    IfOk-weaker c.rows_of.result _ _
    (λ rows are. subst (λ (q : Problem). AreLoadsIn rows q c.args.plan.now.plan) c.problem.ensures (subst (λ (w : Plan). AreLoadsIn rows c.problem.result.now w) c.plan.ensures.part are))
    c.rows_of.ensures
