use Rattle.std.proofs.Common.{ap₂, sym, subst}
use Rattle.rollout_rules.specs.Wan.{Problem, Plan}
use Rattle.text_writer.proofs.Pushing.{said_so}
use Rattle.plan_texts.specs.Loads.{loads_text}
use Rattle.plan_texts.specs.LookedUp.{AreLoadsIn}
use Rattle.plan_texts.proofs.Cells.{checked-from}
use Rattle.plan_texts.proofs.load_lines.push_loads.Goals as goal

pub push_all-requires-clause-checked : goal.push_all-requires-clause-checked
push_all-requires-clause-checked g c =
    checked-from c.args.plan.now.problem c.problem.result.now c.args.plan.now.plan c.plan.result.now c.problem.ensures c.plan.ensures.part c.checked_plan_is_valid.ensures.network c.checked_plan_is_valid.ensures.valid

pub push_all-requires-clause-rows : goal.push_all-requires-clause-rows
push_all-requires-clause-rows g c =
    subst (λ (q : Problem). AreLoadsIn c.args.rows.now q c.plan.result.now) (sym c.problem.ensures) (subst (λ (w : Plan). AreLoadsIn c.args.rows.now c.args.plan.now.problem w) (sym c.plan.ensures.part) c.requires)

pub returns : goal.returns
returns g c = said_so g.P.Pieces.pushes (ap₂ loads_text c.problem.ensures c.plan.ensures.part) c.push_all.ensures
