use Rattle.std.proofs.Common.{Ok, ap, sym, ◌∙◌}
use Rattle.text_commands.specs.Answers.{shown_document}
use Rattle.text_commands.proofs.Leasts.{accepted-least, answer-is, choice-free, choice-still}
use Rattle.text_commands.proofs.texts.least.seek_proof.Goals as goal

pub prove_least-requires-clause-free : goal.prove_least-requires-clause-free
prove_least-requires-clause-free c = choice-free c.args.plan.now.problem _ c.args.plan.now.plan c.args.q c.problem.ensures c.requires

pub prove_least-requires-clause-still : goal.prove_least-requires-clause-still
prove_least-requires-clause-still c = choice-still c.args.plan.now.problem _ c.args.plan.now.plan c.args.q c.problem.ensures c.requires

pub returns-in-Shown-clause-gives : goal.returns-in-Shown-clause-gives
returns-in-Shown-clause-gives c =
    answer-is c.args.plan.now.problem _ c.args.plan.now.plan c.args.q c.problem.ensures _ c.in-Shown.ensures.value
    ∙ ap (λ claim. Ok (shown_document c.args.plan.now claim)) (sym c.claim_with.ensures)

pub returns-in-Shown-clause-least : goal.returns-in-Shown-clause-least
returns-in-Shown-clause-least c =
    accepted-least c.args.plan.now.problem _ c.args.plan.now.plan c.args.q c.problem.ensures _ c.checked_plan_is_valid.ensures.network c.in-Shown.ensures.worth

pub returns-in-Fewer-clause-gives : goal.returns-in-Fewer-clause-gives
returns-in-Fewer-clause-gives c = answer-is c.args.plan.now.problem _ c.args.plan.now.plan c.args.q c.problem.ensures _ c.in-Fewer.ensures.value

pub returns-in-Point-clause-gives : goal.returns-in-Point-clause-gives
returns-in-Point-clause-gives c = answer-is c.args.plan.now.problem _ c.args.plan.now.plan c.args.q c.problem.ensures _ c.in-Point.ensures.value

pub returns-in-Wide-clause-gives : goal.returns-in-Wide-clause-gives
returns-in-Wide-clause-gives c = answer-is c.args.plan.now.problem _ c.args.plan.now.plan c.args.q c.problem.ensures _ c.in-Wide.ensures.value

pub returns-in-Overflow-clause-gives : goal.returns-in-Overflow-clause-gives
returns-in-Overflow-clause-gives c = answer-is c.args.plan.now.problem _ c.args.plan.now.plan c.args.q c.problem.ensures _ c.in-Overflow.ensures.value

pub returns-in-Spent-clause-gives : goal.returns-in-Spent-clause-gives
returns-in-Spent-clause-gives c = answer-is c.args.plan.now.problem _ c.args.plan.now.plan c.args.q c.problem.ensures _ c.in-Spent.ensures.value
