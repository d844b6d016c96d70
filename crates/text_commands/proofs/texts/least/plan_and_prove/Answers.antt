use Rattle.std.proofs.Common.{Ok, Err, ap, sym, ◌∙◌}
use Rattle.std.proofs.lemmas.Result.{err_from_is_err_and}
use Rattle.rollout_rules.specs.Wan.{Rollout}
use Rattle.text_commands.specs.Answers.{shown_document}
use Rattle.text_commands.proofs.Leasts.{least-chosen, least-gives, least-safe, unplanned-least}
use Rattle.text_commands.proofs.texts.least.plan_and_prove.Goals as goal

pub returns-in_err-chosen-clause-gives : goal.returns-in_err-chosen-clause-gives
returns-in_err-chosen-clause-gives c =
    let p = err_from_is_err_and c.from_residual.result c.from_residual.ensures.1 in
    rw (p.1, p.2) (unplanned-least _ _ _ c.in_err-chosen.ensures.0 c.in_err-chosen.ensures.1)

pub prove_steps-requires : goal.prove_steps-requires
prove_steps-requires c = least-chosen c.args.problem c.in_ok-chosen.chosen.plan c.in_ok-chosen.chosen.rate_steps c.in_ok-chosen.ensures.0 c.in_ok-chosen.ensures.1

pub returns-in-Ok-clause-gives : goal.returns-in-Ok-clause-gives
returns-in-Ok-clause-gives c =
    let text = shown_document c.in_ok-chosen.chosen.plan c.in-Ok.claim in
    least-gives c.args.problem c.in_ok-chosen.chosen.plan c.in_ok-chosen.chosen.rate_steps c.in_ok-chosen.ensures.0 c.in_ok-chosen.ensures.1 (Ok text) c.in-Ok.ensures.gives
    ∙ ap (λ (o : Rollout). Ok (shown_document o c.in-Ok.claim)) (sym c.plan_of.ensures)

pub returns-in-Ok-clause-safe : goal.returns-in-Ok-clause-safe
returns-in-Ok-clause-safe c =
    least-safe c.args.problem c.in_ok-chosen.chosen.plan c.in_ok-chosen.chosen.rate_steps c.in_ok-chosen.ensures.0 c.in_ok-chosen.ensures.1 (Ok c.in-Ok.claim) c.in-Ok.ensures.least
    c.every_rollout_is_safe.ensures.valid c.every_rollout_is_safe.ensures.safe

pub returns-in-Err-clause-gives : goal.returns-in-Err-clause-gives
returns-in-Err-clause-gives c =
    least-gives c.args.problem c.in_ok-chosen.chosen.plan c.in_ok-chosen.chosen.rate_steps c.in_ok-chosen.ensures.0 c.in_ok-chosen.ensures.1 (Err c.in-Err.ending) c.in-Err.ensures.gives
