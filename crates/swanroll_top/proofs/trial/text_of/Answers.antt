use Rattle.std.proofs.Common.{ap, ◌∙◌}
use Rattle.std.proofs.lemmas.Result.{err_from_is_err_and}
use Rattle.rand_pcg.specs.Lcg.{Lcg}
use Rattle.order_policy.specs.Answers.{rank_by}
use Rattle.case_gen.specs.Cases.{after_case, case}
use Rattle.swanroll_top.proofs.Tried.{tried-text, tried-unplanned}
use Rattle.swanroll_top.proofs.trial.text_of.Goals as goal

pub returns-in_err-problem : goal.returns-in_err-problem
returns-in_err-problem g c = let p = err_from_is_err_and c.from_residual.result c.from_residual.ensures.1 in rw (p.1, p.2) tt

pub returns-in_err-chosen : goal.returns-in_err-chosen
returns-in_err-chosen g c =
    let s = c.args.shape.now in
    let p = err_from_is_err_and c.from_residual-in_err-chosen.result c.from_residual-in_err-chosen.ensures.1 in
    rw (p.1, p.2) (tried-unplanned (rank_by c.args.policy.now.answers) s _ _ _ (c.in_ok-problem.ensures.case ∙ ap (λ (d : Lcg). case s.k s.switches s.flows d) c.new-draws.ensures) c.in_err-chosen.ensures.0 c.in_err-chosen.ensures.1)

pub returns : goal.returns
returns g c =
    let s = c.args.shape.now in
    tried-text (rank_by c.args.policy.now.answers) s _ _ _ _ _ (c.in_ok-problem.ensures.case ∙ ap (λ (d : Lcg). case s.k s.switches s.flows d) c.new-draws.ensures) (c.in_ok-problem.ensures.behind ∙ ap (λ (d : Lcg). after_case s.flows d) c.new-draws.ensures)
    (record { same = c.in_ok-chosen.ensures.0; is_chosen = c.in_ok-chosen.ensures.1 }) c.in_ok-run_trial.ensures.text
