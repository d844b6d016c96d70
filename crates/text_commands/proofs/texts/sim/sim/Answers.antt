use Rattle.std.proofs.Common.{Ok, ap, sym, ◌∙◌}
use Rattle.std.proofs.lemmas.Result.{err_from_is_err_and}
use Rattle.text_commands.proofs.Commands.{sim-refuses, sim-answers, read-rehearses-safely}
use Rattle.text_commands.proofs.texts.sim.sim.Goals as goal

pub returns-in_err-document-clause-gives : goal.returns-in_err-document-clause-gives
returns-in_err-document-clause-gives g c = let p = err_from_is_err_and c.from_residual.result c.from_residual.ensures.1 in rw (p.1, p.2) (sim-refuses _ _ _ c.in_err-document.ensures)

pub returns-clause-gives : goal.returns-clause-gives
returns-clause-gives g c = rw (sim-answers _ _ _ (c.in_ok-document.ensures ∙ ap Ok (sym c.document.view_is))) c.rehearse.ensures.gives

pub returns-clause-safe : goal.returns-clause-safe
returns-clause-safe g c = read-rehearses-safely _ _ _ c.rehearse.result (c.in_ok-document.ensures ∙ ap Ok (sym c.document.view_is)) c.rehearse.ensures.safe
