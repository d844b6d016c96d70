use Rattle.std.proofs.Common.{◌≡◌, IfOk, subst}
use Rattle.lp_proof.specs.Shown.{shows_least}
use Rattle.text_commands.proofs.texts.check.passes.Goals as goal

pub returns : goal.returns
returns c = subst (λ p. IfOk c.check_proof.result (λ shown. shown ≡ shows_least p c.args.q c.args.proof.now)) c.problem.ensures c.check_proof.ensures
