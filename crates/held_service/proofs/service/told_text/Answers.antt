use Rattle.port_session.proofs.Chaining.{if_err}
use Rattle.std.proofs.Common.{◌≡◌, refl}
use Rattle.held_service.specs.declared.not_told.NotTold.{NotTold}
use Rattle.held_service.specs.declared.not_told.NotTold.TheVariants as cause
use Rattle.held_service.proofs.service.told_text.Goals as goal

pub returns-in_err-text-clause-err : goal.returns-in_err-text-clause-err
returns-in_err-text-clause-err c = if_err c.from_residual.result cause.Memory (λ (why : NotTold). why ≡ cause.Memory) c.from_residual.ensures.1 refl
