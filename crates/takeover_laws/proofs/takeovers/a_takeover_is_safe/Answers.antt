use Rattle.takeover_laws.proofs.Ends.{every_takeover_is_safe}
use Rattle.takeover_laws.proofs.takeovers.a_takeover_is_safe.Goals as goal

pub returns : goal.returns
returns c = λ p plan start migration first es net valid sound firsts. every_takeover_is_safe p plan migration start first es net valid sound firsts
