use Rattle.takeover_laws.proofs.Ends.{reached-waits}
use Rattle.takeover_laws.proofs.takeovers.a_fenced_switch_waits.Goals as goal

pub returns : goal.returns
returns c = λ p plan start migration first es net sound firsts missing n lt marked more. reached-waits p plan migration start first es net sound firsts missing n lt marked more
