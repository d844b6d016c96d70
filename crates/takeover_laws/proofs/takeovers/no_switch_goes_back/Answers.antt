use Rattle.takeover_laws.proofs.Ends.{reached-falls}
use Rattle.takeover_laws.proofs.takeovers.no_switch_goes_back.Goals as goal

pub returns : goal.returns
returns c = λ p plan start migration first es more net sound firsts n. reached-falls p plan migration start first es net sound firsts more n
