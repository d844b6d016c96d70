use Rattle.takeover_laws.proofs.Ends.{reached-leaves}
use Rattle.takeover_laws.proofs.takeovers.the_older_controller_changes_nothing.Goals as goal

pub returns : goal.returns
returns c = λ p plan start migration first es net sound firsts all e. reached-leaves p plan migration start first es net sound firsts all e
