use Rattle.takeover_laws.proofs.Ends.{reached-target}
use Rattle.takeover_laws.proofs.takeovers.a_taken_over_rollout_ends_at_target.Goals as goal

pub returns : goal.returns
returns c = λ p plan start migration first es net valid sound firsts. reached-target p plan migration start first es net sound firsts valid
