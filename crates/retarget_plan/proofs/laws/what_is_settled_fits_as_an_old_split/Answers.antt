use Rattle.rollout_rules.specs.History.{places_of}
use Rattle.rollout_laws.proofs.Safety.{legal-safe}
use Rattle.retarget_plan.proofs.OldSides.{old_side-fits}
use Rattle.retarget_plan.proofs.laws.what_is_settled_fits_as_an_old_split.Goals as goal

pub returns : goal.returns
returns c = λ p plan h divisor q net valid legal on. old_side-fits p plan (places_of p h) divisor q on (legal-safe p plan h net valid legal)
