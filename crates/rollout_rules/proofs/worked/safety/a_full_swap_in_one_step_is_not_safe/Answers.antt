use Rattle.std.proofs.Common.{refl, inr, arith, [], ◌∷◌, ◌≤◌}
use Rattle.rollout_rules.specs.Items.{load}
use Rattle.rollout_rules.specs.History.{places_of}
use Rattle.rollout_rules.specs.Plans.{direct_plan}
use Rattle.rollout_rules.specs.Safe.{next_rate}
use Rattle.rollout_rules.specs.Named.{swap}
use Rattle.rollout_rules.specs.Worked.{fresh, begin_of}
use Rattle.rollout_rules.proofs.worked.safety.a_full_swap_in_one_step_is_not_safe.Goals as goal

-- src/worked/safety.rt:38:1
pub returns : goal.returns
returns c = λ safe. let k : load (swap 2 2) (next_rate (swap 2 2) (direct_plan (swap 2 2)) (places_of (swap 2 2) (fresh (begin_of 0 1 ∷ [])))) 2 ≤ 2 = safe.links _ (λ t b. inr refl) 2 (omega arith) in omega (arith, k)
