-- What the input and the words want.
use Rattle.std.proofs.Common.{arith, ◌≡◌, ℕ, ◌<◌, List, [], ◌∷◌, length, Result, Err, refl, sym, subst}
use Rattle.rollout_rules.specs.Wan.{Problem}
use Rattle.retarget_plan.specs.Targets.{Targeted}
use Rattle.retarget_plan.specs.declared.aim.Aim.{Aim}
use Rattle.target_json.specs.Grammar.{target_in}
use Rattle.target_json.specs.Results.{Refuses}
use Rattle.target_json.specs.declared.fault.TargetFault.{TargetFault}
use Rattle.target_json.specs.declared.fault.TargetFault.TheVariants as fault
use Rattle.retarget_top.specs.Aims.{GivesAim, WantsBy, aim_in, link_named, shedding, toward}
use Rattle.retarget_top.specs.Endings.{ending_of_target}
use Rattle.retarget_top.specs.declared.ending.RetargetEnding.{RetargetEnding}

-- the same bytes want the same
pub wants-same : (shed input again : List ℕ) (answer : Result _ RetargetEnding) → again ≡ input → WantsBy shed again answer → WantsBy shed input answer
wants-same shed input again answer is wants = subst (λ (bytes : List ℕ). WantsBy shed bytes answer) is wants

module _ (p : Problem) (input : List ℕ) where
  -- where no link is named it is the document's target
  pub unnamed-aim : (name : List ℕ) → length name ≡ 0 → aim_in name p input ≡ toward (target_in p input)
  unnamed-aim [] none = refl
  unnamed-aim (c ∷ name) none = absurd (cc none)

  pub named-aim : (name : List ℕ) → 0 < length name → aim_in name p input ≡ shedding (link_named p name)
  named-aim [] some = absurd (omega (arith, some))
  named-aim (c ∷ name) some = refl

pub gives-same : (answer wanted other : Result Aim RetargetEnding) → other ≡ wanted → GivesAim answer wanted → GivesAim answer other
gives-same answer wanted other is gives = subst (GivesAim answer) (sym is) gives

-- a target that is refused
pub refused-target : (cause : TargetFault) (told : RetargetEnding) (grammar : Result Targeted TargetFault) → told ≡ ending_of_target cause → Refuses cause grammar → GivesAim (Err told) (toward grammar)
refused-target cause told grammar is refuses = subst (λ (e : RetargetEnding). GivesAim (Err e) (toward grammar)) (sym is) (by_cause cause refuses)
  where
    by_cause : (why : TargetFault) → Refuses why grammar → GivesAim (Err (ending_of_target why)) (toward grammar)
    by_cause fault.NotJson r = rw r refl
    by_cause (fault.At place wrong) r = rw r refl
    by_cause fault.Memory r = tt
