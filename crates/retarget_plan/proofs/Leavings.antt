-- What is left goes on from what is settled, and its old side fits.
use Rattle.std.proofs.Common.{◌≡◌, ℕ, ◌<◌, true, List, length, Option, None, Result, Ok, Err, IfOk, sym, ap, ◌∙◌, subst, arith}
use Rattle.rollout_rules.specs.Wan.{Problem, Plan}
use Rattle.rollout_rules.specs.Network.{IsNetwork}
use Rattle.rollout_rules.specs.Valid.{is_valid_plan}
use Rattle.rollout_rules.specs.Legal.{is_legal}
use Rattle.rollout_rules.specs.History.{History, Places, places_of}
use Rattle.rollout_rules.specs.Safe.{IsSafe}
use Rattle.rollout_rules.proofs.Rows.{list_below-length}
use Rattle.rollout_laws.proofs.Safety.{legal-safe}
use Rattle.plan_check.proofs.Firsts.{first_below_none, first_of_parts}
use Rattle.plan_check.proofs.Passes.{unless_passed}
use Rattle.retarget_plan.specs.Left.{is_whole, divisor_of, left_rates, left_rate, left_capacities, left_targets, left_problem, remade, scaled_capacity, scaled_target, factor_of}
use Rattle.retarget_plan.specs.Leaving.{first_flying, first_partly, partly_at, large_left, partly_or_large, why_not_left, first_large, AreRows, IsLeftUnless, IsLeft}
use Rattle.retarget_plan.specs.Standing.{GoesOnFrom, OldSideFits}
use Rattle.retarget_plan.specs.declared.unleft.Unleft.{Unleft}
use Rattle.retarget_plan.specs.declared.unleft.Unleft.TheVariants.{Partly}
use Rattle.retarget_plan.proofs.Goings.{left-goes_on}
use Rattle.retarget_plan.proofs.Looked.{scale-is}
use Rattle.retarget_plan.proofs.OldSides.{old_side-fits}

module _ (p : Problem) (plan : Plan) (h : History) (net : IsNetwork p) (valid : is_valid_plan p plan ≡ true) (legal : is_legal p plan h ≡ true) where
  abbrev at : Places
  at = places_of p h

  safe : IsSafe p plan at
  safe = legal-safe p plan h net valid legal

  whole : why_not_left p plan h ≡ None → (t : ℕ) → t < length p.tunnels → is_whole p plan at t ≡ true
  whole none t lt =
      let behind = (first_of_parts (first_flying p h) (partly_or_large p plan at) none).1 in
      let part = (first_of_parts (first_partly p plan at) (large_left p plan at) behind).0 in
      unless_passed (is_whole p plan at t) (Partly t) (first_below_none (partly_at p plan at) (length p.tunnels) t lt part)

  goes : why_not_left p plan h ≡ None → GoesOnFrom p plan at (divisor_of p plan at) (left_problem p plan at)
  goes none = left-goes_on p plan at (left_targets p plan at) (scale-is p plan valid).some safe (λ t lt. omega (arith, (net.tunnels t lt).path.least)) (whole none)

  pub answer-goes_on : (answer : Result Problem Unleft) → IsLeft p plan h answer → IfOk answer (GoesOnFrom p plan at (divisor_of p plan at))
  answer-goes_on (Ok q) is = subst (GoesOnFrom p plan at (divisor_of p plan at)) (sym is.1) (goes is.0)
  answer-goes_on (Err cause) is = tt

  pub answer-fits : (answer : Result Problem Unleft) → IsLeft p plan h answer → IfOk answer OldSideFits
  answer-fits (Ok q) is = old_side-fits p plan at (divisor_of p plan at) q (subst (GoesOnFrom p plan at (divisor_of p plan at)) (sym is.1) (goes is.0)) safe
  answer-fits (Err cause) is = tt

-- ---- the parts that are put together

module _ (p : Problem) (plan : Plan) (at : Places) (capacities : List ℕ) (old new : List (Option ℕ)) (are : capacities ≡ left_capacities p plan at) (were : old ≡ left_rates p plan at) (become : new ≡ left_targets p plan at) where
  pub parts-rows : AreRows p capacities old new
  parts-rows = record {
    for_links = ap (λ (xs : List ℕ). length xs) are ∙ list_below-length (length p.links) (scaled_capacity p (factor_of p plan at));
    were = ap (λ (xs : List (Option ℕ)). length xs) were ∙ list_below-length (length p.tunnels) (left_rate p plan at);
    become = ap (λ (xs : List (Option ℕ)). length xs) become ∙ list_below-length (length p.tunnels) (scaled_target p (factor_of p plan at));
  }

  pub parts-left : (answer : Result Problem Unleft) → IsLeftUnless (first_large capacities old new) (remade p capacities old new) answer → IsLeftUnless (large_left p plan at) (left_problem p plan at) answer
  parts-left answer is =
      let cs = left_capacities p plan at in
      let os = left_rates p plan at in
      subst (λ (n : List (Option ℕ)). IsLeftUnless (first_large cs os n) (remade p cs os n) answer) become
      (subst (λ (o : List (Option ℕ)). IsLeftUnless (first_large cs o new) (remade p cs o new) answer) were
      (subst (λ (c : List ℕ). IsLeftUnless (first_large c old new) (remade p c old new) answer) are is))
