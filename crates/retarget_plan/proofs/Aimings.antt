-- The problem of an aim stands where the rollout does, and its old side fits where no link is given less.
use Rattle.std.proofs.Common.{◌≡◌, ℕ, ◌*◌, ◌<◌, ◌≤◌, true, List, length, Option, Some, None, Result, Ok, Err, IfOk, sym, ap, ◌∙◌, subst, arith}
use Rattle.std.proofs.lemmas.Nat.{mul-le}
use Rattle.rollout_rules.specs.Wan.{Problem, Plan, Rollout, link_at}
use Rattle.rollout_rules.specs.Network.{IsNetwork}
use Rattle.rollout_rules.specs.Valid.{is_valid_plan}
use Rattle.rollout_rules.specs.Legal.{is_legal}
use Rattle.rollout_rules.specs.Slack.{old_load}
use Rattle.rollout_rules.specs.History.{History, Places, places_of}
use Rattle.rollout_rules.specs.Safe.{IsSafe}
use Rattle.rollout_rules.proofs.Rows.{list_below-length, list_below-at}
use Rattle.rollout_laws.proofs.Safety.{legal-safe}
use Rattle.plan_check.proofs.Firsts.{first_below_none, first_of_parts}
use Rattle.plan_check.proofs.Passes.{unless_passed}
use Rattle.retarget_plan.specs.Aiming.{KeepsCapacities, StandsAt, IsAimed, aimed_capacity, aimed_capacities, aimed_rate, aimed_rates, aimed_problem, capacity_times, large_aimed, partly_or_large_aimed, why_not_aimed}
use Rattle.retarget_plan.specs.Left.{is_whole, divisor_of, factor_of, left_rates, left_rate, left_capacities, left_with, remade, scaled_capacity}
use Rattle.retarget_plan.specs.Leaving.{first_flying, first_partly, partly_at, first_large, AreRows, IsLeftUnless}
use Rattle.retarget_plan.specs.Standing.{GoesOnFrom, OldSideFits}
use Rattle.retarget_plan.specs.declared.aim.Aim.{Aim}
use Rattle.retarget_plan.specs.declared.unleft.Unleft.{Unleft}
use Rattle.retarget_plan.specs.declared.unleft.Unleft.TheVariants.{Partly}
use Rattle.retarget_plan.proofs.Found.{cause-first, passed}
use Rattle.retarget_plan.proofs.Goings.{left-goes_on}
use Rattle.retarget_plan.proofs.Looked.{scale-is}
use Rattle.retarget_plan.proofs.OldSides.{old_side-fits}
use Rattle.retarget_plan.proofs.Sizes.{capacity-at, sized-count}

module _ (p : Problem) (plan : Plan) (h : History) (aim : Aim) (net : IsNetwork p) (valid : is_valid_plan p plan ≡ true) (legal : is_legal p plan h ≡ true) where
  abbrev at : Places
  at = places_of p h

  abbrev d : ℕ
  d = divisor_of p plan at

  abbrev q : Problem
  q = aimed_problem p plan at aim

  -- the same with the capacities that the rollout had
  abbrev q0 : Problem
  q0 = left_with p plan at (aimed_rates p plan at aim)

  safe : IsSafe p plan at
  safe = legal-safe p plan h net valid legal

  whole : why_not_aimed p plan h aim ≡ None → (t : ℕ) → t < length p.tunnels → is_whole p plan at t ≡ true
  whole none t lt =
      let behind = (first_of_parts (first_flying p h) (partly_or_large_aimed p plan at aim) none).1 in
      let part = (first_of_parts (first_partly p plan at) (large_aimed p plan at aim) behind).0 in
      unless_passed (is_whole p plan at t) (Partly t) (first_below_none (partly_at p plan at) (length p.tunnels) t lt part)

  goes : why_not_aimed p plan h aim ≡ None → GoesOnFrom p plan at d q0
  goes none = left-goes_on p plan at (aimed_rates p plan at aim) (scale-is p plan valid).some safe (λ t lt. omega (arith, (net.tunnels t lt).path.least)) (whole none)

  stands : GoesOnFrom p plan at d q0 → StandsAt p plan at d q
  stands on = record {
    some = on.some;
    switches = on.switches;
    flows = on.flows;
    links = sized-count p (aimed_capacities p aim (factor_of p plan at));
    tunnels = on.tunnels;
    alike = on.alike;
    rates = on.rates;
    marks = on.marks;
  }

  was : (l : ℕ) → l < length p.links → (link_at q0 l).capacity ≡ (link_at p l).capacity * factor_of p plan at
  was l lt = capacity-at p (left_capacities p plan at) l lt ∙ list_below-at (length p.links) (scaled_capacity p (factor_of p plan at)) l 0 lt

  is : (l : ℕ) → l < length p.links → (link_at q l).capacity ≡ aimed_capacity p aim l * factor_of p plan at
  is l lt = capacity-at p (aimed_capacities p aim (factor_of p plan at)) l lt ∙ list_below-at (length p.links) (capacity_times p aim (factor_of p plan at)) l 0 lt

  link-fits : KeepsCapacities p aim → OldSideFits q0 → (l : ℕ) → l < length q.links → old_load q l ≤ (link_at q l).capacity
  link-fits keeps old l lt =
      let inside : l < length p.links = omega (arith, lt, sized-count p (aimed_capacities p aim (factor_of p plan at))) in
      let there : l < length q0.links = omega (arith, inside, sized-count p (left_capacities p plan at)) in
      let base : old_load q l ≤ (link_at q0 l).capacity = old.links l there in
      let more : (link_at p l).capacity * factor_of p plan at ≤ aimed_capacity p aim l * factor_of p plan at = mul-le (link_at p l).capacity (factor_of p plan at) (aimed_capacity p aim l) (factor_of p plan at) (keeps l inside) (omega arith) in
      omega (arith, base, was l inside, is l inside, more)

  fits : KeepsCapacities p aim → GoesOnFrom p plan at d q0 → OldSideFits q
  fits keeps on =
      let old = old_side-fits p plan at d q0 on safe in
      record { links = link-fits keeps old; tables = old.tables }

  pub answer-stands : (answer : Result Problem Unleft) → IsAimed p plan h aim answer → IfOk answer (StandsAt p plan at d)
  answer-stands (Ok made) so = subst (StandsAt p plan at d) (sym so.1) (stands (goes so.0))
  answer-stands (Err cause) so = tt

  pub answer-fits-kept : (answer : Result Problem Unleft) → KeepsCapacities p aim → IsAimed p plan h aim answer → IfOk answer OldSideFits
  answer-fits-kept (Ok made) keeps so = subst OldSideFits (sym so.1) (fits keeps (goes so.0))
  answer-fits-kept (Err cause) keeps so = tt

-- ---- the parts that are put together

module _ (p : Problem) (plan : Plan) (at : Places) (aim : Aim) (capacities : List ℕ) (old new : List (Option ℕ)) (are : capacities ≡ aimed_capacities p aim (factor_of p plan at)) (were : old ≡ left_rates p plan at)
    (become : new ≡ aimed_rates p plan at aim) where
  pub aimed-rows : AreRows p capacities old new
  aimed-rows = record {
    for_links = ap (λ (xs : List ℕ). length xs) are ∙ list_below-length (length p.links) (capacity_times p aim (factor_of p plan at));
    were = ap (λ (xs : List (Option ℕ)). length xs) were ∙ list_below-length (length p.tunnels) (left_rate p plan at);
    become = ap (λ (xs : List (Option ℕ)). length xs) become ∙ list_below-length (length p.tunnels) (aimed_rate p plan at aim);
  }

  pub aimed-parts : (answer : Result Problem Unleft) → IsLeftUnless (first_large capacities old new) (remade p capacities old new) answer → IsLeftUnless (large_aimed p plan at aim) (aimed_problem p plan at aim) answer
  aimed-parts answer is =
      let cs = aimed_capacities p aim (factor_of p plan at) in
      let os = left_rates p plan at in
      subst (λ (n : List (Option ℕ)). IsLeftUnless (first_large cs os n) (remade p cs os n) answer) become
      (subst (λ (o : List (Option ℕ)). IsLeftUnless (first_large cs o new) (remade p cs o new) answer) were
      (subst (λ (c : List ℕ). IsLeftUnless (first_large c old new) (remade p c old new) answer) are is))

-- ---- something that flies, told of a graph whose rollout this is

module _ (r g : Rollout) (h : History) (aim : Aim) (own : r ≡ g) where
  pub aimed-told : (cause : Unleft) → Some cause ≡ first_flying g.problem h → IsAimed r.problem r.plan h aim (Err cause)
  aimed-told cause is =
      cause-first cause (first_flying r.problem h) (partly_or_large_aimed r.problem r.plan (places_of r.problem h) aim) (is ∙ ap (λ (x : Rollout). first_flying x.problem h) (sym own))

  pub aimed-passed : (answer : Result Problem Unleft) → None ≡ first_flying g.problem h → IsLeftUnless (partly_or_large_aimed r.problem r.plan (places_of r.problem h) aim) (aimed_problem r.problem r.plan (places_of r.problem h) aim) answer
      → IsAimed r.problem r.plan h aim answer
  aimed-passed answer none is =
      passed (first_flying r.problem h) (partly_or_large_aimed r.problem r.plan (places_of r.problem h) aim) (aimed_problem r.problem r.plan (places_of r.problem h) aim) answer
      (none ∙ ap (λ (x : Rollout). first_flying x.problem h) (sym own)) is
