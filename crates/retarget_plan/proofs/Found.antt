-- What is found first, one number more at a time, and the cause that it is.
use Rattle.std.proofs.Common.{◌≡◌, ℕ, suc, ◌+◌, ◌<◌, ◌≤◌, Bool, true, false, nat_le, length, List, [], ◌∷◌, ◌++◌, slice_index, Option, Some, None, unwrap_or, Result, Err, refl, sym, ap, ap₂, ◌∙◌, subst, arith, leb-true}
use Rattle.rollout_rules.specs.declared.limits.TheConstants.{LARGEST_CAPACITY, LARGEST_RATE}
use Rattle.rollout_rules.specs.Sums.{list_below}
use Rattle.rollout_rules.specs.Wan.{Problem, Rollout}
use Rattle.rollout_rules.specs.Network.{IsRate}
use Rattle.rollout_rules.specs.History.{History, places_of}
use Rattle.plan_check.specs.First.{first_of, first_below, unless, provided}
use Rattle.plan_check.proofs.Firsts.{first_below_none, first_of_parts}
use Rattle.wan_model.specs.Rates.{rate_in, AreRates}
use Rattle.plan_check.proofs.Passes.{unless_passed}
use Rattle.retarget_plan.specs.Copies.{AreCapacities}
use Rattle.retarget_plan.specs.Left.{left_problem}
use Rattle.retarget_plan.specs.Leaving.{first_flying, partly_or_large, large_capacity, large_rate, first_capacity, first_rate, first_of_old, first_large, AreRows, IsCause, IsLeftUnless, IsLeft}
use Rattle.retarget_plan.specs.declared.unleft.Row.{Row}
use Rattle.retarget_plan.specs.declared.unleft.Row.TheVariants.{Capacities, OldRates, NewRates}
use Rattle.retarget_plan.specs.declared.unleft.Unleft.{Unleft}
use Rattle.retarget_plan.specs.declared.unleft.Unleft.TheVariants.{Flying, Partly, TooLarge, Memory}

-- ---- tests

pub none-where : {A : Type 0} (b : Bool) (a : A) → b ≡ true → None ≡ unless b a
none-where true a e = refl
none-where false a e = cc

pub some-where_not : {A : Type 0} (b : Bool) (a : A) → b ≡ false → Some a ≡ unless b a
some-where_not false a e = refl
some-where_not true a e = cc

pub some-where : {A : Type 0} (b : Bool) (a : A) → b ≡ true → provided b a ≡ Some a
some-where true a e = refl
some-where false a e = cc

pub none-where_not : {A : Type 0} (b : Bool) (a : A) → b ≡ false → provided b a ≡ None
none-where_not false a e = refl
none-where_not true a e = cc

-- ---- the first of several

pub none-next : {A : Type 0} (f : ℕ → Option A) (n : ℕ) → first_below n f ≡ None → f n ≡ None → first_below (n + 1) f ≡ None
none-next f n before this =
    let more : suc n ≡ n + 1 = omega arith in
    subst (λ (m : ℕ). first_below m f ≡ None) more (ap₂ (λ a b. first_of a b) before this)

pub none-all : {A : Type 0} (f : ℕ → Option A) (n m : ℕ) → n ≡ m → first_below n f ≡ None → None ≡ first_below m f
none-all f n m all before = sym (subst (λ (k : ℕ). first_below k f ≡ None) all before)

pub first-is : {A : Type 0} (a b : Option A) (x : A) → Some x ≡ a → Some x ≡ first_of a b
first-is {A = A} a b x is = subst (λ (c : Option A). Some x ≡ first_of c b) is refl

pub first-passed : {A : Type 0} (a b r : Option A) → None ≡ a → r ≡ b → r ≡ first_of a b
first-passed a b r none is = is ∙ ap (λ c. first_of c b) none

-- ---- the cause that is told

pub cause-is : (cause : Unleft) (found : Option Unleft) → Some cause ≡ found → IsCause cause found
cause-is (Flying item operation) found is = sym is
cause-is (Partly tunnel) found is = sym is
cause-is (TooLarge row place n) found is = sym is
cause-is Memory found is = tt

pub cause-first : (cause : Unleft) (found rest : Option Unleft) → Some cause ≡ found → IsCause cause (first_of found rest)
cause-first cause found rest is = cause-is cause (first_of found rest) (first-is found rest cause is)

pub passed : (found rest : Option Unleft) (wanted : Problem) (answer : Result Problem Unleft) → None ≡ found → IsLeftUnless rest wanted answer → IsLeftUnless (first_of found rest) wanted answer
passed found rest wanted answer none is = subst (λ (c : Option Unleft). IsLeftUnless (first_of c rest) wanted answer) none is

-- something that flies, told of a graph whose rollout this is
module _ (r g : Rollout) (h : History) (own : r ≡ g) where
  pub flying-told : (cause : Unleft) → Some cause ≡ first_flying g.problem h → IsLeft r.problem r.plan h (Err cause)
  flying-told cause is = cause-first cause (first_flying r.problem h) (partly_or_large r.problem r.plan (places_of r.problem h)) (is ∙ ap (λ (x : Rollout). first_flying x.problem h) (sym own))

  pub flying-passed : (answer : Result Problem Unleft) → None ≡ first_flying g.problem h → IsLeftUnless (partly_or_large r.problem r.plan (places_of r.problem h)) (left_problem r.problem r.plan (places_of r.problem h)) answer
      → IsLeft r.problem r.plan h answer
  flying-passed answer none is =
      passed (first_flying r.problem h) (partly_or_large r.problem r.plan (places_of r.problem h)) (left_problem r.problem r.plan (places_of r.problem h)) answer
      (none ∙ ap (λ (x : Rollout). first_flying x.problem h) (sym own)) is

-- ---- where none is too large, all are within their limits

within-limit : (row : Row) (rates : List (Option ℕ)) (t : ℕ) → first_rate row rates ≡ None → t < length rates → IsRate (rate_in rates t)
within-limit row rates t none lt =
    let small = leb-true (unwrap_or (rate_in rates t) 0) LARGEST_RATE (unless_passed (nat_le (unwrap_or (rate_in rates t) 0) LARGEST_RATE) (TooLarge row t (unwrap_or (rate_in rates t) 0)) (first_below_none (large_rate row rates) (length rates) t lt none)) in
    by_rate (rate_in rates t) small
  where
    by_rate : (r : Option ℕ) → unwrap_or r 0 ≤ LARGEST_RATE → IsRate r
    by_rate None le = tt
    by_rate (Some n) le = le

module _ (p : Problem) (capacities : List ℕ) (old new : List (Option ℕ)) (rows : AreRows p capacities old new) (small : None ≡ first_large capacities old new) where
  parts : (first_of_old capacities old ≡ None) × (first_rate NewRates new ≡ None)
  parts = first_of_parts (first_of_old capacities old) (first_rate NewRates new) (sym small)

  olds : (first_capacity capacities ≡ None) × (first_rate OldRates old ≡ None)
  olds = first_of_parts (first_capacity capacities) (first_rate OldRates old) parts.0

  pub capacities-are : AreCapacities p capacities
  capacities-are = record {
    count = rows.for_links;
    within = λ l lt.
        leb-true (slice_index capacities l) LARGEST_CAPACITY
        (unless_passed (nat_le (slice_index capacities l) LARGEST_CAPACITY) (TooLarge Capacities l (slice_index capacities l))
        (first_below_none (large_capacity capacities) (length capacities) l (omega (arith, lt, rows.for_links)) olds.0));
  }

  pub old-are : AreRates p old
  old-are = record { count = rows.were; within = λ t lt. within-limit OldRates old t olds.1 (omega (arith, lt, rows.were)) }

  pub new-are : AreRates p new
  new-are = record { count = rows.become; within = λ t lt. within-limit NewRates new t parts.1 (omega (arith, lt, rows.become)) }

-- ---- lists that are made number by number

pub list-next : {A : Type 0} (f : ℕ → A) (n : ℕ) (xs next : List A) (x : A) → xs ≡ list_below n f → x ≡ f n → next ≡ xs ++ x ∷ [] → next ≡ list_below (n + 1) f
list-next f n xs next x so this is =
    let more : suc n ≡ n + 1 = omega arith in
    is ∙ ap₂ (λ ys y. ys ++ y ∷ []) so this ∙ ap (λ (m : ℕ). list_below m f) more

pub list-all : {A : Type 0} (f : ℕ → A) (n m : ℕ) (xs : List A) → n ≡ m → xs ≡ list_below n f → xs ≡ list_below m f
list-all f n m xs all so = so ∙ ap (λ (k : ℕ). list_below k f) all

-- where no cause was found
pub none-unless : (found : Option Unleft) (wanted : Problem) (answer : Result Problem Unleft) → None ≡ found → IsLeftUnless None wanted answer → IsLeftUnless found wanted answer
none-unless found wanted answer none is = subst (λ (c : Option Unleft). IsLeftUnless c wanted answer) none is
