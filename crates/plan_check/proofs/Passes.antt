-- Tests that find nothing.
use Rattle.std.proofs.Common.{Bool, None, false, refl, true, ◌≡◌}
use Rattle.plan_check.specs.First.{unless}

pub unless_passed : {A : Type 0} (b : Bool) (a : A) → unless b a ≡ None → b ≡ true
unless_passed true a e = refl
unless_passed false a e = cc
