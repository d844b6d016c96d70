-- What stands under a name, found among other things under the same names.
use Rattle.std.proofs.Common.{◌≡◌, ℕ, Bool, true, false, List, [], ◌∷◌, Option, Some, None, find, option_map, bytes_eq, refl, ap, ◌∙◌, if◌then◌else◌}
use Rattle.order_policy.specs.Named.{policy_named, each_by}

module _ {P Q : Type 0} (f : P → Q) (name : List ℕ) where
  step : (test : Bool) (one : List ℕ × P) (more : List (List ℕ × P)) → option_map f (policy_named name more) ≡ policy_named name (each_by f more)
      → option_map f (option_map (λ p. p.1) (if test then Some one else find (λ p. bytes_eq p.0 name) more))
      ≡ option_map (λ q. q.1) (if test then Some (one.0, f one.1) else find (λ q. bytes_eq q.0 name) (each_by f more))
  step true one more same = refl
  step false one more same = same

  named-each : (all : List (List ℕ × P)) → option_map f (policy_named name all) ≡ policy_named name (each_by f all)
  named-each [] = refl
  named-each (one ∷ more) = step (bytes_eq one.0 name) one more (named-each more)

  inside : {B : Type 0} (now : B → P) (found : Option B) → option_map (λ b. f (now b)) found ≡ option_map f (option_map now found)
  inside now None = refl
  inside now (Some b) = refl

  -- what was found is, seen by f, what is found among all things seen by f
  pub found-each : {B : Type 0} (now : B → P) (found : Option B) (all : List (List ℕ × P)) → option_map now found ≡ policy_named name all
      → option_map (λ b. f (now b)) found ≡ policy_named name (each_by f all)
  found-each now found all is = inside now found ∙ ap (option_map f) is ∙ named-each all
