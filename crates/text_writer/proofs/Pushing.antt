-- What an object that is pushed into says of pushes: that bytes were pushed between two moments.
use Rattle.std.proofs.Common.{List, subst, ℕ, ◌++◌, ◌≡◌}

module _ {S : Type 0} (R : S → List ℕ → S → Type 0) where
  -- what was pushed at a value was pushed at its equal
  pub at_value : {X : Type 0} {a b : S} (f : X → List ℕ) {x y : X} → x ≡ y → R a (f x) b → R a (f y) b
  at_value {X} {a} {b} f same is = subst (λ z. R a (f z) b) same is

  -- the same bytes, told otherwise
  pub said_so : {a b : S} {xs ys : List ℕ} → xs ≡ ys → R a xs b → R a ys b
  said_so {a} {b} same is = subst (λ zs. R a zs b) same is

  -- where two pushes are one
  module _ (further : (a b c : S) (first second : List ℕ) → R a first b → R b second c → R a (first ++ second) c) where
    pub both : {a b c : S} {xs ys : List ℕ} → R a xs b → R b ys c → R a (xs ++ ys) c
    both {a} {b} {c} {xs} {ys} e₁ e₂ = further a b c xs ys e₁ e₂
