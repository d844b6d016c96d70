-- What is said of an option, where it is known which it is.
use Rattle.std.proofs.Common.{IfSome, None, Option, Some, refl, subst, ◌≡◌, ap, is_some, ◌∙◌}
use Rattle.std.proofs.lemmas.Bool.{false≢true}

pub of_some : {A : Type 0} (P : A → Type 0) (found : Option A) (value : A) → found ≡ Some value → IfSome found P → P value
of_some P found value is holds = subst (λ v. IfSome v P) is holds

pub some_itself : {A : Type 0} (found : Option A) → IfSome found (λ value. found ≡ Some value)
some_itself None = tt
some_itself (Some value) = refl

-- where it is known of another, and this one is known where that is
pub known_as_well : {A : Type 0} (now before : Option A) (value : A) → before ≡ Some value → is_some now ≡ is_some before → (other : A) × (now ≡ Some other)
known_as_well None before value is keeps = absurd (false≢true (keeps ∙ ap is_some is))
known_as_well (Some other) before value is keeps = (other, refl)
