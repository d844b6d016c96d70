-- What a test of bytes says of them.
use Rattle.std.proofs.Common.{◌≡◌, ◌≢◌, ℕ, List, Bool, true, false, sym, ◌∙◌}
use Rattle.std.specs.Prelude.{bytes_eq}
use Rattle.std.proofs.lemmas.Slice.Eq.{bytes_eq-Decides}

pub same_front : (one other : List ℕ) (same : Bool) → same ≡ bytes_eq one other → same ≡ true → one ≡ other
same_front one other same is equal = (bytes_eq-Decides one other).0 (sym is ∙ equal)

pub other_front : (one other : List ℕ) (same : Bool) → same ≡ bytes_eq one other → same ≡ false → one ≢ other
other_front one other same is apart = λ e. let both : true ≡ false = sym ((bytes_eq-Decides one other).1 e) ∙ (sym is ∙ apart) in cc
