-- What is told of a disk, from call to call.
use Rattle.std.proofs.Common.{◌≡◌, ℕ, List, Option, Some, None, IfSome, refl, subst}
use Rattle.wan_edge.specs.Streams.{KeepsTelling}
use Rattle.disk_model.specs.Writes.{Writes, written}

-- told bytes are written over
pub told_by : (at : ℕ) (bytes old : List ℕ) (before now : Option (List ℕ)) → before ≡ Some old → Writes at bytes before now → now ≡ Some (written at bytes old)
told_by at bytes old before now told writes = subst (λ (b : Option (List ℕ)). Writes at bytes b now) told writes

-- what holds of all that is told holds of this
pub at_told : (P : List ℕ → Type 0) (told : Option (List ℕ)) (bytes : List ℕ) → told ≡ Some bytes → IfSome told P → P bytes
at_told P told bytes is holds = subst (λ (t : Option (List ℕ)). IfSome t P) is holds

-- what is told now was told before
pub told_still : (before now : Option (List ℕ)) (bytes : List ℕ) → KeepsTelling before now → now ≡ Some bytes → (old : List ℕ) × (before ≡ Some old)
told_still None now bytes keeps is = absurd (cc (keeps, is))
told_still (Some old) now bytes keeps is = (old, refl)
