-- What is durable stays so.
use Rattle.std.proofs.Common.{List, None, Option, Some, sym, ℕ, ◌∙◌, ◌≡◌}
use Rattle.disk_model.specs.Crashes.{IsDurable, Within}

pub durable_still : (told told_new : Option (List ℕ)) (left left_new : List ℕ → Type 0) → told_new ≡ told → Within left_new left → IsDurable told left → IsDurable told_new left_new
durable_still told None left left_new same within durable = tt
durable_still None (Some all) left left_new same within durable = absurd (cc same)
durable_still (Some old) (Some all) left left_new same within durable =
    let is : all ≡ old = cc same in
    λ c leaves. durable c (within c leaves) ∙ sym is
