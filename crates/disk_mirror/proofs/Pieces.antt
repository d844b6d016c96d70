-- Pieces of an image that are read one after the other.
use Rattle.std.proofs.Common.{◌≡◌, Bool, false, nat_lt, ℕ, ◌≤◌, List, ◌++◌, length, take, drop, Option, Some, None, IfSome, sym, subst, ◌∙◌}
use Rattle.std.proofs.lemmas.List.{take_all}
use Rattle.disk_model.specs.Whole.{Reads}
use Rattle.disk_model.proofs.Pieces.{IsFront, reads}

pub reads_told : (told now : Option (List ℕ)) (old new buffer : List ℕ) (n at : ℕ) → now ≡ told → at ≡ length old → new ≡ old ++ take n buffer
    → IfSome told (λ all. take n buffer ≡ take n (drop at all)) → (n ≡ 0 → IfSome told (λ all. length all ≤ at)) → IfSome now (Reads (nat_lt 0 n) old new)
reads_told None now old new buffer n at same is put given ends = subst (λ (t : Option (List ℕ)). IfSome t (Reads (nat_lt 0 n) old new)) (sym same) tt
reads_told (Some all) now old new buffer n at same is put given ends =
    subst (λ (t : Option (List ℕ)). IfSome t (Reads (nat_lt 0 n) old new)) (sym same) (reads all old new buffer n at is put given ends)

pub goes_on : (told now : Option (List ℕ)) (more : Bool) (old new : List ℕ) → now ≡ told → IfSome told (IsFront old) → IfSome now (Reads more old new) → IfSome now (IsFront new)
goes_on told None more old new same was reads = tt
goes_on None (Some bytes) more old new same was reads = absurd (cc same)
goes_on (Some all) (Some bytes) more old new same was reads =
    let is : bytes ≡ all = cc same in
    reads.goes_on (subst (IsFront old) (sym is) was)

pub ends : (told now : Option (List ℕ)) (more : Bool) (old new : List ℕ) → now ≡ told → IfSome told (IsFront old) → more ≡ false → IfSome now (Reads more old new) → IfSome now (λ all. new ≡ all)
ends told None more old new same was last reads = tt
ends None (Some bytes) more old new same was last reads = absurd (cc same)
ends (Some all) (Some bytes) more old new same was last reads =
    let is : bytes ≡ all = cc same in
    reads.goes_on (subst (IsFront old) (sym is) was) ∙ take_all (length new) bytes (reads.ends last)
