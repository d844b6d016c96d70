-- Pieces of an image that are read one after the other.
use Rattle.std.proofs.Common.{◌≡◌, Bool, false, nat_lt, ℕ, ◌+◌, ◌≤◌, List, [], ◌++◌, length, take, drop, Option, Some, None, IfSome, refl, sym, subst, ◌∙◌, ap, arith}
use Rattle.std.proofs.Math.Seq.{take-add}
use Rattle.std.proofs.lemmas.List.{append-nil, take_all}
use Rattle.std.proofs.lemmas.Bool.Decides.{nat_tests}
use Rattle.lists.proofs.Rows.{front_by_its_length}
use Rattle.disk_model.specs.Whole.{Reads}

pub reads : (all old new buffer : List ℕ) (n at : ℕ) → at ≡ length old → new ≡ old ++ take n buffer → take n buffer ≡ take n (drop at all) → (n ≡ 0 → length all ≤ at) → Reads (nat_lt 0 n) old new all
reads all old new buffer n at is put given ends = record {
  goes_on = λ was.
      let whole : new ≡ take (length old + n) all =
      put ∙ ap (λ (l : List ℕ). old ++ l) (given ∙ ap (λ (k : ℕ). take n (drop k all)) is)
      ∙ ap (λ (l : List ℕ). l ++ take n (drop (length old) all)) was
      ∙ sym (take-add (length old) n all) in
      whole ∙ front_by_its_length (length old + n) all ∙ ap (λ (l : List ℕ). take (length l) all) (sym whole);
  ends = λ none.
      let zero : n ≡ 0 = grind (arith, nat_tests, none) in
      let same : new ≡ old = put ∙ ap (λ (k : ℕ). old ++ take k buffer) zero ∙ append-nil old in
      omega (arith, ends zero, is, ap length same);
}

pub reads_told : (told : Option (List ℕ)) (old new buffer : List ℕ) (n at : ℕ) → at ≡ length old → new ≡ old ++ take n buffer
    → IfSome told (λ all. take n buffer ≡ take n (drop at all)) → (n ≡ 0 → IfSome told (λ all. length all ≤ at)) → IfSome told (Reads (nat_lt 0 n) old new)
reads_told None old new buffer n at is put given ends = tt
reads_told (Some all) old new buffer n at is put given ends = reads all old new buffer n at is put given ends

-- what was read is a front of all the bytes
abbrev pub IsFront : List ℕ → List ℕ → Type 0
IsFront image all = image ≡ take (length image) all

pub goes_on : (told now : Option (List ℕ)) (more : Bool) (old new : List ℕ) → now ≡ told → IfSome told (IsFront old) → IfSome now (Reads more old new) → IfSome told (IsFront new)
goes_on None now more old new same was reads = tt
goes_on (Some all) None more old new same was reads = absurd (cc same)
goes_on (Some all) (Some bytes) more old new same was reads =
    let is : bytes ≡ all = cc same in
    subst (IsFront new) is (reads.goes_on (subst (IsFront old) (sym is) was))

pub ends : (told now : Option (List ℕ)) (more : Bool) (old new : List ℕ) → now ≡ told → IfSome told (IsFront old) → more ≡ false → IfSome now (Reads more old new) → IfSome told (λ all. new ≡ all)
ends None now more old new same was last reads = tt
ends (Some all) None more old new same was last reads = absurd (cc same)
ends (Some all) (Some bytes) more old new same was last reads =
    let is : bytes ≡ all = cc same in
    let front = reads.goes_on (subst (IsFront old) (sym is) was) in
    front ∙ take_all (length new) bytes (reads.ends last) ∙ is

-- nothing was read yet
pub front_empty : (told : Option (List ℕ)) (image : List ℕ) → image ≡ [] → IfSome told (IsFront image)
front_empty None image is = tt
front_empty (Some all) image is = subst (λ (l : List ℕ). IsFront l all) (sym is) refl
