-- What a crash leaves: images, as sets of byte lists.
use Rattle.std.specs.Prelude.{◌≡◌, ℕ, List, Option, IfSome}

-- what one of these images becomes by a step
abbrev pub Stepped : (List ℕ → List ℕ → Type 0) → (List ℕ → Type 0) → List ℕ → Type 0
Stepped step left c = (b : List ℕ) × left b × step b c

-- a crash leaves no other image than these
abbrev pub Within : (List ℕ → Type 0) → (List ℕ → Type 0) → Type 0
Within left images = (c : List ℕ) → left c → images c

-- a crash leaves these bytes
abbrev pub Only : List ℕ → (List ℕ → Type 0) → Type 0
Only bytes left = Within left (λ c. c ≡ bytes)

-- a crash leaves what a read gives, where that is told
abbrev pub IsDurable : Option (List ℕ) → (List ℕ → Type 0) → Type 0
IsDurable told left = IfSome told (λ bytes. Only bytes left)

-- this holds of what a read gives, which is all that a crash leaves
abbrev pub Holds : (List ℕ → Type 0) → Option (List ℕ) → (List ℕ → Type 0) → Type 0
Holds P told left = IfSome told (λ image. P image × Only image left)
