-- The first of several answers, where there is one.
use Rattle.std.specs.Prelude.{ℕ, zero, suc, Bool, true, false, Option, Some, None}

-- the first of two
abbrev pub first_of : {A : Type 0} → Option A → Option A → Option A
first_of None b = b
first_of (Some a) b = Some a

-- the first of f 0 .. f (n - 1)
abbrev pub first_below : {A : Type 0} → ℕ → (ℕ → Option A) → Option A
first_below zero f = None
first_below (suc n) f = first_of (first_below n f) (f n)

-- what is said unless a test passes
abbrev pub unless : {A : Type 0} → Bool → A → Option A
unless true a = None
unless false a = Some a

-- what is said where a test passes
abbrev pub provided : {A : Type 0} → Bool → A → Option A
provided true a = Some a
provided false a = None
