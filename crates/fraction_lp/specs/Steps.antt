-- What a call that may stop says of a value that may not exist.
use Rattle.std.specs.Prelude.{◌≡◌, ◌≤◌, ℕ, List, length, drop, ◌++◌, Option, Some, None, Result, Ok, Err}
use Rattle.fraction_lp.specs.declared.step_fault.StepFault.{StepFault}
use Rattle.fraction_lp.specs.declared.step_fault.StepFault.TheVariants.{Overflow, Memory}

-- the value where the call comes to its end, and none where a number doesn't fit; nothing where memory is short
abbrev pub Gives : {A : Type 0} → Result A StepFault → Option A → Type 0
Gives (Ok x) made = made ≡ Some x
Gives (Err Overflow) made = made ≡ None
Gives (Err Memory) made = Unit {0}

-- the same of what a call leaves behind a reference
abbrev pub Leaves : {A B : Type 0} → Result B StepFault → Option A → A → Type 0
Leaves (Ok x) made new = made ≡ Some new
Leaves (Err Overflow) made new = made ≡ None
Leaves (Err Memory) made new = Unit {0}

-- a list that may not exist after another
abbrev pub behind : {A : Type 0} → List A → Option (List A) → Option (List A)
behind old None = None
behind old (Some more) = Some (old ++ more)

-- what is made with whatever is made of the rest of a list, of which the call took so many
abbrev pub TakesSome : {A : Type 0} → Result ℕ StepFault → ((List A → Option (List A)) → Option (List A)) → List A → List A → Type 0
TakesSome {A} (Ok n) made new others = (n ≤ length others) × ((rest : List A → Option (List A)) → made rest ≡ behind new (rest (drop n others)))
TakesSome {A} (Err Overflow) made new others = (rest : List A → Option (List A)) → made rest ≡ None
TakesSome (Err Memory) made new others = Unit {0}
