-- A value or a fault, step by step, and what a reader's answer says of it.
use Rattle.std.specs.Prelude.{◌≡◌, ℕ, ◌+◌, Bool, true, false, Result, Ok, Err, ⊤}
use Rattle.serde_json.specs.Data.{Data, Items, no_items, item}
use Rattle.target_json.specs.declared.fault.TargetFault.{TargetFault}
use Rattle.target_json.specs.declared.fault.TargetFault.TheVariants.{NotJson, At, Memory}

infixl 10 ◌>>=◌
-- the next step at the value; a fault stays
abbrev pub ◌>>=◌ : {A B : Type 0} → Result A TargetFault → (A → Result B TargetFault) → Result B TargetFault
(Ok a) >>= next = next a
(Err e) >>= next = Err e

-- the fault, where a test fails
abbrev pub held : Bool → TargetFault → Result ⊤ TargetFault
held true e = Ok tt
held false e = Err e

-- one step for each element of a list, in order, by its number from n on
abbrev pub add_from : {A : Type 0} → (ℕ → Data → A → Result A TargetFault) → ℕ → Items → A → Result A TargetFault
add_from f n no_items a = Ok a
add_from f n (item d ds) a = f n d a >>= λ b. add_from f (n + 1) ds b

-- the fault that a reader answers is the grammar's; lack of memory says nothing
abbrev pub Refuses : {A : Type 0} → TargetFault → Result A TargetFault → Type 0
Refuses NotJson grammar = grammar ≡ Err NotJson
Refuses (At place wrong) grammar = grammar ≡ Err (At place wrong)
Refuses Memory grammar = Unit {0}

-- what a reader answers, seen by f, is what the grammar says
abbrev pub ReadsAs : {A B : Type 0} → (A → B) → Result A TargetFault → Result B TargetFault → Type 0
ReadsAs f (Ok a) grammar = grammar ≡ Ok (f a)
ReadsAs f (Err e) grammar = Refuses e grammar

-- what a reader answers is what the grammar says
abbrev pub Reads : {A : Type 0} → Result A TargetFault → Result A TargetFault → Type 0
Reads result grammar = ReadsAs (λ a. a) result grammar

-- what a reader leaves is what the grammar says
abbrev pub Leaves : {A B : Type 0} → Result A TargetFault → B → Result B TargetFault → Type 0
Leaves result new grammar = ReadsAs (λ _. new) result grammar
