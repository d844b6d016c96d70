-- A value or a fault, step by step, and what a reader's answer says of it.
use Rattle.std.specs.Prelude.{◌≡◌, Bool, true, false, Result, Ok, Err, ⊤}
use Rattle.serde_json.specs.Data.{Data, Items, no_items, item}
use Rattle.problem_json.specs.declared.fault.InputFault.{InputFault}
use Rattle.problem_json.specs.declared.fault.InputFault.TheVariants.{NotJson, Missing, WrongKind, NotWhole, TooMany, TooLarge, NameTwice, UnknownSwitch, LinkTwice, NoSuchLink, SwitchTwice, EndsDiffer, ShortPath, Memory, BadEvent, BadFormat, WidthZero, BadProof}

infixl 10 ◌>>=◌
-- the next step at the value; a fault stays
abbrev pub ◌>>=◌ : {A B : Type 0} → Result A InputFault → (A → Result B InputFault) → Result B InputFault
(Ok a) >>= next = next a
(Err e) >>= next = Err e

-- the fault, where a test fails
abbrev pub held : Bool → InputFault → Result ⊤ InputFault
held true e = Ok tt
held false e = Err e

-- one step for each element of a list, in order
abbrev pub add_each : {A : Type 0} → (Data → A → Result A InputFault) → Items → A → Result A InputFault
add_each f no_items a = Ok a
add_each f (item d ds) a = f d a >>= λ b. add_each f ds b

-- the fault that a reader answers is the grammar's; lack of memory says nothing
abbrev pub Refuses : {A : Type 0} → InputFault → Result A InputFault → Type 0
Refuses NotJson grammar = grammar ≡ Err NotJson
Refuses (Missing place key) grammar = grammar ≡ Err (Missing place key)
Refuses (WrongKind place) grammar = grammar ≡ Err (WrongKind place)
Refuses (NotWhole place) grammar = grammar ≡ Err (NotWhole place)
Refuses (TooMany place found limit) grammar = grammar ≡ Err (TooMany place found limit)
Refuses (TooLarge place found limit) grammar = grammar ≡ Err (TooLarge place found limit)
Refuses (NameTwice place) grammar = grammar ≡ Err (NameTwice place)
Refuses (UnknownSwitch place) grammar = grammar ≡ Err (UnknownSwitch place)
Refuses (LinkTwice place) grammar = grammar ≡ Err (LinkTwice place)
Refuses (NoSuchLink place) grammar = grammar ≡ Err (NoSuchLink place)
Refuses (SwitchTwice place) grammar = grammar ≡ Err (SwitchTwice place)
Refuses (EndsDiffer place) grammar = grammar ≡ Err (EndsDiffer place)
Refuses (ShortPath place count) grammar = grammar ≡ Err (ShortPath place count)
Refuses Memory grammar = Unit {0}
Refuses (BadEvent place) grammar = grammar ≡ Err (BadEvent place)
Refuses (BadFormat place format) grammar = grammar ≡ Err (BadFormat place format)
Refuses (WidthZero place) grammar = grammar ≡ Err (WidthZero place)
Refuses (BadProof place) grammar = grammar ≡ Err (BadProof place)

-- what a reader answers, seen by f, is what the grammar says
abbrev pub ReadsAs : {A B : Type 0} → (A → B) → Result A InputFault → Result B InputFault → Type 0
ReadsAs f (Ok a) grammar = grammar ≡ Ok (f a)
ReadsAs f (Err e) grammar = Refuses e grammar

-- what a reader answers is what the grammar says
abbrev pub Reads : {A : Type 0} → Result A InputFault → Result A InputFault → Type 0
Reads result grammar = ReadsAs (λ a. a) result grammar

-- what a reader leaves is what the grammar says
abbrev pub Leaves : {A B : Type 0} → Result A InputFault → B → Result B InputFault → Type 0
Leaves result new grammar = ReadsAs (λ _. new) result grammar
