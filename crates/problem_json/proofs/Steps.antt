-- A reader's answer after a step of the grammar: the fault of the step, or what the next step says.
use Rattle.std.proofs.Common.{◌≡◌, Result, Ok, ap, sym, subst, ◌∙◌}
use Rattle.serde_json.specs.Data.{Data, Items, no_items, item}
use Rattle.json_data.proofs.Lengths.{items_len-item, items_len-none}
use Rattle.problem_json.specs.GrammarResults.{◌>>=◌, add_each, Refuses}
use Rattle.problem_json.specs.declared.fault.InputFault.{InputFault}
use Rattle.problem_json.specs.declared.fault.InputFault.TheVariants.{NotJson, Missing, WrongKind, NotWhole, TooMany, TooLarge, NameTwice, UnknownSwitch, LinkTwice, NoSuchLink, SwitchTwice, EndsDiffer, ShortPath, Memory, BadEvent, BadFormat, WidthZero, BadProof}

-- a fault stays the fault of all that follows
pub Refuses-step : {A B : Type 0} (e : InputFault) (g : Result A InputFault) (next : A → Result B InputFault) → Refuses e g → Refuses e (g >>= next)
Refuses-step NotJson g next h = rw h
Refuses-step (Missing place key) g next h = rw h
Refuses-step (WrongKind place) g next h = rw h
Refuses-step (NotWhole place) g next h = rw h
Refuses-step (TooMany place found limit) g next h = rw h
Refuses-step (TooLarge place found limit) g next h = rw h
Refuses-step (NameTwice place) g next h = rw h
Refuses-step (UnknownSwitch place) g next h = rw h
Refuses-step (LinkTwice place) g next h = rw h
Refuses-step (NoSuchLink place) g next h = rw h
Refuses-step (SwitchTwice place) g next h = rw h
Refuses-step (EndsDiffer place) g next h = rw h
Refuses-step (ShortPath place count) g next h = rw h
Refuses-step Memory g next h = tt
Refuses-step (BadEvent place) g next h = rw h
Refuses-step (BadFormat place format) g next h = rw h
Refuses-step (WidthZero place) g next h = rw h
Refuses-step (BadProof place) g next h = rw h

-- a fault of the step after a value
pub Refuses-next : {A B : Type 0} (e : InputFault) (g : Result A InputFault) (a : A) (next : A → Result B InputFault) → g ≡ Ok a → Refuses e (next a) → Refuses e (g >>= next)
Refuses-next e g a next is h = rw is h

-- the fault at one element is the fault of the list, where what is left adds up to the whole
pub Refuses-at : {A : Type 0} (e : InputFault) (f : Data → A → Result A InputFault) (left rest : Items) (d : Data) (a : A) (all : Result A InputFault) → left ≡ item d rest → add_each f left a ≡ all → Refuses e (f d a) → Refuses e all
Refuses-at e f left rest d a all is adds h =
    subst (λ (g : Result _ InputFault). Refuses e g) (sym (ap (λ ds. add_each f ds a) is) ∙ adds)
    (Refuses-step e (f d a) (λ b. add_each f rest b) h)

-- an element that is added leaves the rest
pub add_each-next : {A : Type 0} (f : Data → A → Result A InputFault) (left rest : Items) (d : Data) (a b : A) (all : Result A InputFault) → left ≡ item d rest → add_each f left a ≡ all → f d a ≡ Ok b → add_each f rest b ≡ all
add_each-next f left rest d a b all is adds one = sym (ap (λ g. g >>= λ c. add_each f rest c) one) ∙ sym (ap (λ ds. add_each f ds a) is) ∙ adds

-- where none is left, all are added
pub add_each-over : {A : Type 0} (f : Data → A → Result A InputFault) (left : Items) (a : A) (all : Result A InputFault) → left ≡ no_items → add_each f left a ≡ all → all ≡ Ok a
add_each-over f left a all is adds = sym adds ∙ ap (λ ds. add_each f ds a) is

-- these, and how long a list is
pub ruleset steps = (Refuses-step, Refuses-next, Refuses-at, add_each-next, add_each-over, items_len-item, items_len-none)
