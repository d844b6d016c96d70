-- A reader's answer after a step of the grammar: the fault of the step, or what the next step says.
use Rattle.std.proofs.Common.{◌≡◌, ℕ, ◌+◌, Result, Ok, ap, sym, subst, ◌∙◌}
use Rattle.serde_json.specs.Data.{Data, Items, no_items, item}
use Rattle.json_data.proofs.Lengths.{items_len-item, items_len-none}
use Rattle.target_json.specs.Results.{◌>>=◌, add_from, Refuses}
use Rattle.target_json.specs.declared.fault.TargetFault.{TargetFault}
use Rattle.target_json.specs.declared.fault.TargetFault.TheVariants.{NotJson, At, Memory}

-- a fault stays the fault of all that follows
pub Refuses-step : {A B : Type 0} (e : TargetFault) (g : Result A TargetFault) (next : A → Result B TargetFault) → Refuses e g → Refuses e (g >>= next)
Refuses-step NotJson g next h = rw h
Refuses-step (At place wrong) g next h = rw h
Refuses-step Memory g next h = tt

-- a fault of the step after a value
pub Refuses-next : {A B : Type 0} (e : TargetFault) (g : Result A TargetFault) (a : A) (next : A → Result B TargetFault) → g ≡ Ok a → Refuses e (next a) → Refuses e (g >>= next)
Refuses-next e g a next is h = rw is h

-- the fault at one element is the fault of the list, where what is left adds up to the whole
pub Refuses-at : {A : Type 0} (e : TargetFault) (f : ℕ → Data → A → Result A TargetFault) (n : ℕ) (left rest : Items) (d : Data) (a : A) (all : Result A TargetFault) → left ≡ item d rest → add_from f n left a ≡ all → Refuses e (f n d a)
    → Refuses e all
Refuses-at e f n left rest d a all is adds h =
    subst (λ (g : Result _ TargetFault). Refuses e g) (sym (ap (λ ds. add_from f n ds a) is) ∙ adds)
    (Refuses-step e (f n d a) (λ b. add_from f (n + 1) rest b) h)

-- an element that is added leaves the rest
pub add_from-next : {A : Type 0} (f : ℕ → Data → A → Result A TargetFault) (n : ℕ) (left rest : Items) (d : Data) (a b : A) (all : Result A TargetFault) → left ≡ item d rest → add_from f n left a ≡ all → f n d a ≡ Ok b
    → add_from f (n + 1) rest b ≡ all
add_from-next f n left rest d a b all is adds one = sym (ap (λ g. g >>= λ c. add_from f (n + 1) rest c) one) ∙ sym (ap (λ ds. add_from f n ds a) is) ∙ adds

-- where none is left, all are added
pub add_from-over : {A : Type 0} (f : ℕ → Data → A → Result A TargetFault) (n : ℕ) (left : Items) (a : A) (all : Result A TargetFault) → left ≡ no_items → add_from f n left a ≡ all → all ≡ Ok a
add_from-over f n left a all is adds = sym adds ∙ ap (λ ds. add_from f n ds a) is

-- these, and how long a list is
pub ruleset steps = (Refuses-step, Refuses-next, Refuses-at, add_from-next, add_from-over, items_len-item, items_len-none)
