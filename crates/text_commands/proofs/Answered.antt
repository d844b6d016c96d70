-- What a command answers, from what it made.
use Rattle.std.proofs.Common.{◌≡◌, ℕ, List, Result, Ok, Err, IfOk, IfSome, IsOkAnd, MatchResult, ap, sym, subst}
use Rattle.sim_run.specs.declared.draft.DrawnScript.{DrawnScript}
use Rattle.text_commands.specs.Answered.{drawn_in, told, text_in}
use Rattle.text_commands.specs.Answers.{told_by}
use Rattle.text_commands.specs.Drawn.{IsReadBack}
use Rattle.text_commands.specs.Runs.{Gives}
use Rattle.text_commands.specs.declared.answer.Answer.{Answer}
use Rattle.text_commands.specs.declared.answer.Answer.TheVariants.{Made, Rehearsed}
use Rattle.text_commands.specs.declared.command_end.CommandEnd.{CommandEnd}

-- what was found, made an answer of one kind, is told by the text of that kind
pub mapped-told : {A : Type 0} (kind : A → Answer) (found : Result A CommandEnd) (r : Result Answer CommandEnd)
    → MatchResult found (λ a. IsOkAnd r (λ answer. answer ≡ kind a)) (λ e. r ≡ Err e) → told r ≡ told_by (λ a. text_in (kind a)) found
mapped-told kind (Ok a) (Ok answer) is = ap (λ x. Ok (text_in x)) is
mapped-told kind (Ok a) (Err e) is = absurd is
mapped-told kind (Err e) r is = ap told is

-- a text that was made is told as it is
pub made-told : (found : Result (List ℕ) CommandEnd) (r : Result Answer CommandEnd)
    → MatchResult found (λ text. IsOkAnd r (λ answer. answer ≡ Made text)) (λ e. r ≡ Err e) → told r ≡ found
made-told (Ok text) (Ok answer) is = ap (λ x. Ok (text_in x)) is
made-told (Ok text) (Err e) is = absurd is
made-told (Err e) r is = ap told is

pub told-gives : (r : Result Answer CommandEnd) (made wanted asked : Result (List ℕ) CommandEnd) → told r ≡ made → wanted ≡ asked → Gives made wanted → Gives (told r) asked
told-gives r made wanted asked is same gives = subst (λ t. Gives t asked) (sym is) (subst (λ w. Gives made w) same gives)

pub told-safe : (r : Result Answer CommandEnd) (made : Result (List ℕ) CommandEnd) (Safe Wanted : Type 0) → told r ≡ made → (Safe → Wanted) → IfOk made (λ text. Safe) → IfOk r (λ answer. IfSome (drawn_in answer) IsReadBack → Wanted)
told-safe (Ok answer) (Ok text) Safe Wanted is so safe = λ back. so safe
told-safe (Ok answer) (Err e) Safe Wanted is so safe = cc
told-safe (Err e) made Safe Wanted is so safe = tt

pub found-safe : {A : Type 0} (text : A → List ℕ) (r : Result Answer CommandEnd) (found : Result A CommandEnd) (Safe Wanted : Type 0) → told r ≡ told_by text found → (Safe → Wanted) → IfOk found (λ a. Safe) → IfOk r (λ answer. IfSome (drawn_in answer) IsReadBack → Wanted)
found-safe text (Ok answer) (Ok a) Safe Wanted is so safe = λ back. so safe
found-safe text (Ok answer) (Err e) Safe Wanted is so safe = cc
found-safe text (Err e) found Safe Wanted is so safe = tt

-- what is known of a script that was drawn, once it is read back
pub drawn-safe : (found : Result DrawnScript CommandEnd) (r : Result Answer CommandEnd) (Safe Wanted : Type 0)
    → MatchResult found (λ a. IsOkAnd r (λ answer. answer ≡ Rehearsed a)) (λ e. r ≡ Err e) → (Safe → Wanted) → IfOk found (λ a. IsReadBack a → Safe)
    → IfOk r (λ answer. IfSome (drawn_in answer) IsReadBack → Wanted)
drawn-safe (Ok a) (Ok answer) Safe Wanted is so safe = λ back. so (safe (subst (λ (x : Answer). IfSome (drawn_in x) IsReadBack) is back))
drawn-safe (Ok a) (Err e) Safe Wanted is so safe = absurd is
drawn-safe (Err e) (Ok answer) Safe Wanted is so safe = cc
drawn-safe (Err e) (Err f) Safe Wanted is so safe = tt
