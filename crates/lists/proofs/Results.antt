-- What is said of a result, where it is known which it is.
use Rattle.std.proofs.Common.{Err, IfOk, Ok, Result, subst, sym, ◌≡◌, IsErrAnd}
use Rattle.std.specs.Prelude.{OnErr}

pub if_ok : {A E : Type 0} (read : Result A E) (value : A) (P : A → Type 0) → read ≡ Ok value → P value → IfOk read P
if_ok (Ok all) value P is holds = subst P (sym (cc is)) holds
if_ok (Err why) value P is holds = absurd (cc is)

pub of_ok : {A E : Type 0} (read : Result A E) (value : A) (P : A → Type 0) → read ≡ Ok value → IfOk read P → P value
of_ok read value P is holds = subst (λ r. IfOk r P) is holds

pub on_err : {A E : Type 0} (read : Result A E) (why : E) (P : Type 0) → IsErrAnd read (λ (e : E). e ≡ why) → P → OnErr read P
on_err (Ok value) why P is holds = tt
on_err (Err e) why P is holds = holds

-- what holds at any result holds at an error
pub at_err : {A E P : Type 0} (read : Result A E) → P → OnErr read P
at_err (Ok value) holds = tt
at_err (Err why) holds = holds
