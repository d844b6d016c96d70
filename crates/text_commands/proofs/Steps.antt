-- What follows a step of a command: a fault ends the run, and a value is handed on.
use Rattle.std.proofs.Common.{◌≡◌, ◌⊎◌, Result, Ok, Err, refl, ap, inl, inr}
use Rattle.problem_json.specs.GrammarResults as grammar
use Rattle.problem_json.specs.declared.fault.InputFault.{InputFault}
use Rattle.problem_json.specs.declared.fault.InputFault.TheVariants as fault
use Rattle.text_commands.specs.Answers.{◌>>=◌, or_ending}
use Rattle.text_commands.specs.CommandEnds.{ending_of}
use Rattle.text_commands.specs.Runs.{Gives}
use Rattle.text_commands.specs.declared.command_end.CommandEnd.{CommandEnd}
use Rattle.text_commands.specs.declared.command_end.CommandEnd.TheVariants.{Done, Usage, AboveLimit, Input, NotValid, NoPlan, Unshown, ReadFault, WriteFault, DiskFault, GuestFault, Refused, NotFinished, OutOfMemory}

-- a fault of the grammar ends the run as it says, and lack of memory for want of it
pub fault-ends : (e : InputFault) → (ending_of e ≡ Input e) ⊎ (ending_of e ≡ OutOfMemory)
fault-ends fault.NotJson = inl refl
fault-ends (fault.Missing p k) = inl refl
fault-ends (fault.WrongKind p) = inl refl
fault-ends (fault.NotWhole p) = inl refl
fault-ends (fault.TooMany p n m) = inl refl
fault-ends (fault.TooLarge p n m) = inl refl
fault-ends (fault.NameTwice p) = inl refl
fault-ends (fault.UnknownSwitch p) = inl refl
fault-ends (fault.LinkTwice p) = inl refl
fault-ends (fault.NoSuchLink p) = inl refl
fault-ends (fault.SwitchTwice p) = inl refl
fault-ends (fault.EndsDiffer p) = inl refl
fault-ends (fault.ShortPath p n) = inl refl
fault-ends (fault.BadEvent p) = inl refl
fault-ends (fault.BadFormat p n) = inl refl
fault-ends (fault.WidthZero p) = inl refl
fault-ends (fault.BadProof p) = inl refl
fault-ends fault.Memory = inr refl

-- a fault of the grammar is the answer's ending
pub fault-gives : {A B : Type 0} (e : InputFault) (read : Result A InputFault) (next : A → Result B CommandEnd) → grammar.Refuses e read → Gives {A = B} (Err (ending_of e)) (or_ending read >>= next)
fault-gives fault.NotJson read next h = ap (λ r. or_ending r >>= next) h
fault-gives (fault.Missing p k) read next h = ap (λ r. or_ending r >>= next) h
fault-gives (fault.WrongKind p) read next h = ap (λ r. or_ending r >>= next) h
fault-gives (fault.NotWhole p) read next h = ap (λ r. or_ending r >>= next) h
fault-gives (fault.TooMany p n m) read next h = ap (λ r. or_ending r >>= next) h
fault-gives (fault.TooLarge p n m) read next h = ap (λ r. or_ending r >>= next) h
fault-gives (fault.NameTwice p) read next h = ap (λ r. or_ending r >>= next) h
fault-gives (fault.UnknownSwitch p) read next h = ap (λ r. or_ending r >>= next) h
fault-gives (fault.LinkTwice p) read next h = ap (λ r. or_ending r >>= next) h
fault-gives (fault.NoSuchLink p) read next h = ap (λ r. or_ending r >>= next) h
fault-gives (fault.SwitchTwice p) read next h = ap (λ r. or_ending r >>= next) h
fault-gives (fault.EndsDiffer p) read next h = ap (λ r. or_ending r >>= next) h
fault-gives (fault.ShortPath p n) read next h = ap (λ r. or_ending r >>= next) h
fault-gives (fault.BadEvent p) read next h = ap (λ r. or_ending r >>= next) h
fault-gives (fault.BadFormat p n) read next h = ap (λ r. or_ending r >>= next) h
fault-gives (fault.WidthZero p) read next h = ap (λ r. or_ending r >>= next) h
fault-gives (fault.BadProof p) read next h = ap (λ r. or_ending r >>= next) h
fault-gives fault.Memory read next h = tt

-- what follows a value that was read
pub next-is : {A B : Type 0} (read : Result A InputFault) (a : A) (next : A → Result B CommandEnd) → read ≡ Ok a → or_ending read >>= next ≡ next a
next-is read a next h = ap (λ r. or_ending r >>= next) h

-- an ending of a step is that of what follows it
pub step-gives : {A B : Type 0} (e : CommandEnd) (step : Result A CommandEnd) (next : A → Result B CommandEnd) → Gives {A = A} (Err e) step → Gives {A = B} (Err e) (step >>= next)
step-gives Done step next h = ap (λ r. r >>= next) h
step-gives Usage step next h = ap (λ r. r >>= next) h
step-gives AboveLimit step next h = ap (λ r. r >>= next) h
step-gives (Input f) step next h = ap (λ r. r >>= next) h
step-gives (NotValid p b) step next h = ap (λ r. r >>= next) h
step-gives (NoPlan u) step next h = ap (λ r. r >>= next) h
step-gives (Unshown u) step next h = ap (λ r. r >>= next) h
step-gives ReadFault step next h = ap (λ r. r >>= next) h
step-gives WriteFault step next h = ap (λ r. r >>= next) h
step-gives DiskFault step next h = ap (λ r. r >>= next) h
step-gives GuestFault step next h = ap (λ r. r >>= next) h
step-gives (Refused f) step next h = ap (λ r. r >>= next) h
step-gives (NotFinished u) step next h = ap (λ r. r >>= next) h
step-gives OutOfMemory step next h = tt
