-- What an answer of the checker says. Lack of memory says nothing.
use Rattle.std.specs.Prelude.{◌≡◌, Bool, true, false, Option, Some, None, Result, Ok, Err}
use Rattle.plan_check.specs.declared.broken.Broken.{Broken}
use Rattle.plan_check.specs.declared.fault.PlanFault.{PlanFault}
use Rattle.plan_check.specs.declared.fault.PlanFault.TheVariants as fault

-- the first broken clause, or that there is none
abbrev pub IsVerdict : {A : Type 0} → Result A PlanFault → Option Broken → Type 0
IsVerdict (Ok a) broken = broken ≡ None
IsVerdict (Err (fault.Broken b)) broken = broken ≡ Some b
IsVerdict (Err fault.Memory) broken = Unit {0}

-- whether the plan is valid
abbrev pub TellsValid : {A : Type 0} → Result A PlanFault → Bool → Type 0
TellsValid (Ok a) valid = valid ≡ true
TellsValid (Err (fault.Broken b)) valid = valid ≡ false
TellsValid (Err fault.Memory) valid = Unit {0}
