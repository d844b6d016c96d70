-- What is read and written at places of an open file, and what a file tells as a disk.
use Rattle.std.specs.Prelude.{◌≡◌, ℕ, List, take, drop, Option, None, IfSome, ⊤}
use Rattle.disk_model.specs.Traces.{DiskTrace}
use Rattle.disk_model.specs.Writes.{Writes}

-- these are the n bytes that the open file has from a place on, or as many of them as it has, where it tells its bytes
abbrev pub StandsAt : {F : Type 0} → (F → Option (List ℕ)) → Option F → ℕ → ℕ → List ℕ → Type 0
StandsAt bytes opened at n given = IfSome opened (λ file. IfSome (bytes file) (λ all. given ≡ take n (drop at all)))

-- the file that was open has these bytes from a place on now, and else what it had
abbrev pub WritesAt : {F : Type 0} → (F → Option (List ℕ)) → Option F → ℕ → List ℕ → Option F → Type 0
WritesAt bytes before at from after = IfSome before (λ file. IfSome after (λ now. Writes at from (bytes file) (bytes now)))

-- nothing but how often it has failed
abbrev pub told_with : ℕ → DiskTrace
told_with faults = record { bytes = None; may_leave = λ _. ⊤; moment = 0; left_since = λ _ _. ⊤; faults = faults }
