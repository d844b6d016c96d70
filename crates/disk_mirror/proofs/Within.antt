-- How many bytes are told after an opening.
use Rattle.std.proofs.Common.{◌≡◌, ℕ, ◌≤◌, length, Option, Some, None, Result, Ok, Err, IfOk, IfSome, OnOk, refl, sym, ap, subst}
use Rattle.wan_edge.specs.declared.stream.Failed.{Failed}
use Rattle.disk_model.specs.Memory.{Timeline}
use Rattle.disk_mirror.specs.Mirrors.{IsWithin, Mirrored, bytes_in, trace_in, trace_of}
use Rattle.disk_mirror.specs.Openings.{OpensWithin}

-- what is told is what was read, where nothing was told before
told_within : (most : ℕ) (old new : Option Timeline) → (old ≡ None → IsWithin most new) → bytes_in old ≡ None → IfSome (bytes_in new) (λ all. length all ≤ most)
told_within most None None within untold = tt
told_within most None (Some t) within untold = within refl
told_within most (Some t) new within untold = absurd (cc untold)

-- the same of an answer that was counted
pub opens_within : {D : Type 0} (old mid now : Mirrored D) (faults most : ℕ) (answer result : Result (Unit {0}) Failed) → now ≡ mid → OnOk answer (old.course ≡ None → IsWithin most mid.course) → IfOk result (λ x. answer ≡ Ok x)
    → OnOk result (OpensWithin most (trace_of old) (trace_in now.course faults))
opens_within old mid now faults most answer (Err fault) is within same = tt
opens_within old mid now faults most answer (Ok done) is within same =
    told_within most old.course now.course
    (subst (λ (c : Option Timeline). old.course ≡ None → IsWithin most c) (ap (λ (m : Mirrored _). m.course) (sym is)) (subst (λ (r : Result (Unit {0}) Failed). OnOk r (old.course ≡ None → IsWithin most mid.course)) same within))
