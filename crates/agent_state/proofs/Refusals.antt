-- Why a file isn't opened, and what that says of its image and of its disk.
use Rattle.std.proofs.Common.{◌≡◌, arith, ℕ, ◌≤◌, inl, inr, List, Option, Some, None, IfSome, IfErr, Result, Ok, Err, sym, subst}
use Rattle.std.specs.Result.{IsErrAnd}
use Rattle.agent_state.specs.Disks.{Causes, RoseAtDisk}
use Rattle.agent_state.specs.Opened.{IsMidway, IsMisread, IsRefused}
use Rattle.agent_state.specs.declared.fault.StateFault.{StateFault}
use Rattle.agent_state.specs.declared.fault.StateFault.TheVariants.{Damaged, Disk, Memory, NotState}

-- an error that is handed on
pub given_err : {A : Type 0} (result : Result A StateFault) (fault : StateFault) (P : StateFault → Type 0) → IsErrAnd result (λ given. given ≡ fault) → P fault → IfErr result P
given_err (Ok a) fault P is holds = tt
given_err (Err b) fault P is holds = subst P (sym is) holds

-- ---- the disk

pub causes_at_disk : (fault : StateFault) (old new : ℕ) → Causes fault old new → RoseAtDisk fault old new
causes_at_disk Disk old new cause = cause
causes_at_disk Memory old new cause = tt
causes_at_disk (NotState first) old new cause = tt
causes_at_disk (Damaged place) old new cause = tt

pub at_disk_later : (fault : StateFault) (before mid now : ℕ) → RoseAtDisk fault mid now → before ≤ mid → RoseAtDisk fault before now
at_disk_later Disk before mid now (inl more) no_less = inl (omega (arith, more, no_less))
at_disk_later Disk before mid now (inr most) no_less = inr most
at_disk_later Memory before mid now rose no_less = tt
at_disk_later (NotState first) before mid now rose no_less = tt
at_disk_later (Damaged place) before mid now rose no_less = tt

-- what is read can't be the disk's fault
pub misread_at_disk : (fault : StateFault) (image : List ℕ) (old new : ℕ) → IsMisread fault image → RoseAtDisk fault old new
misread_at_disk Disk image old new is = absurd is
misread_at_disk Memory image old new is = tt
misread_at_disk (NotState first) image old new is = tt
misread_at_disk (Damaged place) image old new is = tt

-- ---- the image

pub midway_misread : (fault : StateFault) (image : List ℕ) → IsMidway fault → IsMisread fault image
midway_misread Disk image is = absurd is
midway_misread Memory image is = tt
midway_misread (NotState first) image is = absurd is
midway_misread (Damaged place) image is = tt

pub disk_refused : (told : Option (List ℕ)) → IfSome told (IsRefused Disk)
disk_refused None = tt
disk_refused (Some image) = tt

refused_still : (fault : StateFault) (image : List ℕ) (old new : ℕ) → Causes fault old new → IsRefused fault image
refused_still Disk image old new cause = tt
refused_still Memory image old new cause = tt
refused_still (NotState first) image old new cause = absurd cause
refused_still (Damaged place) image old new cause = tt

pub causes_refused : (fault : StateFault) (told : Option (List ℕ)) (old new : ℕ) → Causes fault old new → IfSome told (IsRefused fault)
causes_refused fault None old new cause = tt
causes_refused fault (Some image) old new cause = refused_still fault image old new cause

misread_still : (fault : StateFault) (image : List ℕ) → IsMisread fault image → IsRefused fault image
misread_still Disk image is = tt
misread_still Memory image is = tt
misread_still (NotState first) image is = is
misread_still (Damaged place) image is = tt

-- what was read is what the disk told
pub misread_refused : (fault : StateFault) (told : Option (List ℕ)) (image : List ℕ) → IfSome told (λ all. image ≡ all) → IsMisread fault image → IfSome told (IsRefused fault)
misread_refused fault None image read is = tt
misread_refused fault (Some all) image read is = subst (IsRefused fault) read (misread_still fault image is)
