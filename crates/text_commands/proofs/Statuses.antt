-- The ending of a status.
use Rattle.std.proofs.Common.{◌≡◌, ◌⊎◌, ◌==◌, ℕ, ◌∷◌, [], Bool, true, false, IsTrue, refl, sym, ◌∙◌, subst, inl, inr, arith}
use Rattle.std.specs.List.{list_any}
use Rattle.text_commands.specs.CommandEnds.{status_of}
use Rattle.text_commands.specs.Program.{IsStatus, IsUnfinished}
use Rattle.text_commands.specs.Unfinished.{unfinished_status}
use Rattle.text_commands.specs.declared.unfinished.Unfinished.{Unfinished}
use Rattle.text_commands.specs.declared.unfinished.Unfinished.TheVariants.{RoundsSpent, PortFault, Above, NotMine, NoAnswer, Held}
use Rattle.text_commands.specs.declared.command_end.CommandEnd.{CommandEnd}
use Rattle.text_commands.specs.declared.command_end.CommandEnd.TheVariants.{Done, Usage, AboveLimit, Input, NotValid, NoPlan, Unshown, ReadFault, WriteFault, DiskFault, GuestFault, Refused, NotFinished, OutOfMemory}

-- ---- the statuses of rollouts that aren't finished

abbrev is_one : ℕ → Bool
is_one n = list_any (λ s. s == n) (5 ∷ 9 ∷ 11 ∷ 14 ∷ [])

unfinished-one : (u : Unfinished) → is_one (unfinished_status u) ≡ true
unfinished-one (RoundsSpent rounds item number) = refl
unfinished-one (PortFault r switch) = refl
unfinished-one (Above item held begun) = refl
unfinished-one (NotMine r switch item) = refl
unfinished-one (NoAnswer r switch byte) = refl
unfinished-one (Held left) = refl

pub not-status : (n : ℕ) → is_one n ≡ false → (u : Unfinished) → unfinished_status u ≡ n → ⊥
not-status n other u h = let both : true ≡ false = sym (unfinished-one u) ∙ (subst (λ m. is_one m ≡ false) (sym h) other) in cc

unfinished-status : (u : Unfinished) → IsStatus (unfinished_status u)
unfinished-status (RoundsSpent rounds item number) = refl
unfinished-status (PortFault r switch) = refl
unfinished-status (Above item held begun) = refl
unfinished-status (NotMine r switch item) = refl
unfinished-status (NoAnswer r switch byte) = refl
unfinished-status (Held left) = refl

pub is-unfinished : (t : CommandEnd) → IsUnfinished (status_of t) → (u : Unfinished) × (t ≡ NotFinished u)
is-unfinished Done h = absurd cc
is-unfinished Usage h = absurd cc
is-unfinished AboveLimit h = absurd cc
is-unfinished (Input f) h = absurd cc
is-unfinished (NotValid p b) h = absurd cc
is-unfinished (NoPlan u) h = absurd cc
is-unfinished (Unshown u) h = absurd cc
is-unfinished ReadFault h = absurd cc
is-unfinished WriteFault h = absurd cc
is-unfinished DiskFault h = absurd cc
is-unfinished GuestFault h = absurd cc
is-unfinished (Refused e) h = absurd cc
is-unfinished (NotFinished u) h = (u, refl)
is-unfinished OutOfMemory h = absurd cc

-- ---- each status

pub is-done : (t : CommandEnd) → status_of t ≡ 0 → t ≡ Done
is-done Done h = refl
is-done Usage h = absurd (omega (arith, h))
is-done AboveLimit h = absurd (omega (arith, h))
is-done (Input f) h = absurd (omega (arith, h))
is-done (NotValid p b) h = absurd (omega (arith, h))
is-done (NoPlan u) h = absurd (omega (arith, h))
is-done (Unshown u) h = absurd (omega (arith, h))
is-done ReadFault h = absurd (omega (arith, h))
is-done WriteFault h = absurd (omega (arith, h))
is-done DiskFault h = absurd (omega (arith, h))
is-done GuestFault h = absurd (omega (arith, h))
is-done (Refused e) h = absurd (omega (arith, h))
is-done (NotFinished u) h = absurd (not-status 0 refl u h)
is-done OutOfMemory h = absurd (omega (arith, h))

pub is-usage : (t : CommandEnd) → status_of t ≡ 2 → t ≡ Usage
is-usage Done h = absurd (omega (arith, h))
is-usage Usage h = refl
is-usage AboveLimit h = absurd (omega (arith, h))
is-usage (Input f) h = absurd (omega (arith, h))
is-usage (NotValid p b) h = absurd (omega (arith, h))
is-usage (NoPlan u) h = absurd (omega (arith, h))
is-usage (Unshown u) h = absurd (omega (arith, h))
is-usage ReadFault h = absurd (omega (arith, h))
is-usage WriteFault h = absurd (omega (arith, h))
is-usage DiskFault h = absurd (omega (arith, h))
is-usage GuestFault h = absurd (omega (arith, h))
is-usage (Refused e) h = absurd (omega (arith, h))
is-usage (NotFinished u) h = absurd (not-status 2 refl u h)
is-usage OutOfMemory h = absurd (omega (arith, h))

pub is-read-fault : (t : CommandEnd) → status_of t ≡ 6 → t ≡ ReadFault
is-read-fault Done h = absurd (omega (arith, h))
is-read-fault Usage h = absurd (omega (arith, h))
is-read-fault AboveLimit h = absurd (omega (arith, h))
is-read-fault (Input f) h = absurd (omega (arith, h))
is-read-fault (NotValid p b) h = absurd (omega (arith, h))
is-read-fault (NoPlan u) h = absurd (omega (arith, h))
is-read-fault (Unshown u) h = absurd (omega (arith, h))
is-read-fault ReadFault h = refl
is-read-fault WriteFault h = absurd (omega (arith, h))
is-read-fault DiskFault h = absurd (omega (arith, h))
is-read-fault GuestFault h = absurd (omega (arith, h))
is-read-fault (Refused e) h = absurd (omega (arith, h))
is-read-fault (NotFinished u) h = absurd (not-status 6 refl u h)
is-read-fault OutOfMemory h = absurd (omega (arith, h))

pub is-write-fault : (t : CommandEnd) → status_of t ≡ 7 → t ≡ WriteFault
is-write-fault Done h = absurd (omega (arith, h))
is-write-fault Usage h = absurd (omega (arith, h))
is-write-fault AboveLimit h = absurd (omega (arith, h))
is-write-fault (Input f) h = absurd (omega (arith, h))
is-write-fault (NotValid p b) h = absurd (omega (arith, h))
is-write-fault (NoPlan u) h = absurd (omega (arith, h))
is-write-fault (Unshown u) h = absurd (omega (arith, h))
is-write-fault ReadFault h = absurd (omega (arith, h))
is-write-fault WriteFault h = refl
is-write-fault DiskFault h = absurd (omega (arith, h))
is-write-fault GuestFault h = absurd (omega (arith, h))
is-write-fault (Refused e) h = absurd (omega (arith, h))
is-write-fault (NotFinished u) h = absurd (not-status 7 refl u h)
is-write-fault OutOfMemory h = absurd (omega (arith, h))

pub is-disk-fault : (t : CommandEnd) → status_of t ≡ 8 → t ≡ DiskFault
is-disk-fault Done h = absurd (omega (arith, h))
is-disk-fault Usage h = absurd (omega (arith, h))
is-disk-fault AboveLimit h = absurd (omega (arith, h))
is-disk-fault (Input f) h = absurd (omega (arith, h))
is-disk-fault (NotValid p b) h = absurd (omega (arith, h))
is-disk-fault (NoPlan u) h = absurd (omega (arith, h))
is-disk-fault (Unshown u) h = absurd (omega (arith, h))
is-disk-fault ReadFault h = absurd (omega (arith, h))
is-disk-fault WriteFault h = absurd (omega (arith, h))
is-disk-fault DiskFault h = refl
is-disk-fault GuestFault h = absurd (omega (arith, h))
is-disk-fault (Refused e) h = absurd (omega (arith, h))
is-disk-fault (NotFinished u) h = absurd (not-status 8 refl u h)
is-disk-fault OutOfMemory h = absurd (omega (arith, h))

pub is-fleet-fault : (t : CommandEnd) → status_of t ≡ 9 → (t ≡ GuestFault) ⊎ ((u : Unfinished) × (t ≡ NotFinished u))
is-fleet-fault Done h = absurd (omega (arith, h))
is-fleet-fault Usage h = absurd (omega (arith, h))
is-fleet-fault AboveLimit h = absurd (omega (arith, h))
is-fleet-fault (Input f) h = absurd (omega (arith, h))
is-fleet-fault (NotValid p b) h = absurd (omega (arith, h))
is-fleet-fault (NoPlan u) h = absurd (omega (arith, h))
is-fleet-fault (Unshown u) h = absurd (omega (arith, h))
is-fleet-fault ReadFault h = absurd (omega (arith, h))
is-fleet-fault WriteFault h = absurd (omega (arith, h))
is-fleet-fault DiskFault h = absurd (omega (arith, h))
is-fleet-fault GuestFault h = inl refl
is-fleet-fault (Refused e) h = absurd (omega (arith, h))
is-fleet-fault (NotFinished u) h = inr (u, refl)
is-fleet-fault OutOfMemory h = absurd (omega (arith, h))

pub is-status : (t : CommandEnd) → IsStatus (status_of t)
is-status Done = refl
is-status Usage = refl
is-status AboveLimit = refl
is-status (Input f) = refl
is-status (NotValid p b) = refl
is-status (NoPlan u) = refl
is-status (Unshown u) = refl
is-status ReadFault = refl
is-status WriteFault = refl
is-status DiskFault = refl
is-status GuestFault = refl
is-status (Refused e) = refl
is-status (NotFinished u) = unfinished-status u
is-status OutOfMemory = refl
