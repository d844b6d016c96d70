-- What torn writes, one after the other, make of an image.
use Rattle.std.proofs.Common.{inr, ℕ, ◌≤◌, List, [], ◌∷◌, ◌++◌, length, arith, refl, subst, sym}
use Rattle.disk_model.specs.Crashes.{Stepped}
use Rattle.disk_model.specs.Memory.{Medium, MayLeave, Reaches}
use Rattle.disk_model.specs.Places.{EndWithin}
use Rattle.disk_model.specs.Writes.{Torn}
use Rattle.disk_model.proofs.Tearing.{Torn-none}

-- where nothing of them was done
pub Reaches-none : (synced : List ℕ) (pending : List (ℕ × ℕ)) → Reaches synced pending synced
Reaches-none synced [] = refl
Reaches-none synced (write ∷ later) = (synced, Torn-none write.0 write.1 synced, Reaches-none synced later)

-- the last of them comes after the others
pub Reaches-last : (synced : List ℕ) (pending : List (ℕ × ℕ)) (at n : ℕ) (c : List ℕ) → Reaches synced (pending ++ (at, n) ∷ []) c → Stepped (Torn at n) (Reaches synced pending) c
Reaches-last synced [] at n c reached = (synced, refl, subst (Torn at n synced) (sym reached.2) reached.1)
Reaches-last synced (write ∷ later) at n c reached =
    let last = Reaches-last reached.0 later at n c reached.2 in
    (last.0, (reached.0, reached.1, last.1), last.2)

-- what was synced is one of the images that a crash may leave
pub untorn : (medium : Medium) → MayLeave medium medium.synced
untorn medium = inr (Reaches-none medium.synced medium.pending)

-- it is no longer than what was synced, or the end of the furthest write
pub Reaches-length : (synced : List ℕ) (pending : List (ℕ × ℕ)) (c : List ℕ) (most : ℕ) → Reaches synced pending c → length synced ≤ most → EndWithin most pending
    → length c ≤ most
Reaches-length synced [] c most reached fits ends = rw reached fits
Reaches-length synced (write ∷ later) c most reached fits ends =
    Reaches-length reached.0 later c most reached.2 (omega (arith, reached.1.no_longer, fits, ends.0)) ends.1
