-- What comes of a reading, and of a second one after it.
use Rattle.std.proofs.Common.{◌≡◌, ◌≢◌, inl, inr, ℕ, List, take, Result, Ok, Err, IfErr, IfOk, refl, sym, subst}
use Rattle.wan_edge.specs.ReadAll.{ReadsToEnd}
use Rattle.wan_edge.specs.Streams.{Rose, SourceTrace}
use Rattle.wan_edge.specs.declared.reading.ReadFault.{ReadFault}
use Rattle.wan_edge.specs.declared.reading.ReadFault.TheVariants as reading
use Rattle.file_sight.specs.Sights.{IsRead, Looks, ReadsAll, Rewinds, front_length, unseen_of}
use Rattle.file_sight.specs.declared.unseen.Unseen.{Unseen}
use Rattle.file_sight.specs.declared.unseen.Unseen.TheVariants.{Failed, InUse, Memory}

-- a reading that failed
abbrev pub IsFailure : Result (List ℕ) ReadFault → Type 0
IsFailure answer = answer ≡ Err reading.Failed

module _ {W : Type 0} (trace : W → SourceTrace) (limit : ℕ) where
  module _ (before first now : W) (rewinds : Rewinds (trace before) (trace first)) where
    unread : (why : ReadFault) → ReadsToEnd limit (trace first) (Err why) (trace now) → (IsFailure (Err why) → Rose (trace first).faults (trace now).faults) → ReadsAll trace limit before (Err (unseen_of why)) now
    unread reading.Failed read cause = record { first = first; rewinds = rewinds; cause = inl (cause refl) }
    unread reading.TooLong read cause = record { first = first; rewinds = rewinds; cause = inr read }
    unread reading.Memory read cause = tt

    pub not_read : (why : ReadFault) (unseen : Unseen) → unseen ≡ unseen_of why → ReadsToEnd limit (trace first) (Err why) (trace now)
        → (IsFailure (Err why) → Rose (trace first).faults (trace now).faults) → ReadsAll trace limit before (Err unseen) now
    not_read why unseen is read cause = subst (λ (u : Unseen). ReadsAll trace limit before (Err u) now) (sym is) (unread why read cause)

  -- a first reading that came to nothing
  pub unseen_first : (before now : W) (why : Unseen) → ReadsAll trace limit before (Err why) now → Looks trace limit before (Err why) now
  unseen_first before now Failed unread = inl unread
  unseen_first before now InUse never = absurd never
  unseen_first before now Memory any = tt

  module _ (before between now : W) (bytes : List ℕ) (read : IsRead trace limit before between bytes) where
    -- a second one that came to nothing
    pub unseen_again : (why : Unseen) → ReadsAll trace limit between (Err why) now → Looks trace limit before (Err why) now
    unseen_again Failed unread = inr (record { bytes = bytes; between = between; read = read; unread = unread })
    unseen_again InUse never = absurd never
    unseen_again Memory any = tt

    -- and one that says whether the front is the same
    pub seen_again : (later : List ℕ) (answer : Result (List ℕ) Unseen) → IsRead trace limit between now later
        → IfOk answer (λ kept. (kept ≡ bytes) × (take front_length later ≡ take front_length bytes))
        → IfErr answer (λ why. (why ≡ InUse) × (take front_length later ≢ take front_length bytes)) → Looks trace limit before answer now
    seen_again later (Ok kept) again ok err =
        subst (λ (k : List ℕ). Looks trace limit before (Ok k) now) (sym ok.0) (record { between = between; read = read; later = later; again = again; still = ok.1 })
    seen_again later (Err why) again ok err =
        subst (λ (w : Unseen). Looks trace limit before (Err w) now) (sym err.0) (record { bytes = bytes; between = between; read = read; later = later; again = again; moved = err.1 })
