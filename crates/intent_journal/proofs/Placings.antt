-- What placing a journal finds, and what it leaves.
use Rattle.std.proofs.Common.{◌≡◌, inl, inr, ◌⊎◌, ⊎_elim, ◌==◌, true, false, ℕ, ◌≤◌, List, Option, Some, None, IfSome, Result, Ok, Err, OnOk, if◌then◌else◌, refl, sym, subst, ◌∙◌, ap, arith}
use Rattle.std.specs.Prelude.{is_some}
use Rattle.std.specs.Option.{option_map}
use Rattle.lists.proofs.Conditions.{if_either}
use Rattle.disk_model.specs.Traces.{DiskTrace}
use Rattle.disk_model.specs.Crashes.{Holds, IsDurable}
use Rattle.disk_model.specs.Moments.{LeavesOnly}
use Rattle.disk_model.proofs.Running.{LeavesOnly-chain, LeavesOnly-weaker}
use Rattle.intent_journal.specs.declared.fault.JournalFault.{JournalFault}
use Rattle.intent_journal.specs.declared.fault.JournalFault.TheVariants.{BadStart, Disk, Illegal, Memory, NotJournal, OtherPlan}
use Rattle.intent_journal.specs.declared.found.Found.{Found}
use Rattle.disk_model.specs.Numbers.{byte_at}
use Rattle.intent_journal.specs.Parts.{Kept}
use Rattle.intent_journal.specs.Images.{is_blank, journal_in, kept_at, live_part, open_journal, slot_at}
use Rattle.intent_journal.specs.Phases.{IsFound}
use Rattle.intent_journal.specs.Placements.{IsNeither, IsPlacingFault, MayBePlaced}
use Rattle.intent_journal.specs.Reading.{live_side}
use Rattle.intent_journal.specs.Whole.{Causes}
use Rattle.intent_journal.specs.Faults.{IsMemory}
use Rattle.intent_journal.proofs.Blanks.{live_part-side}
use Rattle.intent_journal.proofs.Closings.{found_keeps}

pub found_some : (found : Found) (image : List ℕ) → IsFound found image → is_some (journal_in image) ≡ true
found_some found image is = ap is_some (found_keeps found image is)

-- an image with no live slot
pub side_neither : (image : List ℕ) (first : ℕ) → is_blank image ≡ false → first ≡ byte_at 0 image → live_side image ≡ None → IsNeither first image
side_neither image first other is none =
    let part : live_part image ≡ None = live_part-side image ∙ ap (option_map (λ (s : ℕ). kept_at (slot_at s image) image)) none in
    record { not_blank = other; no_journal = ap (λ (p : Option Kept). if byte_at 0 image == open_journal then p else None) part ∙ if_either (byte_at 0 image == open_journal) None; begins = is }

-- why reading failed, and why placing did
pub cause_of_reading : (fault : JournalFault) (told : Option (List ℕ)) (old new : ℕ) → Causes fault old new → IsPlacingFault fault told old new
cause_of_reading Disk told old new cause = cause
cause_of_reading Memory told old new cause = tt
cause_of_reading (NotJournal first) told old new cause = absurd cause
cause_of_reading (OtherPlan kept wanted) told old new cause = absurd cause
cause_of_reading (Illegal place) told old new cause = absurd cause
cause_of_reading BadStart told old new cause = absurd cause

pub cause_of_memory : (fault : JournalFault) (told : Option (List ℕ)) (old new : ℕ) → IsMemory fault → IsPlacingFault fault told old new
cause_of_memory fault told old new memory = subst (λ (f : JournalFault). IsPlacingFault f told old new) (sym memory) tt

-- a cause after other calls
pub cause_later : (fault : JournalFault) (told before : Option (List ℕ)) (old mid new : ℕ) → told ≡ before → old ≤ mid → IsPlacingFault fault told mid new → IsPlacingFault fault before old new
cause_later Disk told before old mid new same later cause = ⊎_elim (λ rose. inl (omega (arith, rose, later))) inr cause
cause_later Memory told before old mid new same later cause = tt
cause_later (NotJournal first) told before old mid new same later cause = subst (λ (t : Option (List ℕ)). IfSome t (IsNeither first)) same cause
cause_later (OtherPlan kept wanted) told before old mid new same later cause = absurd cause
cause_later (Illegal place) told before old mid new same later cause = absurd cause
cause_later BadStart told before old mid new same later cause = absurd cause

-- the image that was read
pub read_holds : (image : List ℕ) (told before : Option (List ℕ)) (left : List ℕ → Type 0) → told ≡ before → IfSome before (λ all. image ≡ all) → IsDurable told left → Holds (λ all. image ≡ all) told left
read_holds image None before left same read durable = tt
read_holds image (Some all) before left same read durable = (subst (λ (t : Option (List ℕ)). IfSome t (λ b. image ≡ b)) (sym same) read, durable)

-- what may be done of the image that was read may be done of what is told
pub read_may : {X E : Type 0} (result : Result X E) (image : List ℕ) (told : Option (List ℕ)) → IfSome told (λ all. image ≡ all) → OnOk result (MayBePlaced image) → OnOk result (IfSome told MayBePlaced)
read_may (Ok x) image None read may = tt
read_may (Ok x) image (Some all) read may = subst MayBePlaced read may
read_may (Err e) image told read may = tt

module _ {D : Type 0} (trace : D → DiskTrace) where
  -- what is known of the image that is told makes one word another
  pub known_run : (S : List ℕ → Type 0) (P Q : List ℕ → List ℕ → Type 0) (told : Option (List ℕ)) (left : List ℕ → Type 0) (old new : D) → Holds S told left
      → ((image c : List ℕ) → S image → P image c → Q image c) → IfSome told (λ image. LeavesOnly trace old new (P image)) → IfSome told (λ image. LeavesOnly trace old new (Q image))
  known_run S P Q None left old new holds becomes run = tt
  known_run S P Q (Some image) left old new holds becomes run =
      LeavesOnly-weaker trace old new (P image) (Q image) run (λ c. becomes image c holds.0)

  -- reading alone
  pub left_run : (L : List ℕ → Type 0) (Q : List ℕ → List ℕ → Type 0) (told : Option (List ℕ)) (old new : D) → LeavesOnly trace old new L
      → IfSome told (λ image. LeavesOnly trace old new (λ c. L c ⊎ Q image c))
  left_run L Q None old new run = tt
  left_run L Q (Some image) old new run = LeavesOnly-weaker trace old new L (λ c. L c ⊎ Q image c) run (λ c. inl)

  -- and then writing
  pub read_run : (L : List ℕ → Type 0) (Q : List ℕ → List ℕ → Type 0) (told before : Option (List ℕ)) (old mid new : D) → told ≡ before → LeavesOnly trace old mid L
      → IfSome told (λ image. LeavesOnly trace mid new (Q image)) → IfSome before (λ image. LeavesOnly trace old new (λ c. L c ⊎ Q image c))
  read_run L Q told None old mid new same first second = tt
  read_run L Q told (Some image) old mid new same first second =
      LeavesOnly-chain trace old mid new (λ c. L c ⊎ Q image c) (Q image) (LeavesOnly-weaker trace old mid L (λ c. L c ⊎ Q image c) first (λ c. inl))
      (subst (λ (t : Option (List ℕ)). IfSome t (λ b. LeavesOnly trace mid new (Q b))) same second) (λ c. inr)
