-- The two steps of an append as one run.
use Rattle.std.proofs.Common.{◌≡◌, inl, ℕ, ◌+◌, List, [], ◌∷◌, length, Option, Some, None, IfSome, Result, Ok, Err, OnOk, refl}
use Rattle.disk_model.specs.Traces.{DiskTrace}
use Rattle.disk_model.specs.Crashes.{IsDurable, Only, Stepped}
use Rattle.disk_model.specs.Moments.{GoesOn, LeavesOnly}
use Rattle.disk_model.specs.Writes.{Torn, Writes, written}
use Rattle.disk_model.proofs.Running.{LeavesOnly-goes_on, LeavesOnly-torn, Stepped-only}
use Rattle.disk_model.proofs.Telling.{at_told, told_by}
use Rattle.intent_journal.specs.Parts.{open_batch}
use Rattle.intent_journal.specs.Images.{journal_in}
use Rattle.intent_journal.specs.States.{Home, IsAtRest, IsBeforeOrAfter, IsBody, IsCommitted}
use Rattle.intent_journal.proofs.Committing.{both_done, first_crash, second_crash}

module _ {D : Type 0} (trace : D → DiskTrace) where
  -- the first step, done or not
  pub first_run : (told : Option (List ℕ)) (old mid : D) (gate : ℕ) (body : List ℕ) → ((c : List ℕ) → (trace old).left_since (trace old).moment c → (trace old).may_leave c)
      → GoesOn (trace old) (trace mid) (Stepped (Torn (gate + 1) (length body)) (trace old).may_leave)
      → IfSome told (λ image. (home : Home) (batch : List (List ℕ)) → IsAtRest home gate image → IsBody home gate batch body → Only image (trace old).may_leave
      → LeavesOnly trace old mid (IsBeforeOrAfter (journal_in image) batch))
  first_run None old mid gate body now time = tt
  first_run (Some image) old mid gate body now time = λ home batch rest is_body only.
      LeavesOnly-torn trace (trace old).may_leave old mid image (gate + 1) (length body) (IsBeforeOrAfter (journal_in image) batch) now only time
      (λ c torn. inl (first_crash home gate (length body) image c rest torn))

  -- and then the second, done or not
  pub second_run : (told told_mid : Option (List ℕ)) (old mid new : D) (gate : ℕ) (body : List ℕ) → ((c : List ℕ) → (trace old).left_since (trace old).moment c → (trace old).may_leave c)
      → GoesOn (trace old) (trace mid) (Stepped (Torn (gate + 1) (length body)) (trace old).may_leave)
      → Writes (gate + 1) body told told_mid → IsDurable told_mid (trace mid).may_leave
      → GoesOn (trace mid) (trace new) (Stepped (Torn gate 1) (trace mid).may_leave)
      → IfSome told (λ image. (home : Home) (batch : List (List ℕ)) → IsAtRest home gate image → IsBody home gate batch body → Only image (trace old).may_leave
      → LeavesOnly trace old new (IsBeforeOrAfter (journal_in image) batch))
  second_run None told_mid old mid new gate body now time writes durable later = tt
  second_run (Some image) told_mid old mid new gate body now time writes durable later = λ home batch rest is_body only.
      let between = written (gate + 1) body image in
      let only_between : Only between (trace mid).may_leave = at_told (λ bytes. Only bytes (trace mid).may_leave) told_mid between writes durable in
      LeavesOnly-goes_on trace old mid new (IsBeforeOrAfter (journal_in image) batch) (Stepped (Torn gate 1) (trace mid).may_leave)
      (first_run (Some image) old mid gate body now time home batch rest is_body only) later
      (λ c stepped. second_crash home gate batch body image c rest is_body (Stepped-only (Torn gate 1) between (trace mid).may_leave only_between c stepped))

-- what both leave where both were done
pub done_run : {X E : Type 0} (told told_mid told_new : Option (List ℕ)) (left : List ℕ → Type 0) (gate : ℕ) (body : List ℕ) (result : Result X E)
    → Writes (gate + 1) body told told_mid → OnOk result (Writes gate (open_batch ∷ []) told_mid told_new) → OnOk result (IsDurable told_new left)
    → OnOk result (IfSome told (λ image. (home : Home) (batch : List (List ℕ)) → IsAtRest home gate image → IsBody home gate batch body → IsCommitted home gate batch body image told_new left))
done_run told told_mid told_new left gate body (Err e) first second durable = tt
done_run None told_mid told_new left gate body (Ok unit) first second durable = tt
done_run (Some image) told_mid told_new left gate body (Ok unit) first second durable = λ home batch rest is_body.
    let between = written (gate + 1) body image in
    let now = written gate (open_batch ∷ []) between in
    let is_told : told_new ≡ Some now = told_by gate (open_batch ∷ []) between told_mid told_new first second in
    let done = both_done home gate batch body image now rest is_body refl in
    record {
      now = now;
      is_told = is_told;
      durable = at_told (λ bytes. Only bytes left) told_new now is_told durable;
      rest = done.0;
      keeps = done.1;
    }
