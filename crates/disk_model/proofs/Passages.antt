-- Writes that are synced one after the other: what a crash inside leaves, and what stands on the disk behind them.
use Rattle.std.proofs.Common.{◌≡◌, ℕ, ◌≤◌, List, Option, Some, None, IfSome, Result, Ok, Err, OnOk, refl}
use Rattle.wan_edge.specs.Streams.{KeepsTelling}
use Rattle.disk_model.specs.Traces.{DiskTrace}
use Rattle.disk_model.specs.Crashes.{Holds, IsDurable, Only, Stepped}
use Rattle.disk_model.specs.Moments.{GoesOn, LeavesOnly}
use Rattle.disk_model.specs.Writes.{Torn, Writes, written}
use Rattle.disk_model.proofs.Running.{LeavesOnly-chain, LeavesOnly-durable, LeavesOnly-torn, LeavesOnly-weaker}
use Rattle.disk_model.proofs.Telling.{at_told, told_by}

-- what stands after a write that was done and synced
pub write_holds : (S T : List ℕ → Type 0) (at : ℕ) (bytes : List ℕ) (told now : Option (List ℕ)) (left left_now : List ℕ → Type 0)
    → ((image : List ℕ) → S image → T (written at bytes image)) → Holds S told left → Writes at bytes told now → IsDurable now left_now → Holds T now left_now
write_holds S T at bytes None None left left_now becomes holds writes durable = tt
write_holds S T at bytes None (Some image) left left_now becomes holds writes durable = absurd (cc writes)
write_holds S T at bytes (Some image) now left left_now becomes holds writes durable =
    let between = written at bytes image in
    let is : now ≡ Some between = told_by at bytes image (Some image) now refl writes in
    let only : Only between left_now = at_told (λ b. Only b left_now) now between is durable in
    rw is (becomes image holds.0, only)

-- and where it may have failed
pub write_ok : {X E : Type 0} (S T : List ℕ → Type 0) (at : ℕ) (bytes : List ℕ) (told now : Option (List ℕ)) (left left_now : List ℕ → Type 0) (result : Result X E)
    → ((image : List ℕ) → S image → T (written at bytes image)) → Holds S told left → OnOk result (Writes at bytes told now) → OnOk result (IsDurable now left_now)
    → OnOk result (Holds T now left_now)
write_ok S T at bytes told now left left_now (Ok x) becomes holds writes durable = write_holds S T at bytes told now left left_now becomes holds writes durable
write_ok S T at bytes told now left left_now (Err e) becomes holds writes durable = tt

-- and after two writes, of which the second was synced
pub writes_ok : {X E : Type 0} (S T : List ℕ → Type 0) (at then_at : ℕ) (bytes later : List ℕ) (told between now : Option (List ℕ)) (left left_now : List ℕ → Type 0) (result : Result X E)
    → ((image : List ℕ) → S image → T (written then_at later (written at bytes image))) → Holds S told left → Writes at bytes told between
    → OnOk result (Writes then_at later between now) → OnOk result (IsDurable now left_now) → OnOk result (Holds T now left_now)
writes_ok S T at then_at bytes later told between now left left_now (Err e) becomes holds first second durable = tt
writes_ok S T at then_at bytes later None between None left left_now (Ok x) becomes holds first second durable = tt
writes_ok S T at then_at bytes later None None (Some image) left left_now (Ok x) becomes holds first second durable = absurd (cc second)
writes_ok S T at then_at bytes later None (Some m) (Some image) left left_now (Ok x) becomes holds first second durable = absurd (cc first)
writes_ok S T at then_at bytes later (Some image) between now left left_now (Ok x) becomes holds first second durable =
    let middle = written at bytes image in
    let last = written then_at later middle in
    let is : now ≡ Some last = told_by then_at later middle between now (told_by at bytes image (Some image) between refl first) second in
    let only : Only last left_now = at_told (λ b. Only b left_now) now last is durable in
    rw is (becomes image holds.0, only)

-- where nothing is to be written
pub holds_still : (S T : List ℕ → Type 0) (told : Option (List ℕ)) (left : List ℕ → Type 0) → ((image : List ℕ) → S image → T image) → Holds S told left → Holds T told left
holds_still S T None left becomes holds = tt
holds_still S T (Some image) left becomes holds = (becomes image holds.0, holds.1)

module _ {D : Type 0} (trace : D → DiskTrace) where
  -- a write and a sync, done or not
  pub write_run : (S : List ℕ → Type 0) (P : List ℕ → List ℕ → Type 0) (told : Option (List ℕ)) (old new : D) (at n : ℕ)
      → ((c : List ℕ) → (trace old).left_since (trace old).moment c → (trace old).may_leave c) → Holds S told (trace old).may_leave
      → GoesOn (trace old) (trace new) (Stepped (Torn at n) (trace old).may_leave)
      → ((image c : List ℕ) → S image → Torn at n image c → P image c) → IfSome told (λ image. LeavesOnly trace old new (P image))
  write_run S P None old new at n now holds time torn = tt
  write_run S P (Some image) old new at n now holds time torn =
      LeavesOnly-torn trace (trace old).may_leave old new image at n (P image) now holds.1 time (λ c is. torn image c holds.0 is)

  -- nothing
  pub still_run : (S : List ℕ → Type 0) (P : List ℕ → List ℕ → Type 0) (told : Option (List ℕ)) (old : D) → ((c : List ℕ) → (trace old).left_since (trace old).moment c → (trace old).may_leave c)
      → Holds S told (trace old).may_leave → ((image : List ℕ) → S image → P image image) → IfSome told (λ image. LeavesOnly trace old old (P image))
  still_run S P None old now holds same = tt
  still_run S P (Some image) old now holds same = LeavesOnly-durable trace (trace old).may_leave old image (P image) now holds.1 (same image holds.0)

  -- a weaker word
  pub weaker_run : (P Q : List ℕ → List ℕ → Type 0) (told : Option (List ℕ)) (old new : D) → ((image c : List ℕ) → P image c → Q image c)
      → IfSome told (λ image. LeavesOnly trace old new (P image)) → IfSome told (λ image. LeavesOnly trace old new (Q image))
  weaker_run P Q None old new weaker run = tt
  weaker_run P Q (Some image) old new weaker run = LeavesOnly-weaker trace old new (P image) (Q image) run (λ c. weaker image c)

  -- one run after another
  pub chained_run : (P Q R : List ℕ → List ℕ → Type 0) (told between : Option (List ℕ)) (old mid new : D) → KeepsTelling told between
      → ((image c : List ℕ) → P image c → R image c) → ((image m c : List ℕ) → P image m → Q m c → R image c)
      → IfSome between (trace mid).may_leave → ((t : ℕ) (c : List ℕ) → t ≤ (trace mid).moment → (trace mid).may_leave c → (trace mid).left_since t c)
      → IfSome told (λ image. LeavesOnly trace old mid (P image)) → IfSome between (λ m. LeavesOnly trace mid new (Q m))
      → IfSome told (λ image. LeavesOnly trace old new (R image))
  chained_run P Q R None between old mid new keeps weaker joins shows counts first second = tt
  chained_run P Q R (Some image) None old mid new keeps weaker joins shows counts first second = absurd (cc keeps)
  chained_run P Q R (Some image) (Some m) old mid new keeps weaker joins shows counts first second =
      let middle : P image m = first.each m (counts (trace old).moment m first.later shows) in
      LeavesOnly-chain trace old mid new (R image) (Q m) (LeavesOnly-weaker trace old mid (P image) (R image) first (λ c. weaker image c)) second
      (λ c. joins image m c middle)
