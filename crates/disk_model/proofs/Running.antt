-- How a run of calls of a disk goes on: what a crash at any moment of it leaves.
use Rattle.std.proofs.Common.{inl, inr, ⊎_elim, ℕ, List, arith}
use Rattle.disk_model.specs.Crashes.{Only, Stepped, Within}
use Rattle.disk_model.specs.Moments.{GoesOn, LeavesOnly}
use Rattle.disk_model.specs.Traces.{DiskTrace}
use Rattle.disk_model.specs.Writes.{Torn}
use Rattle.disk_model.proofs.Tearing.{Torn-none}

-- where a crash leaves these bytes, a torn write leaves what it makes of them
pub Stepped-only : (step : List ℕ → List ℕ → Type 0) (bytes : List ℕ) (left : List ℕ → Type 0) → Only bytes left → Within (Stepped step left) (step bytes)
Stepped-only step bytes left only c stepped = rw (← only stepped.0 stepped.1) stepped.2

module _ {D : Type 0} (trace : D → DiskTrace) where
  -- before the first call
  pub LeavesOnly-start : (old : D) (P : List ℕ → Type 0) → ((c : List ℕ) → (trace old).left_since (trace old).moment c → P c) → LeavesOnly trace old old P
  LeavesOnly-start old P here = record { later = omega arith; each = here; before = λ t c earlier left. inl left }

  -- one call more, of which P holds too
  pub LeavesOnly-goes_on : (old mid new : D) (P images : List ℕ → Type 0) → LeavesOnly trace old mid P
      → GoesOn (trace mid) (trace new) images → Within images P → LeavesOnly trace old new P
  LeavesOnly-goes_on old mid new P images so_far time here = record {
    later = omega (arith, so_far.later, time.later);
    each = λ c left. ⊎_elim (so_far.each c) (here c) (time.nothing_else (trace old).moment c so_far.later left);
    before = λ t c earlier left. ⊎_elim (so_far.before t c earlier) (λ now. inr (here c now)) (time.nothing_else t c (omega (arith, earlier, so_far.later)) left);
  }

  -- one run after another, of which another property holds
  pub LeavesOnly-chain : (old mid new : D) (P Q : List ℕ → Type 0) → LeavesOnly trace old mid P → LeavesOnly trace mid new Q
      → Within Q P → LeavesOnly trace old new P
  LeavesOnly-chain old mid new P Q first second here = record {
    later = omega (arith, first.later, second.later);
    each = λ c left. ⊎_elim (first.each c) (here c) (second.before (trace old).moment c first.later left);
    before = λ t c earlier left. ⊎_elim (first.before t c earlier) (λ now. inr (here c now)) (second.before t c (omega (arith, earlier, first.later)) left);
  }

  -- a weaker property
  pub LeavesOnly-weaker : (old new : D) (P Q : List ℕ → Type 0) → LeavesOnly trace old new P → Within P Q → LeavesOnly trace old new Q
  LeavesOnly-weaker old new P Q run weaker = record {
    later = run.later;
    each = λ c left. weaker c (run.each c left);
    before = λ t c earlier left. ⊎_elim inl (λ now. inr (weaker c now)) (run.before t c earlier left);
  }

  -- where all that a read gives is on the disk
  pub LeavesOnly-durable : (may_leave : List ℕ → Type 0) (old : D) (bytes : List ℕ) (P : List ℕ → Type 0) → ((c : List ℕ) → (trace old).left_since (trace old).moment c → may_leave c)
      → Only bytes may_leave → P bytes → LeavesOnly trace old old P
  LeavesOnly-durable may_leave old bytes P now only holds = LeavesOnly-start old P (λ c left. rw (only c (now c left)) holds)

  -- one write and one sync, where all that a read gave was on the disk
  pub LeavesOnly-torn : (may_leave : List ℕ → Type 0) (old new : D) (bytes : List ℕ) (at n : ℕ) (P : List ℕ → Type 0) → ((c : List ℕ) → (trace old).left_since (trace old).moment c → may_leave c)
      → Only bytes may_leave → GoesOn (trace old) (trace new) (Stepped (Torn at n) may_leave)
      → ((c : List ℕ) → Torn at n bytes c → P c) → LeavesOnly trace old new P
  LeavesOnly-torn may_leave old new bytes at n P now only time holds =
      LeavesOnly-goes_on old old new P (Stepped (Torn at n) may_leave) (LeavesOnly-durable may_leave old bytes P now only (holds bytes (Torn-none at n bytes))) time
      (λ c left. holds c (Stepped-only (Torn at n) bytes may_leave only c left))
