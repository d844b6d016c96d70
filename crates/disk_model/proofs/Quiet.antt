-- Calls of a disk that write nothing, one after the other.
use Rattle.std.proofs.Common.{◌≡◌, inl, inr, arith, ℕ, ◌≤◌, List, refl, ◌∙◌}
use Rattle.disk_model.specs.Traces.{DiskTrace}
use Rattle.disk_model.specs.Crashes.{Within}
use Rattle.disk_model.specs.Moments.{GoesOn}
use Rattle.disk_model.proofs.Running.{LeavesOnly-chain, LeavesOnly-goes_on, LeavesOnly-start}
use Rattle.disk_model.specs.Whole.{IsQuiet, IsReadFault}
use Rattle.disk_model.specs.declared.read_fault.ReadFault.{ReadFault}
use Rattle.disk_model.specs.declared.read_fault.ReadFault.TheVariants.{Disk, Memory}

module _ {D : Type 0} (trace : D → DiskTrace) where
  pub no_call : (old : D) → ((c : List ℕ) → (trace old).left_since (trace old).moment c → (trace old).may_leave c) → IsQuiet trace old old
  no_call old now = record { same = refl; crash = λ c left. left; run = LeavesOnly-start trace old (trace old).may_leave now }

  pub one_call : (old new : D) → ((c : List ℕ) → (trace old).left_since (trace old).moment c → (trace old).may_leave c) → (trace new).bytes ≡ (trace old).bytes → Within (trace new).may_leave (trace old).may_leave
      → GoesOn (trace old) (trace new) (trace new).may_leave → IsQuiet trace old new
  one_call old new now same crash time = record {
    same = same;
    crash = crash;
    run = LeavesOnly-goes_on trace old old new (trace old).may_leave (trace new).may_leave (LeavesOnly-start trace old (trace old).may_leave now) time crash;
  }

  pub more_calls : (old mid new : D) → IsQuiet trace old mid → IsQuiet trace mid new → IsQuiet trace old new
  more_calls old mid new first second = record {
    same = second.same ∙ first.same;
    crash = λ c left. first.crash c (second.crash c left);
    run = LeavesOnly-chain trace old mid new (trace old).may_leave (trace mid).may_leave first.run second.run first.crash;
  }

-- the count rose after it had not fallen
pub fault_later : (fault : ReadFault) (before mid now : ℕ) → IsReadFault fault mid now → before ≤ mid → IsReadFault fault before now
fault_later Disk before mid now (inl more) no_less = inl (omega (arith, more, no_less))
fault_later Disk before mid now (inr most) no_less = inr most
fault_later Memory before mid now cause no_less = tt
