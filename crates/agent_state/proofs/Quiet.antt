-- A fault of the disk, or want of memory, after other calls.
use Rattle.std.proofs.Common.{inl, inr, arith, ℕ, ◌≤◌}
use Rattle.disk_model.specs.Whole.{IsReadFault}
use Rattle.disk_model.specs.declared.read_fault.ReadFault.{ReadFault}
use Rattle.disk_model.specs.declared.read_fault.ReadFault.TheVariants as read
use Rattle.agent_state.specs.Disks.{Causes, fault_of_read}
use Rattle.agent_state.specs.declared.fault.StateFault.{StateFault}
use Rattle.agent_state.specs.declared.fault.StateFault.TheVariants.{Damaged, Disk, Memory, NotState}

-- the count rose after it had not fallen
pub causes_later : (fault : StateFault) (before mid now : ℕ) → Causes fault mid now → before ≤ mid → Causes fault before now
causes_later Disk before mid now (inl more) no_less = inl (omega (arith, more, no_less))
causes_later Disk before mid now (inr most) no_less = inr most
causes_later Memory before mid now cause no_less = tt
causes_later (NotState first) before mid now cause no_less = cause
causes_later (Damaged place) before mid now cause no_less = cause

-- a fault of reading, as the file has it
pub of_read : (fault : ReadFault) (old new : ℕ) → IsReadFault fault old new → Causes (fault_of_read fault) old new
of_read read.Disk old new cause = cause
of_read read.Memory old new cause = cause
