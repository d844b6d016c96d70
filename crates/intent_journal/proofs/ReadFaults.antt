-- What a fault of reading a disk is to a journal.
use Rattle.std.proofs.Common.{◌≡◌, ℕ, sym, subst}
use Rattle.disk_model.specs.Whole.{IsReadFault}
use Rattle.disk_model.specs.declared.read_fault.ReadFault.{ReadFault}
use Rattle.disk_model.specs.declared.read_fault.ReadFault.TheVariants as read
use Rattle.intent_journal.specs.Whole.{Causes, fault_of_read}
use Rattle.intent_journal.specs.declared.fault.JournalFault.{JournalFault}

-- as the journal has it
pub of_read : (fault : ReadFault) (old new : ℕ) → IsReadFault fault old new → Causes (fault_of_read fault) old new
of_read read.Disk old new cause = cause
of_read read.Memory old new cause = cause

-- what it is given as
pub causes_read : (given : JournalFault) (fault : ReadFault) (old new : ℕ) → given ≡ fault_of_read fault → IsReadFault fault old new → Causes given old new
causes_read given fault old new is cause = subst (λ (f : JournalFault). Causes f old new) (sym is) (of_read fault old new cause)
