-- Why a worker stops at a port.
use Rattle.std.specs.Prelude.{ℕ}
use Rattle.port_session.specs.declared.fault.SessionFault.{SessionFault}
use Rattle.port_session.specs.declared.fault.SessionFault.TheVariants as fault
use Rattle.shared_book.specs.declared.note.Cause.{Cause}
use Rattle.shared_book.specs.declared.note.Cause.TheVariants as cause

-- the cause, where the session with a switch met this fault
abbrev pub cause_of : ℕ → SessionFault → Cause
cause_of switch fault.Port = cause.Port switch
cause_of switch (fault.NoAnswer byte) = cause.NoAnswer switch byte
cause_of switch fault.Memory = cause.Memory
