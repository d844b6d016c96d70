-- What a fault of reading an image from its first byte to its last shows.
use Rattle.std.specs.Prelude.{⊤, ℕ}
use Rattle.wan_edge.specs.Streams.{Rose}
use Rattle.disk_model.specs.declared.read_fault.ReadFault.{ReadFault}
use Rattle.disk_model.specs.declared.read_fault.ReadFault.TheVariants as read
use Rattle.intent_journal.specs.declared.fault.JournalFault.{JournalFault}
use Rattle.intent_journal.specs.declared.fault.JournalFault.TheVariants.{BadStart, Disk, Illegal, Memory, NotJournal, OtherPlan}

-- The disk failed, and its count rose; or memory ran out.
abbrev pub Causes : JournalFault → ℕ → ℕ → Type 0
Causes Disk old new = Rose old new
Causes Memory old new = ⊤
Causes (NotJournal first) old new = ⊥
Causes (OtherPlan kept wanted) old new = ⊥
Causes (Illegal place) old new = ⊥
Causes BadStart old new = ⊥

-- a disk that wasn't read to its end
abbrev pub fault_of_read : ReadFault → JournalFault
fault_of_read read.Disk = Disk
fault_of_read read.Memory = Memory
