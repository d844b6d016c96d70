-- What stands on a disk between two calls, and what a fault shows.
use Rattle.std.specs.Prelude.{⊤, ℕ}
use Rattle.wan_edge.specs.Streams.{Rose}
use Rattle.disk_model.specs.declared.read_fault.ReadFault.{ReadFault}
use Rattle.disk_model.specs.declared.read_fault.ReadFault.TheVariants as read
use Rattle.agent_state.specs.declared.fault.StateFault.{StateFault}
use Rattle.agent_state.specs.declared.fault.StateFault.TheVariants.{Damaged, Disk, Memory, NotState}

-- The disk failed, and its count rose; or memory ran out. Neither says anything of the image.
abbrev pub Causes : StateFault → ℕ → ℕ → Type 0
Causes Disk old new = Rose old new
Causes Memory old new = ⊤
Causes (NotState first) old new = ⊥
Causes (Damaged place) old new = ⊥

-- Where the disk failed its count rose. Nothing else has a count.
abbrev pub RoseAtDisk : StateFault → ℕ → ℕ → Type 0
RoseAtDisk Disk old new = Rose old new
RoseAtDisk Memory old new = ⊤
RoseAtDisk (NotState first) old new = ⊤
RoseAtDisk (Damaged place) old new = ⊤

-- a disk that wasn't read to its end
abbrev pub fault_of_read : ReadFault → StateFault
fault_of_read read.Disk = Disk
fault_of_read read.Memory = Memory
