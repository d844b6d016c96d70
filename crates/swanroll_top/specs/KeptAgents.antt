-- What the command `agent` brings about where the environment names a file for it.
use Rattle.std.specs.Prelude.{◌≡◌, ℕ, List, ◌++◌, codes, decimal, Option, Some, None, IfSome}
use Rattle.disk_mirror.specs.Openings.{Opens}
use Rattle.disk_model.specs.Moments.{LeavesOnly}
use Rattle.disk_model.specs.Traces.{DiskTrace}
use Rattle.wan_edge.specs.Streams.{Appends}
use Rattle.agent_service.specs.KeptServices.{KeepsGuests, MayBeLeft}
use Rattle.agent_service.specs.Services.{Guests, Tells}
use Rattle.agent_service.specs.declared.service.Service.{Service}
use Rattle.agent_state.specs.declared.fault.StateFault.{StateFault}
use Rattle.agent_state.specs.declared.fault.StateFault.TheVariants.{Damaged, Disk, Memory, NotState}
use Rattle.swanroll_top.specs.Agents.{service_line}
use Rattle.text_commands.specs.CommandEnds.{line_of, status_of}
use Rattle.swanroll_top.specs.Words.{Asked, an_agent}
use Rattle.text_commands.specs.declared.command_end.CommandEnd.{CommandEnd}
use Rattle.swanroll_top.specs.declared.kept_end.KeptEnd.{KeptEnd}
use Rattle.swanroll_top.specs.declared.kept_end.KeptEnd.TheVariants.{Ended, State}

-- how many guests an agent is asked to serve, where one is asked for
abbrev pub guests_in : Option Asked → Option ℕ
guests_in (Some (an_agent guests)) = Some guests
guests_in other = None

abbrev pub state_status : StateFault → ℕ
state_status Disk = 8
state_status (NotState first) = 10
state_status (Damaged place) = 10
state_status Memory = 12

abbrev pub state_line : StateFault → List ℕ
state_line Disk = codes "state device fault\n"
state_line (NotState first) = codes "state: first byte " ++ decimal first ++ codes "\n"
state_line (Damaged place) = codes "state: batch " ++ decimal place ++ codes " damaged\n"
state_line Memory = codes "out of memory\n"

abbrev pub kept_status : KeptEnd → ℕ
kept_status (Ended ending) = status_of ending
kept_status (State why) = state_status why

abbrev pub kept_line : KeptEnd → List ℕ
kept_line (Ended ending) = line_of ending
kept_line (State why) = state_line why

-- so many guests were served turn by turn from what the disk told, or fewer since no more come and nobody sits; all that the agent holds is on the disk, and
-- the line says what came of it
abbrev pub IsServed : {D G : Type 0} → (D → DiskTrace) → Tells G → D → D → Guests G → Guests G → ℕ → Option (List ℕ) → Option (List ℕ) → Type 0
IsServed trace tells disk disk_now before now asked out out_now = (service : Service) × KeepsGuests trace tells disk disk_now before now asked service × Appends out (service_line service) out_now

-- An agent with a file, by its status. It follows from the disk as it was opened: whenever a crash comes, it leaves what might have been left then, or what
-- is read alike, or what the rule of terms makes of what was read; and where the line was written, guests were served turn by turn from what was read, and all that
-- the agent holds is on the disk.
pub record KeepsAgent {D G : Type 0} (trace : D → DiskTrace) (tells : Tells G) (disk disk_now : D) (before now : Guests G) (asked status : ℕ) (out out_now : Option (List ℕ)) : Type 0 where
  pub opened : D
  pub opens : Opens (trace disk) (trace opened)
  pub any_moment : IfSome (trace opened).bytes (λ image. LeavesOnly trace opened disk_now (MayBeLeft (trace opened).may_leave image))
  pub served : status ≡ 0 → IsServed trace tells opened disk_now before now asked out out_now
