-- What the command `agent` brings about.
use Rattle.std.specs.Prelude.{◌≡◌, ◌⊎◌, ℕ, List, ◌++◌, codes, decimal, false, Option, Result, Ok, Err}
use Rattle.agent_service.specs.Services.{Guests, Serves, Tells}
use Rattle.agent_service.specs.declared.service.Service.{Service}
use Rattle.agent_service.specs.declared.service.ServiceFault.{ServiceFault}
use Rattle.agent_service.specs.declared.service.ServiceFault.TheVariants.{Fleet, Memory}
use Rattle.text_commands.specs.CommandEnds.{status_of, tells_place}
use Rattle.text_commands.specs.Runs.{Follows}
use Rattle.text_commands.specs.declared.command_end.CommandEnd.{CommandEnd}
use Rattle.text_commands.specs.declared.command_end.CommandEnd.TheVariants.{Done, GuestFault, OutOfMemory, WriteFault}

-- how many guests came, how many commands were carried out, and how many guests were refused
abbrev pub service_line : Service → List ℕ
service_line s = codes "agent: guests " ++ decimal s.guests ++ codes ", commands " ++ decimal s.commands ++ codes ", refused " ++ decimal s.refused ++ codes "\n"

-- the line of a service, or how the run ends without one
abbrev pub service_answer : Result Service ServiceFault → Result (List ℕ) CommandEnd
service_answer (Ok service) = Ok (service_line service)
service_answer (Err Fleet) = Err GuestFault
service_answer (Err Memory) = Err OutOfMemory

-- the line was written, or a part of it, or there was no memory for it
abbrev pub EndsOwn : CommandEnd → Type 0
EndsOwn ending = (ending ≡ Done) ⊎ ((ending ≡ WriteFault) ⊎ (ending ≡ OutOfMemory))

-- One agent, which held nothing at first, served this many guests turn by turn, and the run ends as what came of it says.
pub record RunsAgent {G : Type 0} (tells : Tells G) (guests : ℕ) (before now : Guests G) (ending : CommandEnd) (out out_now : Option (List ℕ)) : Type 0 where
  pub came : Result Service ServiceFault
  pub serves : Serves tells before now guests came
  pub follows : Follows (service_answer came) ending out out_now
  -- the line of the notes takes no memory
  pub known : tells_place ending ≡ false

-- the same by the status
pub record ServesAs {G : Type 0} (tells : Tells G) (guests : ℕ) (before now : Guests G) (status : ℕ) (out out_now : Option (List ℕ)) : Type 0 where
  pub ending : CommandEnd
  pub is_status : status ≡ status_of ending
  pub runs : RunsAgent tells guests before now ending out out_now
