-- What goes out to a port in a round.
use Rattle.std.specs.Prelude.{◌≡◌, ℕ, List, Option}
use Rattle.std.specs.List.{flat_map}
use Rattle.wan_edge.specs.Frames.{Command, command_bytes}
use Rattle.wan_edge.specs.Ports.{AppendsFront}
use Rattle.port_session.specs.declared.fault.SessionFault.{SessionFault}
use Rattle.port_session.specs.declared.fault.SessionFault.TheVariants.{Memory, NoAnswer, Port}

-- the bytes of these commands, each of this migration, one after the other
abbrev pub frames_of : ℕ → List Command → List ℕ
frames_of migration commands = flat_map (λ c. command_bytes (migration, c)) commands

-- What a fault says of the bytes that were to go out: where the port failed, the first of them went out; where memory ran out, none.
abbrev pub OffersUntil : SessionFault → Option (List ℕ) → List ℕ → Option (List ℕ) → Type 0
OffersUntil Port before bytes now = AppendsFront before bytes now
OffersUntil (NoAnswer byte) before bytes now = ⊥
OffersUntil Memory before bytes now = now ≡ before
