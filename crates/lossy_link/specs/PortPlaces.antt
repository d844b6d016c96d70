-- What stands at the places of switches.
use Rattle.std.specs.Prelude.{ℕ, ◌==◌, Bool, false, List, Option, Some, None, if◌then◌else◌}
use Rattle.std.specs.Map.{lookup}
use Rattle.lossy_link.specs.declared.memory_fleet.port_place.PortPlace.{PortPlace}

-- each place that was made, with its switch
abbrev pub Places : Type 0 → Type 0
Places P = List (ℕ × PortPlace P)

-- the place of a switch, where it was made
abbrev pub port_place_at : {P : Type 0} → Places P → ℕ → Option (PortPlace P)
port_place_at places switch = lookup (λ key. switch == key) places

-- the port that waits at a place
abbrev pub waiting_in : {P : Type 0} → Option (PortPlace P) → Option P
waiting_in None = None
waiting_in (Some berth) = berth.port

-- the port that waits there and was given back
abbrev pub kept_in : {P : Type 0} → Option (PortPlace P) → Option P
kept_in None = None
kept_in (Some berth) = if berth.kept then berth.port else None

-- whether a port was given from there and not given back
abbrev pub lent_in : {P : Type 0} → Option (PortPlace P) → Bool
lent_in None = false
lent_in (Some berth) = berth.lent

-- the port that waits for each switch
abbrev pub waiting_at : {P : Type 0} → Places P → ℕ → Option P
waiting_at places = λ switch. waiting_in (port_place_at places switch)

-- the port of each switch that was given back
abbrev pub kept_at : {P : Type 0} → Places P → ℕ → Option P
kept_at places = λ switch. kept_in (port_place_at places switch)

-- whether a port of each switch was given and not given back
abbrev pub lent_at : {P : Type 0} → Places P → ℕ → Bool
lent_at places = λ switch. lent_in (port_place_at places switch)
