-- What a fleet for one term has lent.
use Rattle.std.specs.Prelude.{ℕ, Option, None}
use Rattle.wan_edge.specs.Fleets.{with_one, without}
use Rattle.fenced_ports.specs.FencedPorts.{Fenced}
use Rattle.fenced_ports.specs.declared.ledger.Loans.{Loans, Nothing, Given', Back'}

-- the ports given back, by switch
abbrev pub kept_in : {T : Type 0} → Loans T → ℕ → Option (Fenced T)
kept_in Nothing = λ n. None
kept_in (Given' marker before switch) = without (kept_in before) switch.value
kept_in (Back' marker before switch port) = with_one (kept_in before) switch.value port.value
