-- What a fleet has lent, and whom it had as guests.
use Rattle.std.specs.Prelude.{ℕ, ◌+◌, ◌-◌, Bool, true, false, List, [], ◌∷◌, ◌++◌, Option, None}
use Rattle.wan_edge.specs.Fleets.{marked, with_one, without}
use Rattle.byte_history.specs.Histories.{bytes_in}
use Rattle.host_edge.specs.declared.ledger.Loans.{Loans, Nothing, Given', Back'}
use Rattle.host_edge.specs.declared.ledger.Visits.{Visits, Nobody, Given' as Came', Back' as Left'}
use Rattle.host_edge.specs.declared.tcp_guest.TcpGuest.{TcpGuest}
use Rattle.host_edge.specs.declared.tcp_port.TcpPort.{TcpPort}

-- the ports given back, by switch
abbrev pub kept_in : {R : Type 0} → Loans R → ℕ → Option (TcpPort R)
kept_in Nothing = λ n. None
kept_in (Given' marker before switch name) = without (kept_in before) switch.value
kept_in (Back' marker before switch port) = with_one (kept_in before) switch.value port.value

-- whether the port of a switch was given and not given back
abbrev pub lent_in : {R : Type 0} → Loans R → ℕ → Bool
lent_in Nothing = λ n. false
lent_in (Given' marker before switch name) = marked (lent_in before) switch.value true
lent_in (Back' marker before switch port) = marked (lent_in before) switch.value false

-- the name by which the port of a switch was last given
abbrev pub named_in : {R : Type 0} → Loans R → ℕ → Option (List ℕ)
named_in Nothing = λ n. None
named_in (Given' marker before switch name) = with_one (named_in before) switch.value (bytes_in name.value)
named_in (Back' marker before switch port) = named_in before

-- the guests given back, in order
abbrev pub served_in : {S : Type 0} → Visits S → List (TcpGuest S)
served_in Nobody = []
served_in (Came' marker before) = served_in before
served_in (Left' marker before guest) = served_in before ++ guest.value ∷ []

-- how many guests were given and not given back
abbrev pub visiting_in : {S : Type 0} → Visits S → ℕ
visiting_in Nobody = 0
visiting_in (Came' marker before) = visiting_in before + 1
visiting_in (Left' marker before guest) = visiting_in before - 1
