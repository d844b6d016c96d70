-- Which switches of a worker are late, and which are due.
use Rattle.std.specs.Prelude.{◌≡◌, ⊤, ℕ, ◌+◌, ◌<◌, ◌==◌, Bool, false, List, [], ◌∷◌, length, map, Option, nat_lt, if◌then◌else◌}
use Rattle.std.specs.List.{list_any}
use Rattle.wan_edge.specs.Frames.{Command}
use Rattle.port_session.specs.Sessions.{SessionView}
use Rattle.switch_ports.specs.Outboxes.{own}

-- A switch is late that owes answers, as long as its port hasn't told that the time limit had passed since the last offer: so many are awaited still.
abbrev pub is_late : {P : Type 0} → SessionView P → Bool
is_late talk = nat_lt 0 talk.stream.awaited

-- All others are due: these switches, in the order of their ports.
abbrev pub due_of : {P : Type 0} → List (SessionView P) → List ℕ
due_of [] = []
due_of (t ∷ ts) = if is_late t then due_of ts else t.switch ∷ due_of ts

-- whether some switch is late: not all are due
abbrev pub any_late : {P : Type 0} → List (SessionView P) → Bool
any_late ports = nat_lt (length (due_of ports)) (length (map (λ t. t.switch) ports))

-- no late switch is among these
abbrev pub AreApart : {P : Type 0} → List ℕ → List (SessionView P) → Type 0
AreApart due [] = ⊤
AreApart due (t ∷ ts) = (0 < t.stream.awaited → list_any (λ w. w == t.switch) due ≡ false) × AreApart due ts

-- no late switch has its own among commands: it is left alone
abbrev pub LeavesAlone : {P : Type 0} → List (Option ℕ) → List Command → List (SessionView P) → Type 0
LeavesAlone homes commands [] = ⊤
LeavesAlone homes commands (t ∷ ts) = (0 < t.stream.awaited → own homes t.switch commands ≡ []) × LeavesAlone homes commands ts

-- 1 of a switch that is late, and how many are
abbrev pub late_bit : ℕ → ℕ
late_bit awaited = if nat_lt 0 awaited then 1 else 0

abbrev pub late_count : {P : Type 0} → List (SessionView P) → ℕ
late_count [] = 0
late_count (t ∷ ts) = late_bit t.stream.awaited + late_count ts
