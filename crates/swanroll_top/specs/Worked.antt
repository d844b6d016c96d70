-- The policies of the worked command lines, and fleets with one port.
use Rattle.std.specs.Prelude.{ℕ, ◌-◌, ◌==◌, false, Option, Some, None, if◌then◌else◌}
use Rattle.rollout_rules.specs.Release.{held_back}
use Rattle.rollout_rules.specs.declared.op.OpView.{OpView}
use Rattle.wan_edge.specs.Ports.{PortTrace}
use Rattle.switch_laws.specs.Worked.{answering, silent, unused}
use Rattle.controller_run.specs.declared.running.Limits.{Limits}
use Rattle.completion_laws.specs.Worked.{promptly}
use Rattle.swanroll_top.specs.Rollouts.{FleetSeen}

-- each operation held back
abbrev pub none_begins : OpView → ℕ
none_begins view = held_back

-- so many rounds of one worker, in migration 4
abbrev pub in_rounds : ℕ → Limits
in_rounds rounds = record { workers = 1; rounds = rounds; migration = 4 }

-- of a port there is no more than what it tells
abbrev pub itself : PortTrace → PortTrace
itself port = port

-- what waits where one port does: at switch 0
abbrev pub waiting_at_first : PortTrace → Option (ℕ → Option PortTrace)
waiting_at_first port = Some (λ switch. if switch == 0 then Some port else None)

-- a prompt port that was never used, and one whose answer is still to come
abbrev pub never_used : PortTrace
never_used = (promptly unused).port

abbrev pub unanswered : PortTrace
unanswered = (promptly silent).port

-- the same port once its one command was answered, and one that has failed
abbrev pub answered_once : PortTrace
answered_once = (promptly answering).port

abbrev pub failed_once : PortTrace
failed_once = record never_used { faults = 1 }

-- a fleet that hasn't failed: the port that was never used waits, and this one was given back
abbrev pub fleet_with : Option PortTrace → FleetSeen PortTrace
fleet_with back = record { ports = record { waiting = waiting_at_first never_used; kept = λ switch. (if switch == 0 then back else None); lent = λ switch. false; named = λ switch. None }; faults = 0 }
