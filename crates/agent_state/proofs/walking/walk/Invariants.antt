use Rattle.std.proofs.Common.{◌-◌, length}
use Rattle.fenced_agent.specs.Agents.{fenced_holding}
use Rattle.agent_state.specs.Opened.{Walks}
use Rattle.agent_state.proofs.walking.walk.Given as goal

abbrev pub invariant-loop-size : goal.invariant-loop-size
invariant-loop-size l = Walks l.part l.gate (fenced_holding l.agent)

abbrev pub decreases-loop-size : goal.decreases-loop-size
decreases-loop-size l = length l.part - l.gate
