use Rattle.std.proofs.Common.{◌-◌, length, take}
use Rattle.agent_state.specs.Stored.{AddsBytes, last_commands}
use Rattle.agent_state.proofs.last.add_lasts.Given as goal

-- the bytes of the items so far were added
abbrev pub invariant-loop-entry : goal.invariant-loop-entry
invariant-loop-entry l = AddsBytes (last_commands (take l.place l.agent)) l.fn.bytes.items l.bytes.items

abbrev pub decreases-loop-entry : goal.decreases-loop-entry
decreases-loop-entry l = length l.agent - l.place
