use Rattle.std.proofs.Common.{ap, arith}
use Rattle.wire_frames.specs.Reading.{Reader}
use Rattle.switch_agent.specs.ReadStates.{ReadSoFar, most}
use Rattle.switch_agent.proofs.read_state.ReadState.new.Goals as goal

pub invariant_of-result : goal.invariant_of-result
invariant_of-result c = record {
  live = ap (λ (r : Reader). r.live) c.new-reader.ensures.new;
  cut = c.new-reader.ensures.cut;
  some = omega arith;
  few = omega arith;
}

pub returns : goal.returns
returns c = ap (λ (r : Reader). let talk : ReadSoFar = record { kept = r.kept; room = most } in talk) c.new-reader.ensures.new
