use Rattle.std.proofs.Common.{ap, subst, sym, arith}
use Rattle.fenced_wire.specs.Reading.{Termed, all_kept, fresh}
use Rattle.switch_agent.specs.ReadStates.{ReadSoFar, most}
use Rattle.agent_talks.specs.Serving.{IsCutTermed}
use Rattle.agent_talks.proofs.Stops.{cut_nothing}
use Rattle.agent_talks.proofs.talk.Talk.new.Goals as goal

pub invariant_of-result : goal.invariant_of-result
invariant_of-result c = record {
  live = ap (λ (r : Termed). r.live) c.new-reader.ensures;
  cut = subst (λ (r : Termed). IsCutTermed (all_kept r)) (sym c.new-reader.ensures) cut_nothing;
  some = omega arith;
  few = omega arith;
}

pub returns : goal.returns
returns c = ap (λ (r : Termed). let talk : ReadSoFar = record { kept = all_kept r; room = most } in talk) c.new-reader.ensures
