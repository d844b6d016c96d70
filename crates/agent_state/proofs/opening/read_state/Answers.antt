use Rattle.std.proofs.Common.{◌≡◌, ◌==◌, ◌∙◌, ℕ, List, None, ap, subst, arith, length, length-drop}
use Rattle.fenced_agent.specs.Agents.{fenced_holding}
use Rattle.agent_state.specs.Batches.{open_gate}
use Rattle.disk_model.specs.Numbers.{byte_at}
use Rattle.agent_state.specs.Opened.{Walks, batch_at}
use Rattle.agent_state.proofs.Openings.{found}
use Rattle.agent_state.proofs.opening.read_state.Goals as goal

-- the part begins within the image
pub walk-requires : goal.walk-requires
walk-requires c = record {
  some = omega (arith, ap length c.from_place-part.ensures, length-drop c.in_ok-place.place.start c.args.image.now, c.in_ok-place.ensures.live.within);
  nothing = c.requires.nothing;
}

pub returns-clause-found : goal.returns-clause-found
returns-clause-found c =
    let part_is = c.from_place-part.ensures in
    let gate = c.in_ok-gate.gate in
    found c.in_ok-place.place c.in_ok-next.next gate _ (fenced_holding c.walk.new.agent) c.args.image.now c.requires.long c.in_ok-place.ensures.live
    (subst (λ (part : List ℕ). Walks part gate (fenced_holding c.walk.new.agent)) part_is c.in_ok-gate.ensures.walks)
    (subst (λ (part : List ℕ). batch_at part gate ≡ None) part_is c.in_ok-gate.ensures.ends)
    c.in_ok-next.ensures.next (ap (λ (byte : ℕ). byte == open_gate) (c.byte_in-cut.ensures ∙ ap (byte_at gate) part_is))
