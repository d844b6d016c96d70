use Rattle.switch_agent.proofs.read_state.ReadState.of.Goals as goal

pub invariant_of-result : goal.invariant_of-result
invariant_of-result c = record { live = c.requires.live; cut = c.requires.cut; some = c.requires.some; few = c.requires.few }
