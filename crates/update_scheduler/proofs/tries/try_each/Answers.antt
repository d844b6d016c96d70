use Rattle.std.proofs.Common.{◌∙◌, refl, get_or}
use Rattle.update_scheduler.proofs.Going.{goes-on, inside}
use Rattle.update_scheduler.proofs.tries.try_each.Goals as goal

pub try_next-requires-clause-item : goal.try_next-requires-clause-item
try_next-requires-clause-item c =
    inside c.args.graph.now c.loop-candidate.graph c.args.order.now c.loop-candidate.candidate-index record { rank = 0; item = 0 } c.loop-candidate.invariant.0.rollout c.requires.items c.loop-candidate-test.true

pub loop-candidate-preserved : goal.loop-candidate-preserved
loop-candidate-preserved c = (
  goes-on c.args.graph.now c.loop-candidate.graph c.try_next.new.graph c.args.begun.now.items c.loop-candidate.begun.items c.try_next.new.begun.items c.args.order.now c.loop-candidate.candidate-index
      (get_or c.args.order.now c.loop-candidate.candidate-index record { rank = 0; item = 0 }) record { rank = 0; item = 0 }
      c.loop-candidate.invariant.0 c.loop-candidate-test.true refl c.try_next.ensures.graph c.try_next.ensures.begun,
  c.try_next.ensures.capacity ∙ c.loop-candidate.invariant.1,
)
