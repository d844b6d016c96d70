use Rattle.fewest_plan.proofs.Trying.{reach-fits}
use Rattle.fewest_plan.proofs.reaching.move_flow.Goals as goal

pub add_gains-requires-clause-small : goal.add_gains-requires-clause-small
add_gains-requires-clause-small c i lt =
    rw c.reach-far.ensures.value (reach-fits c.args.problem.now c.args.scale c.args.tops.now c.args.gains.now _ i c.reach-far.ensures.network c.requires.gains c.requires.scale lt)
