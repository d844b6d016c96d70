use Rattle.std.proofs.Common.{◌∙◌}
use Rattle.rollout_core.proofs.HeldPairs.{first_standing}
use Rattle.rollout_core.proofs.world.World.new.Goals as goal

pub returns : goal.returns
returns c =
    first_standing c.in_ok-history.history c.args.plan.now c.args.start.now c.args.migration c.args.first.now c.in_ok-first.first.items c.in_ok-held.held.items c.new-2.result c.new-3.result c.new-4.result c.new-5.result
    c.in_ok-history.ensures c.in_ok-first.ensures (c.in_ok-held.ensures ∙ c.deref.ensures.value ∙ c.in_ok-first.ensures) c.new-2.ensures c.new-3.ensures c.new-4.ensures c.new-5.ensures c.requires.pairs
