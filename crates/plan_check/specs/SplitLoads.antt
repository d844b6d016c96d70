-- The loads of both splits, as they are kept together.
use Rattle.rollout_rules.specs.Wan.{Problem}
use Rattle.wan_model.specs.declared.side.Side.TheVariants.{Old, New}
use Rattle.plan_check.specs.LeastSlack.{AreLoads}
use Rattle.plan_check.specs.declared.split_loads.SplitLoads.{SplitLoads}

-- those of a problem's old split, and those of its new one
pub record AreSplitLoads (p : Problem) (loads : SplitLoads) : Type 0 where
  pub old : AreLoads Old p loads.old
  pub new : AreLoads New p loads.new
