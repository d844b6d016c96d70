use Rattle.std.proofs.Common.{◌≡◌, drop}
use Rattle.rollout_rules.specs.World as world
use Rattle.rollout_core.proofs.answers.all_answered.Given as goal

abbrev pub invariant-loop-entry : goal.invariant-loop-entry
invariant-loop-entry l = world.all_answered l.migration l.handed l.batch ≡ world.all_answered l.migration l.handed (drop l.entry-index l.batch)
