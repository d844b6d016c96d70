-- Entries that follow a history that is counted.
use Rattle.std.specs.Prelude.{◌≡◌, true, List}
use Rattle.rollout_rules.specs.History.{History}
use Rattle.rollout_rules.specs.Legal.{may_follow, is_legal}
use Rattle.rollout_rules.specs.declared.op.Entry.{Entry}
use Rattle.dependency_graph.specs.Progress.{Counts, AreCountsOf}

-- A batch goes on from a history that is counted: that history is legal, and the batch may follow it.
pub record GoesOn (c : Counts) (batch : List Entry) : Type 0 where
  pub history : History
  pub counts : AreCountsOf c history
  pub legal : is_legal c.rollout.problem c.rollout.plan history ≡ true
  pub follows : may_follow c.rollout.problem c.rollout.plan history batch ≡ true
