-- What `freeze` answers is a rank or holds back.
use Rattle.std.proofs.Common.{ℕ, ◌≤◌, Option, arith}
use Rattle.rollout_rules.specs.declared.op.OpView.{OpView}
use Rattle.rollout_rules.specs.Release.{held_back}
use Rattle.order_policy.proofs.Ranks.{chosen-most}
use Rattle.named_policies.specs.Policies.{critical, is_frozen, freeze}

pub freeze-most : (ceiling : Option ℕ) (view : OpView) → freeze ceiling view ≤ held_back
freeze-most ceiling view = chosen-most (is_frozen ceiling view.stage) held_back (critical view) held_back (omega arith) (omega arith)
