use Rattle.std.proofs.Common.{◌≡◌, drop}
use Rattle.rollout_rules.specs.Items.{entry_from}
use Rattle.wan_model.proofs.items.entry_at.Given as goal

abbrev pub invariant-loop-t : goal.invariant-loop-t
invariant-loop-t l = entry_from (drop l.t l.tunnels) l.t l.left ≡ entry_from l.tunnels 0 l.number
