use Rattle.std.proofs.Common.{◌≡◌, ◌+◌, ◌++◌, vec_len, vec_capacity, map, drop}
use Rattle.rollout_rules.specs.declared.op.Entry.TheVariants.{Begin}
use Rattle.update_scheduler.proofs.turns.add_begins.Given as goal

-- what was added, with what is left, is all
abbrev pub invariant-loop-op : goal.invariant-loop-op
invariant-loop-op l = (l.batch.items ++ map (λ op. Begin op) (drop l.op-index l.ops) ≡ l.initial.batch.items ++ map (λ op. Begin op) l.ops)
    × (vec_len l.batch ≡ vec_len l.initial.batch + l.op-index)
    × (vec_capacity l.batch ≡ vec_capacity l.initial.batch)
