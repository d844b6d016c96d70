use Rattle.std.proofs.Common.{◌≡◌, ℕ, ◌≤◌, true, false, nat_lt, List, length, take, drop, rules, of_calls, arith}
use Rattle.std.specs.List.Sorted.{IsPartitionPoint}
use Rattle.std.proofs.lemmas.List.Sorted.{IsPartitionPoint-from_clause}
use Rattle.rollout_rules.specs.declared.op.Op.{Op}
use Rattle.update_scheduler.specs.InFlight.{ahead, behind}
use Rattle.update_scheduler.proofs.Placing.{rises-parted, placed}
use Rattle.update_scheduler.proofs.in_flight.place_of.Goals as goal

parts : (n : ℕ) (ops : List Op) (r : ℕ) → IsPartitionPoint (λ op. nat_lt op.item n ≡ true) (λ op. nat_lt op.item n ≡ false) ops r → r ≤ length ops → (take r ops ≡ ahead n ops) × (drop r ops ≡ behind n ops)
parts n ops r point le = placed n ops r le (λ k d lt. point.0 k d (omega arith) lt) (λ k d from lt. point.1 k d from lt)

pub returns-clause-front : goal.returns-clause-front
returns-clause-front c =
    (parts c.args.item c.args.ops.now c.partition_point.result
    (IsPartitionPoint-from_clause (λ op. nat_lt op.item c.args.item) c.args.ops.now c.partition_point.result c.partition_point.ensures.partitioned (rises-parted c.args.item c.args.ops.now c.requires.rises) (λ a r f k. search (rules, of_calls)))
    c.partition_point.ensures.bound).0

pub returns-clause-rest : goal.returns-clause-rest
returns-clause-rest c =
    (parts c.args.item c.args.ops.now c.partition_point.result
    (IsPartitionPoint-from_clause (λ op. nat_lt op.item c.args.item) c.args.ops.now c.partition_point.result c.partition_point.ensures.partitioned (rises-parted c.args.item c.args.ops.now c.requires.rises) (λ a r f k. search (rules, of_calls)))
    c.partition_point.ensures.bound).1
