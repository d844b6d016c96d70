-- How far items have come with entries after those that are counted.
use Rattle.std.specs.Prelude.{ℕ, ◌+◌, Bool, false, List, slice_index, ◌==◌, if◌then◌else◌, nat_le}
use Rattle.rollout_rules.specs.Sums.{all_below}
use Rattle.rollout_rules.specs.Wan.{Rollout, tunnel_at, width_of, rate_at, mark_at}
use Rattle.rollout_rules.specs.Items.{item_count, item_at, number_of, greater_rate, either_mark}
use Rattle.rollout_rules.specs.Operations.{operations, stand_after}
use Rattle.rollout_rules.specs.History.{Places, begins_in, dones_in}
use Rattle.rollout_rules.specs.declared.op.Op.{Op}
use Rattle.rollout_rules.specs.declared.op.Entry.{Entry}
use Rattle.rollout_rules.specs.declared.op.Entry.TheVariants.{Begin, Done}
use Rattle.dependency_graph.specs.Progress.{Counts}

-- how many operations of item n are settled, and how many were begun
abbrev pub settled_with : Counts → List Entry → ℕ → ℕ
settled_with c ahead n = slice_index c.settled n + dones_in ahead n

abbrev pub begun_with : Counts → List Entry → ℕ → ℕ
begun_with c ahead n = slice_index c.begun n + begins_in ahead n

-- whether an operation of item n flies, and whether one does once this one has begun
abbrev pub flies_with : Counts → List Entry → ℕ → Bool
flies_with c ahead n = begun_with c ahead n == settled_with c ahead n + 1

abbrev pub flies_begun : Counts → List Entry → Op → ℕ → Bool
flies_begun c ahead op n = begun_with c ahead n + (if op.item == n then 1 else 0) == settled_with c ahead n + 1

-- the stage at which item n stands
abbrev pub stand_with : Rollout → Counts → List Entry → ℕ → ℕ
stand_with r c ahead n = stand_after r.problem r.plan (item_at r.problem n) (settled_with c ahead n)

-- the places of items once the operation has begun
abbrev pub places_begun : Rollout → Counts → List Entry → Op → Places
places_begun r c ahead op = record {
  settled = λ i. settled_with c ahead (number_of r.problem i);
  flies = λ i. flies_begun c ahead op (number_of r.problem i);
}

-- the places of items as they are
abbrev pub places_with : Rollout → Counts → List Entry → Places
places_with r c ahead = record {
  settled = λ i. settled_with c ahead (number_of r.problem i);
  flies = λ i. flies_with c ahead (number_of r.problem i);
}

-- What tunnel t adds to the room of a link on its path at stage s, by where its flow, item n, stands once the operation
-- has begun.
abbrev pub flow_share : Rollout → Counts → List Entry → Op → ℕ → ℕ → ℕ → ℕ
flow_share r c ahead op s n t =
    if nat_le (stand_with r c ahead n) s then greater_rate r.plan s t
    else (if flies_begun c ahead op n then greater_rate r.plan (stand_with r c ahead n) t else rate_at r.plan (stand_with r c ahead n) t)

abbrev pub rate_share : Rollout → Counts → List Entry → Op → ℕ → ℕ → ℕ
rate_share r c ahead op s t = flow_share r c ahead op s (tunnel_at r.problem t).flow t

-- whether the entry of tunnel t with item number n takes its place in its table at stage s, and how much it takes there
abbrev pub takes_place : Rollout → Counts → List Entry → Op → ℕ → ℕ → ℕ → Bool
takes_place r c ahead op s t n =
    if nat_le (stand_with r c ahead n) s then either_mark r.plan s t
    else (if flies_begun c ahead op n then either_mark r.plan (stand_with r c ahead n) t else mark_at r.plan (stand_with r c ahead n) t)

abbrev pub width_share : Rollout → Counts → List Entry → Op → ℕ → ℕ → ℕ → ℕ
width_share r c ahead op s t n = if takes_place r c ahead op s t n then width_of r.problem t else 0

-- whether an entry settles, or begins, an operation of item n
abbrev pub settles : Entry → ℕ → Bool
settles (Begin op) n = false
settles (Done op) n = op.item == n

abbrev pub starts : Entry → ℕ → Bool
starts (Begin op) n = op.item == n
starts (Done op) n = false

-- whether every operation of every item is settled, by the counts
abbrev pub all_settled : Counts → Bool
all_settled c = all_below (item_count c.rollout.problem) (λ n. slice_index c.settled n == operations c.rollout.problem c.rollout.plan (item_at c.rollout.problem n))
