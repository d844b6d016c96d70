-- That the room of a journal is enough.
use Rattle.std.proofs.Common.{ℕ, ◌+◌, ◌*◌, ◌≤◌, max, arith}
use Rattle.rollout_rules.specs.Items.{item_at, item_count}
use Rattle.rollout_rules.specs.Wan.{Rollout, last_stage}
use Rattle.rollout_rules.proofs.Below.{sum_below-most}
use Rattle.dependency_graph.specs.Graph.{count_of, op_total}
use Rattle.dependency_graph.proofs.Counts.{operations-most}
use Rattle.retarget_service.specs.JournalRoom.{journal_room, least_room}

op_total-most : (r : Rollout) → op_total r ≤ item_count r.problem * last_stage r.plan
op_total-most r = sum_below-most (item_count r.problem) (last_stage r.plan) (count_of r) (λ n lt. operations-most r.problem r.plan (item_at r.problem n))

three-parts : (items total most : ℕ) → total ≤ most → 35 + 3 * (45 + 4 * items + 28 * total) ≤ max least_room (35 + 3 * (45 + 4 * items + 28 * most))
three-parts items total most few = omega (arith, few)

pub has-room : (r : Rollout) → 35 + 3 * (45 + 4 * item_count r.problem + 28 * op_total r) ≤ journal_room r
has-room r = three-parts (item_count r.problem) (op_total r) (item_count r.problem * last_stage r.plan) (op_total-most r)
