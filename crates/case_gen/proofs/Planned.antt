-- A case has a plan: slack leaves room for loads, and with table room nothing is refused.
use Rattle.std.proofs.Common.{◌≡◌, ℕ, ◌-◌, ◌*◌, ◌<◌, ◌≤◌, true, ◌&&◌, length, nat_le, leb-true, le-leb, arith}
use Rattle.std.specs.Prelude.{IsOk}
use Rattle.std.proofs.Math.Nat.{le_of_mul-le-mul_left, mul-le-mul_right}
use Rattle.std.proofs.lemmas.Bool.{and_from, and_parts}
use Rattle.rand_pcg.specs.Lcg.{Lcg}
use Rattle.rollout_rules.specs.Slack.{has_slack, new_load, old_load}
use Rattle.rollout_rules.specs.Wan.{Problem, link_at}
use Rattle.rollout_rules.proofs.Below.{all_below-at, all_below-from}
use Rattle.scratch_plan.specs.Refusals.{has_room_for_loads}
use Rattle.scratch_plan.proofs.Causes.{nothing_refused}
use Rattle.plan_choose.specs.Choice.{chosen}
use Rattle.plan_choose.proofs.Enough.{slack-enough}
use Rattle.case_gen.specs.Cases.{case}
use Rattle.case_gen.proofs.Room.{room, slack}

-- a load that leaves a share free is within the capacity
within : (k load capacity : ℕ) → 2 ≤ k → k * load ≤ (k - 1) * capacity → load ≤ capacity
within k load capacity some leaves =
    let all : (k - 1) * capacity ≤ k * capacity = mul-le-mul_right capacity (omega arith) in
    le_of_mul-le-mul_left {m = load} {n = capacity} {k = k} (omega arith) (omega arith)

loads_fit : (p : Problem) (k : ℕ) → 2 ≤ k → has_slack p k ≡ true → has_room_for_loads p ≡ true
loads_fit p k some has =
    all_below-from (length p.links) (λ l. nat_le (old_load p l) (link_at p l).capacity && nat_le (new_load p l) (link_at p l).capacity) (λ l inside.
    let c = (link_at p l).capacity in
    let both = and_parts (nat_le (k * old_load p l) ((k - 1) * c)) (nat_le (k * new_load p l) ((k - 1) * c)) (all_below-at (length p.links) (λ m. nat_le (k * old_load p m) ((k - 1) * (link_at p m).capacity) && nat_le (k * new_load p m) ((k - 1) * (link_at p m).capacity)) has l inside) in
    and_from (nat_le (old_load p l) c) (nat_le (new_load p l) c)
    (le-leb (old_load p l) c (within k (old_load p l) c some (leb-true (k * old_load p l) ((k - 1) * c) both.0)))
    (le-leb (new_load p l) c (within k (new_load p l) c some (leb-true (k * new_load p l) ((k - 1) * c) both.1))))

pub has_plan : (k switches flows : ℕ) (draws : Lcg) → 2 ≤ k → k ≤ 64 → IsOk (chosen (case k switches flows draws))
has_plan k switches flows draws some most =
    let free = slack k switches flows draws some in
    slack-enough (case k switches flows draws)
    (nothing_refused (case k switches flows draws) (loads_fit (case k switches flows draws) k some free) (room k switches flows draws))
    k some most free
