use Rattle.std.proofs.Common.{◌≡◌, ◌*◌, ℕ, length, ap, arith}
use Rattle.std.proofs.lemmas.Nat.{mul-le}
use Rattle.rollout_rules.specs.declared.limits.TheConstants.{LARGEST_CAPACITY, LARGEST_SCALE}
use Rattle.retarget_plan.specs.Aiming.{capacity_times}
use Rattle.retarget_plan.proofs.Found.{list-all, list-next}
use Rattle.retarget_plan.proofs.aimed_rows.aimed_capacities.Goals as goal

pub overflow_mul-product : goal.overflow_mul-product
overflow_mul-product c =
    omega (arith, mul-le c.aimed_capacity-capacity.result c.args.factor LARGEST_CAPACITY LARGEST_SCALE c.aimed_capacity-capacity.ensures.most c.requires.factor)

pub loop-link-preserved : goal.loop-link-preserved
loop-link-preserved c =
    list-next (capacity_times c.args.plan.now.problem c.args.aim.now c.args.factor) c.loop-link.link c.loop-link.capacities _ (c.aimed_capacity-capacity.result * c.args.factor) c.loop-link.invariant
    (ap (λ (n : ℕ). n * c.args.factor) c.aimed_capacity-capacity.ensures.value) c.in_ok-push.ensures.ok

pub returns : goal.returns
returns c =
    let all : c.loop-link.link ≡ length c.args.plan.now.problem.links = omega (arith, c.link_total-link-end.ensures.value) in
    list-all (capacity_times c.args.plan.now.problem c.args.aim.now c.args.factor) c.loop-link.link (length c.args.plan.now.problem.links) c.loop-link.capacities all c.loop-link.invariant
