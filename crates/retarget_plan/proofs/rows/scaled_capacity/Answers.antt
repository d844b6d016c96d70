use Rattle.std.proofs.Common.{◌≡◌, ◌≤◌, ◌<◌, ◌*◌, ℕ, ◌∙◌, length, sym, ap, subst, arith}
use Rattle.std.proofs.lemmas.Nat.{mul-le}
use Rattle.rollout_rules.specs.declared.limits.TheConstants.{LARGEST_CAPACITY, LARGEST_SCALE}
use Rattle.rollout_rules.specs.Wan.{Problem, link_at}
use Rattle.retarget_plan.proofs.rows.scaled_capacity.Goals as goal

pub capacity-capacity-requires : goal.capacity-capacity-requires
capacity-capacity-requires c = subst (λ (p : Problem). c.args.link < length p.links) (sym c.problem-problem.ensures) c.requires.link

pub overflow_mul-result : goal.overflow_mul-result
overflow_mul-result c =
    let is : c.capacity-capacity.result ≡ (link_at c.args.plan.now.problem c.args.link).capacity = c.capacity-capacity.ensures ∙ ap (λ (p : Problem). (link_at p c.args.link).capacity) c.problem-problem.ensures in
    let few : c.capacity-capacity.result ≤ LARGEST_CAPACITY = omega (arith, is, c.checked_plan_is_valid.ensures.network.links.capacities c.args.link c.requires.link) in
    omega (arith, mul-le c.capacity-capacity.result c.args.factor LARGEST_CAPACITY LARGEST_SCALE few c.requires.factor)

pub returns : goal.returns
returns c = ap (λ (n : ℕ). n * c.args.factor) (c.capacity-capacity.ensures ∙ ap (λ (p : Problem). (link_at p c.args.link).capacity) c.problem-problem.ensures)
