use Rattle.std.proofs.Common.{ℕ, ◌≤◌, ◌+◌, length, slice_index, arith}
use Rattle.rollout_rules.proofs.Below.{sum_below-up}
use Rattle.dependency_graph.specs.Touched.{beyond}
use Rattle.dependency_graph.proofs.Elements.{sum_below-more}
use Rattle.dependency_graph.proofs.amounts.rates_beyond.Goals as goal

pub overflow_add-sum : goal.overflow_add-sum
overflow_add-sum c =
    let f : ℕ → ℕ = λ j. beyond c.args.plan.now.plan c.args.from c.args.to (slice_index c.args.tunnels.now j) in
    let low : c.loop-j.j + 1 ≤ length c.args.tunnels.now = omega (arith, c.loop-j-test.true) in
    omega (arith, c.loop-j.invariant, c.rate_beyond-sum.ensures, sum_below-more c.loop-j.j f, sum_below-up (c.loop-j.j + 1) (length c.args.tunnels.now) f low, c.requires.few)
