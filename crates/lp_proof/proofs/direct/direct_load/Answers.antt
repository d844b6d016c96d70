use Rattle.std.proofs.Common.{◌≡◌, ℕ, suc, ◌+◌, ap, ◌∙◌, if◌then◌else◌, arith}
use Rattle.rollout_rules.specs.Sums.{sum_below}
use Rattle.rollout_rules.specs.Wan.{crosses}
use Rattle.lp_proof.specs.Shown.{greater_end}
use Rattle.lp_proof.proofs.direct.direct_load.Goals as goal

one_more : (n sum share : ℕ) (f : ℕ → ℕ) → sum ≡ sum_below n f → share ≡ f n → sum + share ≡ sum_below (n + 1) f
one_more n sum share f so own =
    let next : suc n ≡ n + 1 = omega arith in
    let added : sum + share ≡ sum_below n f + f n = omega arith in
    added ∙ ap (λ (m : ℕ). sum_below m f) next

pub loop-tunnel-preserved : goal.loop-tunnel-preserved
loop-tunnel-preserved c =
    let p = c.args.problem.now in
    let share = λ (t : ℕ). if crosses p t c.args.link then greater_end p t else 0 in
    (one_more c.loop-tunnel.tunnel c.loop-tunnel.sum c.share-sum.result share c.loop-tunnel.invariant.0 c.share-sum.ensures.value, omega arith)
