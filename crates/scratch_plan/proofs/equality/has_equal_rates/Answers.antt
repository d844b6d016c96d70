use Rattle.std.proofs.Common.{length, sym, ap, ◌∙◌, ◌==◌, arith, ne_eqb}
use Rattle.rollout_rules.specs.Wan.{tunnel_at, old_rate, new_rate}
use Rattle.rollout_rules.proofs.Below.{all_below_stops}
use Rattle.scratch_plan.proofs.equality.has_equal_rates.Goals as goal

pub returns-then-old_rate-new_rate-clause-value : goal.returns-then-old_rate-new_rate-clause-value
returns-then-old_rate-new_rate-clause-value c =
    let p = c.args.problem.now in
    let t = c.loop-t.t in
    sym (all_below_stops (λ u. old_rate (tunnel_at p u) == new_rate (tunnel_at p u)) (length p.tunnels) t (omega (arith, ap length c.tunnels-t-end.ensures.list, c.loop-t-test.true))
    (ne_eqb (old_rate (tunnel_at p t)) (new_rate (tunnel_at p t)) (λ e. c.if-old_rate-new_rate.true (c.old_rate.ensures.value ∙ e ∙ sym c.new_rate.ensures.value))))
