use Rattle.std.proofs.Common.{ℕ, List, set, ap, ◌∙◌, arith}
use Rattle.rollout_rules.specs.Wan.{rate_at, tunnel_of}
use Rattle.rollout_book.proofs.Filling.{one-more}
use Rattle.rollout_book.proofs.contents.flow_rates.Goals as goal

pub loop-j-preserved : goal.loop-j-preserved
loop-j-preserved c =
    let r = c.args.plan.now in
    ap (λ (rates : List ℕ). set rates c.loop-j.j c.rate.result) c.loop-j.invariant
    ∙ one-more c.loop-j.j (λ j. rate_at r.plan c.args.stage (tunnel_of r.problem c.args.flow j)) c.rate.result (omega (arith, c.loop-j-test.true, c.tunnel_count-j-end.ensures.few))
    (c.rate.ensures ∙ ap (rate_at r.plan c.args.stage) c.tunnel_of.ensures.value)
