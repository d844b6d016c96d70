use Rattle.std.proofs.Common.{◌≡◌, ℕ, ◌+◌, ap, ◌∙◌, arith}
use Rattle.rollout_rules.specs.Wan.{rate_at, next_stage}
use Rattle.lp_proof.proofs.counting.stays_at.Goals as goal

-- before the last stage the one after is the next number
pub returns : goal.returns
returns c =
    let plan = c.args.plan.now.plan in
    let s = c.args.s in
    let behind : next_stage plan s ≡ s + 1 = omega (arith, c.requires.stage) in
    let own : c.rate-2.result ≡ rate_at plan (s + 1) c.args.t =
    c.rate-2.ensures ∙ ap (λ (k : ℕ). rate_at plan k c.args.t) (c.next_stage.ensures.value ∙ behind) in
    cc
