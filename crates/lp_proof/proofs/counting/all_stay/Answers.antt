use Rattle.std.proofs.Common.{◌≡◌, ◌<◌, false, length, sym, arith}
use Rattle.rollout_rules.proofs.Below.{all_below_stops}
use Rattle.lp_proof.specs.RateSteps.{stays_at}
use Rattle.lp_proof.proofs.counting.all_stay.Goals as goal

pub returns-then-not-stays_at : goal.returns-then-not-stays_at
returns-then-not-stays_at c =
    let p = c.args.plan.now.problem in
    let plan = c.args.plan.now.plan in
    let inside : c.loop-t.t < length p.tunnels = grind arith in
    let fails : stays_at plan c.args.s c.loop-t.t ≡ false = cc in
    sym (all_below_stops (stays_at plan c.args.s) (length p.tunnels) c.loop-t.t inside fails)
