use Rattle.std.proofs.Common.{ap}
use Rattle.wan_model.proofs.Shapes.{rate_here}
use Rattle.wan_model.proofs.checked.CheckedPlan.rate.Goals as goal

pub rate-requires-clause-tunnel : goal.rate-requires-clause-tunnel
rate-requires-clause-tunnel c = rate_here c.self.inside.problem c.self.inside.plan c.args.self.now c.self.invariant (ap (λ r. r.problem) c.self.view_is) (ap (λ r. r.plan) c.self.view_is) c.args.s c.args.t c.requires.stage c.requires.tunnel
