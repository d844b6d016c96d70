use Rattle.std.proofs.Common.{ap}
use Rattle.wan_model.proofs.Shapes.{mark_here}
use Rattle.wan_model.proofs.checked.CheckedPlan.mark.Goals as goal

pub mark-requires-clause-tunnel : goal.mark-requires-clause-tunnel
mark-requires-clause-tunnel c = mark_here c.self.inside.problem c.self.inside.plan c.args.self.now c.self.invariant (ap (λ r. r.problem) c.self.view_is) (ap (λ r. r.plan) c.self.view_is) c.args.s c.args.t c.requires.stage c.requires.tunnel
