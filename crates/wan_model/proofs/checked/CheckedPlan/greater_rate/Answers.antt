use Rattle.std.proofs.Common.{ap}
use Rattle.wan_model.proofs.Shapes.{rate_here, rate_behind}
use Rattle.wan_model.proofs.checked.CheckedPlan.greater_rate.Goals as goal

pub greater_rate-requires-clause-here : goal.greater_rate-requires-clause-here
greater_rate-requires-clause-here c = rate_here c.self.inside.problem c.self.inside.plan c.args.self.now c.self.invariant (ap (λ r. r.problem) c.self.view_is) (ap (λ r. r.plan) c.self.view_is) c.args.s c.args.t c.requires.stage c.requires.tunnel

pub greater_rate-requires-clause-behind : goal.greater_rate-requires-clause-behind
greater_rate-requires-clause-behind c = rate_behind c.self.inside.problem c.self.inside.plan c.args.self.now c.self.invariant (ap (λ r. r.problem) c.self.view_is) (ap (λ r. r.plan) c.self.view_is) c.args.s c.args.t c.requires.stage c.requires.tunnel
