use Rattle.std.proofs.Common.{ap}
use Rattle.wan_model.proofs.Shapes.{mark_here, mark_behind}
use Rattle.wan_model.proofs.checked.CheckedPlan.either_mark.Goals as goal

pub either_mark-requires-clause-here : goal.either_mark-requires-clause-here
either_mark-requires-clause-here c = mark_here c.self.inside.problem c.self.inside.plan c.args.self.now c.self.invariant (ap (λ r. r.problem) c.self.view_is) (ap (λ r. r.plan) c.self.view_is) c.args.s c.args.t c.requires.stage c.requires.tunnel

pub either_mark-requires-clause-behind : goal.either_mark-requires-clause-behind
either_mark-requires-clause-behind c = mark_behind c.self.inside.problem c.self.inside.plan c.args.self.now c.self.invariant (ap (λ r. r.problem) c.self.view_is) (ap (λ r. r.plan) c.self.view_is) c.args.s c.args.t c.requires.stage c.requires.tunnel
