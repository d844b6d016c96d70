use Rattle.std.proofs.Common.{◌≡◌, ◌+◌, ap, ◌∙◌, arith}
use Rattle.std.proofs.lemmas.Grind.{common_steps}
use Rattle.rollout_rules.specs.Wan.{tunnel_at, tunnel_of}
use Rattle.rollout_rules.proofs.Tunnels.{tunnel_of-below, flow-tunnel_of}
use Rattle.wan_model.proofs.problem.Problem.tunnel_of.Goals as goal

pub returns-clause-inside : goal.returns-clause-inside
returns-clause-inside c =
    let below = tunnel_of-below c.args.self.now c.args.flow c.args.j c.flows.ensures.network c.requires.flow c.requires.tunnel in
    grind (arith, common_steps, below)

pub returns-clause-own : goal.returns-clause-own
returns-clause-own c =
    let place : c.row.inside.first + c.args.j ≡ tunnel_of c.args.self.now c.args.flow c.args.j = grind (arith, common_steps) in
    ap (λ t. (tunnel_at c.args.self.now t).flow) place
    ∙ flow-tunnel_of c.args.self.now c.args.flow c.args.j c.flows.ensures.network c.requires.flow c.requires.tunnel
