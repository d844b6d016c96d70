use Rattle.std.proofs.Common.{◌==◌, ◌+◌, not, length, if◌then◌else◌, ap₂, ◌∙◌}
use Rattle.dependency_graph.specs.Chains.{longest_departure}
use Rattle.dependency_graph.proofs.StageRows.{inside-below, read-below}
use Rattle.dependency_graph.proofs.longest.departure.Goals as goal

pub at-requires : goal.at-requires
at-requires c = inside-below (length c.args.plan.now.problem.tunnels) (λ t. longest_departure c.args.plan.now.problem c.args.plan.now.plan t (c.args.s + 1)) c.args.departures.now c.args.t c.requires.departures c.requires.tunnel

pub returns : goal.returns
returns c =
    let read = read-below (length c.args.plan.now.problem.tunnels) (λ t. longest_departure c.args.plan.now.problem c.args.plan.now.plan t (c.args.s + 1)) c.args.departures.now c.args.t 0 c.requires.departures c.requires.tunnel in
    c.only_if.ensures ∙ ap₂ (λ r x. if not (r == 0) then x else 0) c.rate.ensures (c.at.ensures ∙ read)
