use Rattle.std.proofs.Common.{◌+◌}
use Rattle.json_data.specs.View.{view, items_view}
use Rattle.json_data.proofs.Lengths.{items_len-item}
use Rattle.problem_json.specs.GrammarNetwork.{with_one_tunnel}
use Rattle.problem_json.proofs.Growth.{grows_on, one_fewer}
use Rattle.problem_json.proofs.Steps.{add_each-next}
use Rattle.problem_json.proofs.read.flows.add_tunnels.Goals as goal

pub each-preserved : goal.each-preserved
each-preserved c =
    let i = c.each.invariant in
    let added = c.in_ok-add_tunnel.ensures in
    let left = items_view c.each.left in
    let rest = items_view c.next.new.self in
    let tunnel = view c.in-Some.tunnel in
    let is = c.in-Some.ensures in (
      i.0 + 1,
      grows_on c.args.problem.now c.each.problem c.add_tunnel.new.problem i.0 i.1 added.grown,
      one_fewer i.0 left rest (items_view c.args.tunnels) i.2 (items_len-item left rest tunnel is),
      add_each-next with_one_tunnel left rest tunnel c.each.problem c.add_tunnel.new.problem _ is i.3 added.added,
    )
