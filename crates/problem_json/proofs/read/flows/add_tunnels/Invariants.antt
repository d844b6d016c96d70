use Rattle.std.proofs.Common.{◌≡◌, ℕ, ◌+◌}
use Rattle.serde_json.specs.Events.{items_len}
use Rattle.json_data.specs.View.{items_view}
use Rattle.problem_json.specs.GrammarGrowth.{HasMoreTunnels}
use Rattle.problem_json.specs.GrammarResults.{add_each}
use Rattle.problem_json.specs.GrammarNetwork.{with_one_tunnel}
use Rattle.problem_json.proofs.read.flows.add_tunnels.Given as goal

abbrev pub invariant-each : goal.invariant-each
invariant-each l =
    (n : ℕ) × HasMoreTunnels l.initial.problem l.problem n × (n + items_len (items_view l.left) ≡ items_len (items_view l.tunnels))
    × (add_each with_one_tunnel (items_view l.left) l.problem ≡ add_each with_one_tunnel (items_view l.tunnels) l.initial.problem)

abbrev pub decreases-each : goal.decreases-each
decreases-each l = items_len (items_view l.left)
