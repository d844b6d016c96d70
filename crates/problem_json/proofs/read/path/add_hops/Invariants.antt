use Rattle.std.proofs.Common.{◌≡◌, ◌+◌, length}
use Rattle.serde_json.specs.Events.{items_len}
use Rattle.json_data.specs.View.{items_view}
use Rattle.rollout_rules.specs.Building.{IsRoute}
use Rattle.problem_json.specs.GrammarResults.{add_each}
use Rattle.problem_json.specs.GrammarNetwork.{with_one_hop}
use Rattle.problem_json.proofs.read.path.add_hops.Given as goal

abbrev pub invariant-each : goal.invariant-each
invariant-each l =
    IsRoute l.problem l.path
    × (length l.path + items_len (items_view l.left) ≡ length l.initial.path + items_len (items_view l.names))
    × (add_each (with_one_hop l.problem) (items_view l.left) l.path ≡ add_each (with_one_hop l.problem) (items_view l.names) l.initial.path)

abbrev pub decreases-each : goal.decreases-each
decreases-each l = items_len (items_view l.left)
