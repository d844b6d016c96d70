use Rattle.std.proofs.Common.{◌≡◌, ◌+◌, length}
use Rattle.serde_json.specs.Events.{items_len}
use Rattle.json_data.specs.View.{items_view}
use Rattle.problem_json.specs.GrammarResults.{add_each}
use Rattle.problem_json.specs.GrammarNetwork.{with_one_link}
use Rattle.problem_json.proofs.read.add_links.Given as goal

abbrev pub invariant-each : goal.invariant-each
invariant-each l =
    (length l.problem.links + items_len (items_view l.left) ≡ length l.initial.problem.links + items_len (items_view l.links))
    × (l.problem.flows ≡ l.initial.problem.flows)
    × (add_each with_one_link (items_view l.left) l.problem ≡ add_each with_one_link (items_view l.links) l.initial.problem)

abbrev pub decreases-each : goal.decreases-each
decreases-each l = items_len (items_view l.left)
