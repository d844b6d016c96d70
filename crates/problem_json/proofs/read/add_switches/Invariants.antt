use Rattle.std.proofs.Common.{◌≡◌, ◌+◌, length}
use Rattle.serde_json.specs.Events.{items_len}
use Rattle.json_data.specs.View.{items_view}
use Rattle.problem_json.specs.GrammarResults.{add_each}
use Rattle.problem_json.specs.GrammarNetwork.{with_one_switch}
use Rattle.problem_json.proofs.read.add_switches.Given as goal

abbrev pub invariant-each : goal.invariant-each
invariant-each l =
    (length l.problem.switches + items_len (items_view l.left) ≡ length l.initial.problem.switches + items_len (items_view l.switches))
    × (l.problem.links ≡ l.initial.problem.links)
    × (l.problem.flows ≡ l.initial.problem.flows)
    × (add_each with_one_switch (items_view l.left) l.problem ≡ add_each with_one_switch (items_view l.switches) l.initial.problem)

abbrev pub decreases-each : goal.decreases-each
decreases-each l = items_len (items_view l.left)
