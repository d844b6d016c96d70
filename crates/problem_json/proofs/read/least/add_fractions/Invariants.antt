use Rattle.std.proofs.Common.{◌≡◌, ◌+◌, length}
use Rattle.serde_json.specs.Events.{items_len}
use Rattle.json_data.specs.View.{items_view}
use Rattle.problem_json.specs.GrammarResults.{add_each}
use Rattle.problem_json.specs.GrammarLeast.{with_one_fraction}
use Rattle.problem_json.proofs.read.least.add_fractions.Given as goal

abbrev pub invariant-each : goal.invariant-each
invariant-each l =
    (length l.fractions + items_len (items_view l.left) ≡ length l.initial.fractions + items_len (items_view l.elements))
    × (add_each with_one_fraction (items_view l.left) l.fractions ≡ add_each with_one_fraction (items_view l.elements) l.initial.fractions)

abbrev pub decreases-each : goal.decreases-each
decreases-each l = items_len (items_view l.left)
