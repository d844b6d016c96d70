use Rattle.std.proofs.Common.{◌≡◌, ◌+◌, length}
use Rattle.serde_json.specs.Events.{items_len}
use Rattle.json_data.specs.View.{items_view}
use Rattle.problem_json.specs.GrammarResults.{add_each}
use Rattle.problem_json.specs.GrammarPlans.{with_one_rate}
use Rattle.problem_json.proofs.read.plans.add_rates.Given as goal

abbrev pub invariant-each : goal.invariant-each
invariant-each l =
    (length l.rates + items_len (items_view l.left) ≡ length l.initial.rates + items_len (items_view l.elements))
    × (add_each (with_one_rate l.stage) (items_view l.left) l.rates ≡ add_each (with_one_rate l.stage) (items_view l.elements) l.initial.rates)

abbrev pub decreases-each : goal.decreases-each
decreases-each l = items_len (items_view l.left)
