use Rattle.std.proofs.Common.{◌≡◌, ◌+◌, length}
use Rattle.serde_json.specs.Events.{items_len}
use Rattle.json_data.specs.View.{items_view}
use Rattle.problem_json.specs.GrammarResults.{add_each}
use Rattle.problem_json.specs.GrammarPlans.{with_one_mark}
use Rattle.problem_json.proofs.read.plans.add_marks.Given as goal

abbrev pub invariant-each : goal.invariant-each
invariant-each l =
    (length l.marks + items_len (items_view l.left) ≡ length l.initial.marks + items_len (items_view l.elements))
    × (add_each (with_one_mark l.stage) (items_view l.left) l.marks ≡ add_each (with_one_mark l.stage) (items_view l.elements) l.initial.marks)

abbrev pub decreases-each : goal.decreases-each
decreases-each l = items_len (items_view l.left)
