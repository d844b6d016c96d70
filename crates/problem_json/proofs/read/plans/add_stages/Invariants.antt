use Rattle.std.proofs.Common.{◌≡◌, ◌+◌, length}
use Rattle.serde_json.specs.Events.{items_len}
use Rattle.json_data.specs.View.{items_view}
use Rattle.problem_json.specs.GrammarResults.{add_each}
use Rattle.problem_json.specs.GrammarPlans.{with_one_stage}
use Rattle.problem_json.proofs.read.plans.add_stages.Given as goal

abbrev pub invariant-each : goal.invariant-each
invariant-each l =
    (length l.plan.stages + items_len (items_view l.left) ≡ length l.initial.plan.stages + items_len (items_view l.stages))
    × (add_each with_one_stage (items_view l.left) l.plan ≡ add_each with_one_stage (items_view l.stages) l.initial.plan)

abbrev pub decreases-each : goal.decreases-each
decreases-each l = items_len (items_view l.left)
