use Rattle.std.proofs.Common.{◌≡◌, ◌+◌, length}
use Rattle.serde_json.specs.Events.{items_len}
use Rattle.json_data.specs.View.{items_view}
use Rattle.retarget_plan.specs.Aiming.{AreGiven}
use Rattle.target_json.specs.Results.{add_from}
use Rattle.target_json.specs.Grammar.{with_one_capacity}
use Rattle.target_json.proofs.rows.add_capacities.Given as goal

abbrev pub invariant-each : goal.invariant-each
invariant-each l =
    (l.number + items_len (items_view l.left) ≡ items_len (items_view l.links))
    × ((add_from (with_one_capacity l.problem) l.number (items_view l.left) l.given.items ≡ add_from (with_one_capacity l.problem) 0 (items_view l.links) l.initial.given.items)
    × ((length l.given.items ≡ length l.problem.links) × AreGiven l.given.items))

abbrev pub decreases-each : goal.decreases-each
decreases-each l = items_len (items_view l.left)
