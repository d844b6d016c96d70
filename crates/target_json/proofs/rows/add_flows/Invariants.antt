use Rattle.std.proofs.Common.{◌≡◌, ◌+◌, length}
use Rattle.serde_json.specs.Events.{items_len}
use Rattle.json_data.specs.View.{items_view}
use Rattle.retarget_plan.specs.Aiming.{AreWithin}
use Rattle.target_json.specs.Results.{add_from}
use Rattle.target_json.specs.Grammar.{with_one_flow}
use Rattle.target_json.proofs.rows.add_flows.Given as goal

abbrev pub invariant-each : goal.invariant-each
invariant-each l =
    (l.number + items_len (items_view l.left) ≡ length l.problem.flows)
    × ((add_from (with_one_flow l.problem) l.number (items_view l.left) l.rates ≡ add_from (with_one_flow l.problem) 0 (items_view l.flows) l.initial.rates)
    × AreWithin l.rates)

abbrev pub decreases-each : goal.decreases-each
decreases-each l = items_len (items_view l.left)
