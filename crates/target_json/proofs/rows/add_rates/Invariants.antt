use Rattle.std.proofs.Common.{◌≡◌, ◌+◌}
use Rattle.serde_json.specs.Events.{items_len}
use Rattle.json_data.specs.View.{items_view}
use Rattle.retarget_plan.specs.Aiming.{AreWithin}
use Rattle.target_json.specs.Results.{add_from}
use Rattle.target_json.specs.Grammar.{with_one_rate}
use Rattle.target_json.proofs.rows.add_rates.Given as goal

abbrev pub invariant-each : goal.invariant-each
invariant-each l =
    (l.number + items_len (items_view l.left) ≡ items_len (items_view l.new))
    × ((add_from (with_one_rate l.flow) l.number (items_view l.left) l.rates ≡ add_from (with_one_rate l.flow) 0 (items_view l.new) l.initial.rates)
    × AreWithin l.rates)

abbrev pub decreases-each : goal.decreases-each
decreases-each l = items_len (items_view l.left)
