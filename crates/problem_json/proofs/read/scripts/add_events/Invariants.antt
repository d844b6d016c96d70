use Rattle.std.proofs.Common.{◌≡◌, ◌+◌, length}
use Rattle.serde_json.specs.Events.{items_len}
use Rattle.json_data.specs.View.{items_view}
use Rattle.problem_json.specs.GrammarResults.{add_each}
use Rattle.problem_json.specs.GrammarScripts.{with_one_event}
use Rattle.problem_json.proofs.read.scripts.add_events.Given as goal

abbrev pub invariant-each : goal.invariant-each
invariant-each l =
    (length l.script + items_len (items_view l.left) ≡ length l.initial.script + items_len (items_view l.events))
    × (add_each with_one_event (items_view l.left) l.script ≡ add_each with_one_event (items_view l.events) l.initial.script)

abbrev pub decreases-each : goal.decreases-each
decreases-each l = items_len (items_view l.left)
