use Rattle.std.proofs.Common.{◌≡◌, option_map}
use Rattle.serde_json.specs.Data.{no_members}
use Rattle.serde_json.specs.Find.{get_member}
use Rattle.json_data.specs.Nodes.{value_at, members_at, entries}
use Rattle.json_data.specs.Found.{found_by}
use Rattle.json_data.proofs.element.find.Given as goal

abbrev pub invariant-members : goal.invariant-members
invariant-members l = found_by l.name l.left (entries l.texts l.members) (option_map (λ ns. value_at (entries l.texts ns.now)) l.found) ≡ get_member l.name (members_at l.count (entries l.texts l.nodes) no_members)

abbrev pub decreases-members : goal.decreases-members
decreases-members l = l.left
