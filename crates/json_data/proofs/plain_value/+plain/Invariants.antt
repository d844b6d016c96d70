use Rattle.std.proofs.Common.{◌+◌, ◌-◌, ◌*◌, ◌≤◌, List, [], ◌∷◌, ◌++◌, length}
use Rattle.serde_json.specs.Data.{Data, Members}
use Rattle.json_data.specs.Growth.{GrowsByItems, GrowsByMembers}
use Rattle.json_data.specs.Plain.{AreItemsAt, AreMembersAt}
use Rattle.json_data.specs.Nodes.{Null, spotted}
use Rattle.json_data.proofs.plain_value.+plain.Given as goal

abbrev pub decreases-plain_value : goal.decreases-plain_value
decreases-plain_value l = 2 * l.depth

abbrev pub decreases-plain_items : goal.decreases-plain_items
decreases-plain_items l = 2 * l.depth + 1

abbrev pub decreases-plain_members : goal.decreases-plain_members
decreases-plain_members l = 2 * l.depth + 1

-- the elements so far, and the nodes that they are
abbrev pub invariant-plain_items-items : goal.invariant-plain_items-items
invariant-plain_items-items l =
    (l.from ≤ l.at) × (l.at ≤ length l.text)
    × (ds : List Data) × AreItemsAt l.text l.from l.depth ds l.at l.ended
    × GrowsByItems ds l.count (spotted l.text l.fn.nodes.items ++ Null ∷ []) (spotted l.text l.nodes.items)
    × (l.at ≤ length l.text)

abbrev pub decreases-plain_items-items : goal.decreases-plain_items-items
decreases-plain_items-items l = length l.text - l.at

-- the members so far, and the nodes that they are
abbrev pub invariant-plain_members-members : goal.invariant-plain_members-members
invariant-plain_members-members l =
    (l.from ≤ l.at) × (l.at ≤ length l.text)
    × (found : Members) × AreMembersAt l.text l.from l.depth l.count found l.at l.ended
    × GrowsByMembers found l.count (spotted l.text l.fn.nodes.items ++ Null ∷ []) (spotted l.text l.nodes.items)
    × (l.at ≤ length l.text)

abbrev pub decreases-plain_members-members : goal.decreases-plain_members-members
decreases-plain_members-members l = length l.text - l.at
