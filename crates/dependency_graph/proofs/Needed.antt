-- The needs of an item go by the places of items alone.
use Rattle.std.proofs.Common.{◌≡◌, true, ap, ◌∙◌, length, ltb-true}
use Rattle.rollout_rules.specs.Wan.{Problem, Plan}
use Rattle.rollout_rules.specs.Network.{IsNetwork}
use Rattle.rollout_rules.specs.Items.{is_item}
use Rattle.rollout_rules.specs.History.{Places, stand}
use Rattle.rollout_rules.specs.Needs.{needs_met_at, needs_met}
use Rattle.rollout_rules.specs.declared.item.Item.{Item}
use Rattle.rollout_rules.specs.declared.item.Item.TheVariants as item
use Rattle.rollout_rules.proofs.OverItems.{entry-is_item}
use Rattle.dependency_graph.proofs.Agreement.{Agree, stand-same, needs_at-flow, needs_at-entry}

pub needs-same : (p : Problem) (plan : Plan) (at other : Places) (i : Item) → Agree p at other → IsNetwork p → is_item p i ≡ true → needs_met p plan at i ≡ needs_met p plan other i
needs-same p plan at other (item.Flow f) same net here =
    ap (needs_met_at p plan at (item.Flow f)) (stand-same p plan at other same (item.Flow f) here)
    ∙ needs_at-flow p plan at other same f (stand p plan other (item.Flow f)) net (ltb-true f (length p.flows) here)
needs-same p plan at other (item.Entry t h) same net here =
    ap (needs_met_at p plan at (item.Entry t h)) (stand-same p plan at other same (item.Entry t h) here)
    ∙ needs_at-entry p plan at other same t h (stand p plan other (item.Entry t h)) net (entry-is_item p t h here).row
