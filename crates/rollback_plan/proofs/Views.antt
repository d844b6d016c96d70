-- What a policy sees of a legal history is a view.
use Rattle.std.proofs.Common.{◌≡◌, ℕ, zero, suc, ◌<◌, ◌≤◌, ◌^◌, true, arith}
use Rattle.rollout_rules.specs.Wan.{Problem, Plan, last_stage}
use Rattle.rollout_rules.specs.Network.{IsNetwork}
use Rattle.rollout_rules.specs.Items.{item_count, item_at}
use Rattle.rollout_rules.specs.Operations.{changes_to}
use Rattle.rollout_rules.specs.History.{History, settled, places_of, stand}
use Rattle.rollout_rules.specs.Valid.{is_valid_plan}
use Rattle.rollout_rules.specs.Legal.{is_legal}
use Rattle.rollout_rules.specs.Release.{view_of}
use Rattle.rollout_rules.specs.declared.item.Item.{Item}
use Rattle.rollout_laws.proofs.Histories.{is_counted}
use Rattle.rollout_laws.proofs.Standing.{changes-step, stand-most}
use Rattle.dependency_graph.proofs.Growing.{item_count-few}
use Rattle.wan_model.proofs.Shapes.{valid-IsShaped}
use Rattle.order_policy.specs.Answers.{is_view}
use Rattle.order_policy.proofs.Ranks.{small-is_view}
use Rattle.dependency_graph.proofs.EnoughTurns.{chain-most, installed-before}

changes-few : (p : Problem) (plan : Plan) (i : Item) (s : ℕ) → changes_to p plan i s ≤ s
changes-few p plan i zero = omega arith
changes-few p plan i (suc s) = omega (arith, changes-step p plan i s, changes-few p plan i s)

pub views-are_views : (p : Problem) (plan : Plan) (h : History) (n : ℕ) → IsNetwork p → is_valid_plan p plan ≡ true → is_legal p plan h ≡ true → n < item_count p → is_view (view_of p plan h n) ≡ true
views-are_views p plan h n net valid legal lt =
    let i = item_at p n in
    let few = (valid-IsShaped p plan valid).few in
    let counted = is_counted p plan h legal n in
    let exist = counted.exist lt in
    let low = counted.settled_begun in
    let operations_few = changes-few p plan i (last_stage plan) in
    let stage = stand-most p plan i (settled h n) in
    let items = item_count-few p net in
    small-is_view (view_of p plan h n) (record {
      item = omega (arith, lt, items);
      number = omega (arith, low, exist, operations_few, few);
      stage = stage_small;
      left = omega (arith, operations_few, few);
      chain = chain_small;
    })
  where
    stage_small : stand p plan (places_of p h) (item_at p n) < 2 ^ 32
    stage_small = omega (arith, stand-most p plan (item_at p n) ((places_of p h).settled (item_at p n)), (valid-IsShaped p plan valid).few)

    chain_small : (view_of p plan h n).chain < 2 ^ 32
    chain_small = omega (arith, chain-most p plan (installed-before p plan valid) (last_stage plan) (item_at p n) (stand p plan (places_of p h) (item_at p n)), (valid-IsShaped p plan valid).few)
