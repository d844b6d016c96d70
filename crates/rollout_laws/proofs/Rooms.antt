-- Rooms of later places within what was begun are no larger, and their least stage no lower.
use Rattle.std.proofs.Common.{◌≡◌, ℕ, ◌≤◌, true, le_trans}
use Rattle.rollout_rules.specs.Wan.{Problem, Plan, last_stage}
use Rattle.rollout_rules.specs.Items.{Resource, is_item}
use Rattle.rollout_rules.specs.History.{Places, stand}
use Rattle.rollout_rules.specs.Room.{least_stage, share, room}
use Rattle.rollout_rules.specs.declared.item.Item.{Item}
use Rattle.rollout_rules.proofs.OverItems.{sum_items-mono, least_items-top, least_items-at, least_items-from}
use Rattle.rollout_laws.specs.Good.{IsBetween}
use Rattle.rollout_laws.proofs.Standing.{stand-up}
use Rattle.rollout_laws.proofs.Shares.{share-later}

module _ (p : Problem) (plan : Plan) where
  pub least_stage-at : (at : Places) (i : Item) → is_item p i ≡ true → least_stage p plan at ≤ stand p plan at i
  least_stage-at at i here = least_items-at p (last_stage plan) (stand p plan at) i here

  pub least_stage-most : (at : Places) → least_stage p plan at ≤ last_stage plan
  least_stage-most at = least_items-top p (last_stage plan) (stand p plan at)

  pub least_stage-up : (at later : Places) → ((i : Item) → is_item p i ≡ true → stand p plan at i ≤ stand p plan later i) → least_stage p plan at ≤ least_stage p plan later
  least_stage-up at later up =
      least_items-from p (last_stage plan) (stand p plan later) (least_stage p plan at) (least_stage-most at) (λ i here. le_trans (least_stage-at at i here) (up i here))

  pub stand-later : (at later : Places) → IsBetween p at later → (i : Item) → is_item p i ≡ true → stand p plan at i ≤ stand p plan later i
  stand-later at later between i here = stand-up p plan i (at.settled i) (later.settled i) (between.settled i here)

  pub room-later : (at later : Places) → IsBetween p at later → (s : ℕ) (r : Resource) → room p plan later s r ≤ room p plan at s r
  room-later at later between s r =
      sum_items-mono p (share p plan later s r) (share p plan at s r)
      (λ i here. share-later p plan i r at later s (between.settled i here) (between.begun i here))
