-- When a rollout can go on.
use Rattle.std.specs.Prelude.{◌≡◌, ℕ, ◌<◌, IsTrue, IsFalse}
use Rattle.rollout_rules.specs.Wan.{Problem, Plan, last_stage}
use Rattle.rollout_rules.specs.Items.{is_item, item_count, number_of}
use Rattle.rollout_rules.specs.History.{History, flies, places_of, stand}
use Rattle.rollout_rules.specs.Room.{least_stage}
use Rattle.rollout_rules.specs.Legal.{may_begin}
use Rattle.rollout_rules.specs.Release.{next_op, is_held_back}
use Rattle.rollout_rules.specs.declared.item.Item.{Item}
use Rattle.rollout_rules.specs.declared.op.OpView.{OpView}

-- no operation is in flight
abbrev pub NothingFlies : Problem → History → Type 0
NothingFlies p h = (n : ℕ) → n < item_count p → IsFalse (flies h n)

-- no item stands behind this one, which has operations left and none in flight
pub record WaitsBehind (p : Problem) (plan : Plan) (h : History) (i : Item) : Type 0 where
  pub found : IsTrue (is_item p i)
  pub least : stand p plan (places_of p h) i ≡ least_stage p plan (places_of p h)
  pub left : stand p plan (places_of p h) i < last_stage plan
  pub idle : IsFalse (flies h (number_of p i))

-- some item's next operation may begin
abbrev pub SomeMayBegin : Problem → Plan → History → Type 0
SomeMayBegin p plan h = (n : ℕ) × IsTrue (may_begin p plan h (next_op h n))

-- a policy that holds no operation back
abbrev pub HoldsNothing : (OpView → ℕ) → Type 0
HoldsNothing policy = (view : OpView) → IsFalse (is_held_back policy view)
