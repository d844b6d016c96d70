-- Places that a rollout can come to safely: what is begun has its needs met, and every room fits.
use Rattle.std.specs.Prelude.{◌≡◌, ℕ, ◌+◌, ◌<◌, ◌≤◌, true, false, if◌then◌else◌}
use Rattle.rollout_rules.specs.Wan.{Problem, Plan, last_stage}
use Rattle.rollout_rules.specs.Items.{Resource, is_item, is_resource, capacity_of, item_count, number_of}
use Rattle.rollout_rules.specs.Operations.{operations, stand_after}
use Rattle.rollout_rules.specs.History.{Places, History, begun, settled}
use Rattle.rollout_rules.specs.Needs.{needs_met_at}
use Rattle.rollout_rules.specs.Room.{least_stage, room}
use Rattle.rollout_rules.specs.declared.item.Item.{Item}

-- how many operations of an item are settled or in flight
abbrev pub begun_at : Places → Item → ℕ
begun_at at i = if at.flies i then at.settled i + 1 else at.settled i

-- the needs of all that is begun are met by what is settled, and each room fits from the least stage on
pub record IsGood (p : Problem) (plan : Plan) (at : Places) : Type 0 where
  pub exist : (i : Item) → is_item p i ≡ true → begun_at at i ≤ operations p plan i
  pub needs : (i : Item) → is_item p i ≡ true → (k : ℕ) → k < begun_at at i → needs_met_at p plan at i (stand_after p plan i k) ≡ true
  pub room : (s : ℕ) → least_stage p plan at ≤ s → s < last_stage plan → (r : Resource) → is_resource p r ≡ true → room p plan at s r ≤ capacity_of p plan r

-- Later places within what was begun: each item is settled as far or further, and no more of its operations are begun.
pub record IsBetween (p : Problem) (at later : Places) : Type 0 where
  pub settled : (i : Item) → is_item p i ≡ true → at.settled i ≤ later.settled i
  pub begun : (i : Item) → is_item p i ≡ true → begun_at later i ≤ begun_at at i

-- Places within a history: each item is settled at least as far as there, and no more of its operations are begun.
pub record AreWithin (p : Problem) (h : History) (at : Places) : Type 0 where
  pub settled : (i : Item) → is_item p i ≡ true → settled h (number_of p i) ≤ at.settled i
  pub begun : (i : Item) → is_item p i ≡ true → begun_at at i ≤ begun h (number_of p i)

-- the places where each item's switch has applied so many of its operations, and none is in flight
abbrev pub places_held : Problem → (ℕ → ℕ) → Places
places_held p held = record { settled = λ i. held (number_of p i); flies = λ i. false }

-- What each switch holds of its item is between what is settled and what is begun.
pub record AreHeldWithin (p : Problem) (h : History) (held : ℕ → ℕ) : Type 0 where
  pub settled : (n : ℕ) → n < item_count p → settled h n ≤ held n
  pub begun : (n : ℕ) → n < item_count p → held n ≤ begun h n
