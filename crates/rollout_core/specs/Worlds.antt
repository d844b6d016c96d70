-- The world of a rollout in code: the durable history with its counts, and what the switches hold by pairs.
use Rattle.std.specs.Prelude.{◌≡◌, ℕ, ◌<◌, Bool, true, List, [], ◌∷◌, ◌++◌, length, slice_set}
use Rattle.std.specs.List.{All}
use Rattle.rollout_rules.specs.Sums.{list_below}
use Rattle.rollout_rules.specs.Wan.{Problem, Plan, Rollout}
use Rattle.rollout_rules.specs.Items.{item_count}
use Rattle.rollout_rules.specs.History.{History}
use Rattle.rollout_rules.specs.Legal.{may_follow, is_legal}
use Rattle.rollout_rules.specs.Agent.{Holding}
use Rattle.rollout_rules.specs.World.{World, holding_of, pair_at}
use Rattle.rollout_rules.specs.declared.held.Held.{Held}
use Rattle.rollout_rules.specs.declared.held.Given.{Given}
use Rattle.rollout_rules.specs.declared.op.Op.{Op}
use Rattle.rollout_rules.specs.declared.op.Entry.{Entry}
use Rattle.dependency_graph.specs.Progress.{Counts, AreCountsOf}
use Rattle.rollout_core.specs.InFlight.{FlyingItems, AreFlying}

-- the history of a rollout
pub record Recorded : Type 0 where
  pub rollout : Rollout
  pub history : History

-- a world, with the rollout whose world it is
pub record Standing : Type 0 where
  pub rollout : Rollout
  pub world : World

-- a legal history with its counts under a plan, and what is in flight
pub record IsRecorded (r : Rollout) (c : Counts) (noted : FlyingItems) (h : History) : Type 0 where
  pub rollout : r ≡ c.rollout
  pub counts : AreCountsOf c h
  pub start : length h.start ≡ item_count r.problem
  pub flights : AreFlying r.problem h noted
  pub legal : is_legal r.problem r.plan h ≡ true

-- A batch goes on from a history that is counted: that history is legal, and the batch may follow it.
pub record GoesOn (c : Counts) (batch : List Entry) : Type 0 where
  pub history : History
  pub counts : AreCountsOf c history
  pub legal : is_legal c.rollout.problem c.rollout.plan history ≡ true
  pub follows : may_follow c.rollout.problem c.rollout.plan history batch ≡ true

-- what the switches hold of the items, by the pair held of each
abbrev pub holdings : Problem → Plan → List ℕ → ℕ → List Held → List Holding
holdings p plan start migration pairs = list_below (length pairs) (λ n. holding_of p plan start migration n (pair_at pairs n))

-- a world by its parts in code: the migration, the pairs held at first, what is durable, whether the controller is up,
-- the batch being written, the commands sent, the answers given and those handed over, and the pairs held
abbrev pub standing_of : Recorded → ℕ → List Held → Bool → List Entry → List Op → List Given → List Given → List Held → Standing
standing_of r migration first up writing sent given handed pairs = record {
  rollout = r.rollout;
  world = record {
    migration = migration;
    first = first;
    durable = r.history;
    up = up;
    writing = writing;
    sent = sent;
    given = given;
    handed = handed;
    held = holdings r.rollout.problem r.rollout.plan r.history.start migration pairs;
  };
}

-- the world in which an item's switch holds a pair
abbrev pub with_held : Problem → Plan → World → ℕ → Held → World
with_held p plan w n held = record w { held = slice_set w.held n (holding_of p plan w.durable.start w.migration n held) }

-- the world in which an answer is given too: an item, and the pair that its switch holds
abbrev pub with_answer : World → ℕ → Held → World
with_answer w n held = record w { given = w.given ++ record { item = n; held = held } ∷ [] }

-- operations, and answers, of items that exist
abbrev pub AreOfItems : Problem → List Op → Type 0
AreOfItems p ops = All (λ op. op.item < item_count p) ops

abbrev pub AreAnswersOfItems : Problem → List Given → Type 0
AreAnswersOfItems p answers = All (λ a. a.item < item_count p) answers

-- What the code of a world relies on: what is being written may follow the durable history, each item has a pair held,
-- and one held at first, and commands and answers are of items.
pub record IsStanding (r : Recorded) (batch : List Entry) (commands : List Op) (answers taken : List Given) (pairs_at_first pairs : List Held) : Type 0 where
  pub follows : may_follow r.rollout.problem r.rollout.plan r.history batch ≡ true
  pub first : length pairs_at_first ≡ item_count r.rollout.problem
  pub items : length pairs ≡ item_count r.rollout.problem
  pub sent : AreOfItems r.rollout.problem commands
  pub given : AreAnswersOfItems r.rollout.problem answers
  pub handed : AreAnswersOfItems r.rollout.problem taken
