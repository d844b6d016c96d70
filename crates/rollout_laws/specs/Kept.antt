-- What every allowed event keeps of a world.
use Rattle.std.specs.Prelude.{◌≡◌, ℕ, ◌<◌, ◌≤◌, ◌⊎◌, true, List, length, slice_index, All, Contains}
use Rattle.rollout_rules.specs.Wan.{Problem, Plan}
use Rattle.rollout_rules.specs.Items.{item_count, item_at}
use Rattle.rollout_rules.specs.Operations.{operations, content_after}
use Rattle.rollout_rules.specs.History.{History, begun, settled}
use Rattle.rollout_rules.specs.Legal.{may_follow, is_legal}
use Rattle.rollout_rules.specs.Agent.{is_at_most, Holding}
use Rattle.rollout_rules.specs.World.{World, number_at, pair_at, held_of, all_answered}
use Rattle.rollout_rules.specs.declared.held.Held.{Held}
use Rattle.rollout_rules.specs.declared.held.Given.{Given}
use Rattle.rollout_rules.specs.declared.op.Op.{Op}

-- an operation that was begun, after the start
pub record IsBegun (h : History) (op : Op) : Type 0 where
  pub low : slice_index h.start op.item < op.number
  pub high : op.number ≤ begun h op.item

-- the pair held at first, of an earlier migration
pub record IsEarlierPair (migration : ℕ) (first held : Held) : Type 0 where
  pub same : held ≡ first
  pub earlier : held.migration < migration

-- What is held of item n stands for a number between what is settled and what is begun, and has the content of that
-- number. Its pair is no lower than the first one, and of this migration or still that first one.
pub record IsHeldRight (p : Problem) (plan : Plan) (migration : ℕ) (first : Held) (h : History) (n : ℕ) (holding : Holding) : Type 0 where
  pub low : settled h n ≤ number_at migration (slice_index h.start n) holding.held
  pub high : number_at migration (slice_index h.start n) holding.held ≤ begun h n
  pub content : holding.content ≡ content_after p plan (item_at p n) (number_at migration (slice_index h.start n) holding.held)
  pub least : is_at_most first holding.held ≡ true
  pub pair : (holding.held.migration ≡ migration) ⊎ IsEarlierPair migration first holding.held

-- an answer of a migration that covers an operation, among those handed over
pub record HasAnswer (current : ℕ) (handed : List Given) (op : Op) : Type 0 where
  pub answer : Given
  pub there : Contains handed answer
  pub item : answer.item ≡ op.item
  pub migration : answer.held.migration ≡ current
  pub number : op.number ≤ answer.held.number

-- The durable history is legal, and what is being written may follow it and has its answers. What is sent is begun;
-- what is held is right; each answer given is of an item and is no further than what is held, and what was handed over
-- was given.
pub record IsKept (p : Problem) (plan : Plan) (w : World) : Type 0 where
  pub legal : is_legal p plan w.durable ≡ true
  pub follows : may_follow p plan w.durable w.writing ≡ true
  pub sent : All (IsBegun w.durable) w.sent
  pub items : length w.held ≡ item_count p
  pub held : (n : ℕ) → n < item_count p → IsHeldRight p plan w.migration (pair_at w.first n) w.durable n (held_of w n)
  pub given : All (λ a. is_at_most a.held (held_of w a.item).held ≡ true) w.given
  pub answering : All (λ a. a.item < item_count p) w.given
  pub handed : All (Contains w.given) w.handed
  pub answered : all_answered w.migration w.handed w.writing ≡ true

-- a command is for an item, and for one of its operations
pub record IsCommand (p : Problem) (plan : Plan) (op : Op) : Type 0 where
  pub item : op.item < item_count p
  pub low : 1 ≤ op.number
  pub high : op.number ≤ operations p plan (item_at p op.item)
