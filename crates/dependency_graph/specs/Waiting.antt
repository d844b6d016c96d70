-- Why an item waits, and which items a graph may leave alone.
use Rattle.std.specs.Prelude.{◌≡◌, ℕ, ◌+◌, ◌<◌, ◌≤◌, Bool, true, false, ◌&&◌, List, length, slice_index}
use Rattle.rollout_rules.specs.Sums.{all_below}
use Rattle.rollout_rules.specs.Wan.{Problem, Rollout, tunnel_at}
use Rattle.rollout_rules.specs.Items.{is_item, item_count, item_at, number_of, capacity_of}
use Rattle.rollout_rules.specs.History.{stand}
use Rattle.rollout_rules.specs.Room.{least_stage, room}
use Rattle.rollout_rules.specs.Legal.{may_begin}
use Rattle.rollout_rules.specs.Release.{next_op}
use Rattle.rollout_rules.specs.declared.item.Item.{Item}
use Rattle.rollout_rules.specs.declared.item.Item.TheVariants as item
use Rattle.dependency_graph.specs.Cells.{Cells, resource_count, resource_at, rises, has, AreOnce, cell_holds}
use Rattle.dependency_graph.specs.Wakes.{Awake, Rouses, AreWokenFrom}
use Rattle.dependency_graph.specs.Graph.{Followed, places, has_next, are_needs_met, has_room, IsGraph}

-- a resource has no room for its amount at one of the stages below one
pub record Fails (r : Rollout) (t : Cells) (low high : ℕ) (amount : ℕ → ℕ) (q : ℕ) : Type 0 where
  pub inside : q < resource_count r.problem
  pub full : all_below high (cell_holds r t low q (amount q)) ≡ false

-- whether item n has a next operation that may begin
abbrev pub is_admissible : Followed → ℕ → Bool
is_admissible g n = has_next g n && are_needs_met g n && has_room g n

-- With the item's next operation begun, more of resource q would be taken at a stage than there is: at a stage from the
-- least one on and before the one where the item stands.
pub record Lacks (g : Followed) (n q : ℕ) : Type 0 where
  pub inside : q < resource_count g.rollout.problem
  pub next : has_next g n ≡ true
  pub stage : ℕ
  pub low : least_stage g.rollout.problem g.rollout.plan (places g) ≤ stage
  pub before : stage < stand g.rollout.problem g.rollout.plan (places g) (item_at g.rollout.problem n)
  pub over : capacity_of g.rollout.problem g.rollout.plan (resource_at g.rollout.problem q)
      < room g.rollout.problem g.rollout.plan (places g) stage (resource_at g.rollout.problem q) + rises g.rollout (item_at g.rollout.problem n) (stand g.rollout.problem g.rollout.plan (places g) (item_at g.rollout.problem n)) q

-- An item that is kept at a resource lacks it, and one that is kept at none has no next operation, or one whose needs
-- aren't met.
pub record WaitsAt (g : Followed) (n kept : ℕ) : Type 0 where
  pub idle : kept ≡ 0 → (has_next g n && are_needs_met g n) ≡ false
  pub lacks : (q : ℕ) → kept ≡ q + 1 → Lacks g n q

-- each item that isn't woken waits so
pub record AreWaiting (g : Followed) (w : Awake) : Type 0 where
  pub items : length w.lacks ≡ item_count g.rollout.problem
  pub resources : w.resources ≡ resource_count g.rollout.problem
  pub rest : (n : ℕ) → n < item_count g.rollout.problem → has w.row n ≡ false → WaitsAt g n (slice_index w.lacks n)

-- all that a graph keeps
pub record IsWakefulGraph (r touched chains : Rollout) (g : Followed) (t : Cells) (w : Awake) : Type 0 where
  pub graph : IsGraph r touched chains g t
  pub waiting : AreWaiting g w

-- Of the items the row has some, each once, and of no other item the next operation may begin.
pub record AreWoken (g : Followed) (row : List ℕ) : Type 0 where
  pub inside : (j : ℕ) → j < length row → slice_index row j < item_count g.rollout.problem
  pub once : AreOnce row
  pub few : length row ≤ item_count g.rollout.problem
  pub rest : (n : ℕ) → has row n ≡ false → may_begin g.rollout.problem g.rollout.plan g.history (next_op g.history n) ≡ false

-- a flow, and an entry of one of its tunnels
abbrev pub AreRelated : Problem → Item → Item → Type 0
AreRelated p (item.Flow f) (item.Flow k) = ⊥
AreRelated p (item.Flow f) (item.Entry t h) = (tunnel_at p t).flow ≡ f
AreRelated p (item.Entry t h) (item.Flow f) = (tunnel_at p t).flow ≡ f
AreRelated p (item.Entry t h) (item.Entry u k) = ⊥

-- an item that has a next operation is woken, or kept at a resource
abbrev pub IsRoused : Followed → Awake → ℕ → Type 0
IsRoused g w n = has w.row n ≡ false → has_next g n ≡ true → 0 < slice_index w.lacks n

-- What the Done of item n may have freed is woken: the item, those whose needs it may meet, those that lack a resource of
-- its row, and where the least stage rose all that lack any.
pub record AreRoused (p : Problem) (g : Followed) (n : ℕ) (row : List ℕ) (rose : Bool) (old later : Awake) : Type 0 where
  pub rouses : Rouses old later
  pub own : IsRoused g later n
  pub related : (k : Item) → is_item p k ≡ true → AreRelated p (item_at p n) k → IsRoused g later (number_of p k)
  pub freed : (j : ℕ) → j < length row → AreWokenFrom (slice_index row j) later
  pub all : rose ≡ true → (q : ℕ) → q < later.resources → AreWokenFrom q later
