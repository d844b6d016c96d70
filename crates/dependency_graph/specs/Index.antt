-- What is looked up of a rollout by number: the items, and which of them take of each resource.
use Rattle.std.specs.Prelude.{◌≡◌, ℕ, ◌+◌, ◌<◌, List, [], length, slice_index, slice_index_or, ◌==◌, if◌then◌else◌}
use Rattle.rollout_rules.specs.Sums.{sum_below}
use Rattle.rollout_rules.specs.Wan.{Problem, Rollout, tunnel_at, hops, switch_of, crosses}
use Rattle.rollout_rules.specs.Network.{IsNetwork}
use Rattle.rollout_rules.specs.Items.{item_count, item_at, number_of}
use Rattle.rollout_rules.specs.Operations as operation
use Rattle.rollout_rules.specs.declared.item.Item.{Item}
use Rattle.rollout_rules.specs.declared.item.Item.TheVariants as item
use Rattle.dependency_graph.specs.declared.index.table_place.TablePlace.{TablePlace}

abbrev pub no_place : TablePlace
no_place = record { tunnel = 0; item = 0 }

-- an entry in a table by its number there
abbrev pub place_at : List TablePlace → ℕ → TablePlace
place_at row j = slice_index_or row j no_place

-- the row has the first n items by number
pub record AreItems (p : Problem) (n : ℕ) (row : List Item) : Type 0 where
  pub count : length row ≡ n
  pub each : (k : ℕ) (d : Item) → k < n → slice_index_or row k d ≡ item_at p k

-- the row has, of the first n items, how many operations each one has
pub record AreOperations (r : Rollout) (n : ℕ) (row : List ℕ) : Type 0 where
  pub count : length row ≡ n
  pub each : (k : ℕ) → k < n → slice_index row k ≡ operation.operations r.problem r.plan (item_at r.problem k)

-- the row has, of the first n tunnels, the number of each one's first entry
pub record AreFirstEntries (p : Problem) (n : ℕ) (row : List ℕ) : Type 0 where
  pub count : length row ≡ n
  pub each : (t : ℕ) → t < n → slice_index row t ≡ number_of p (item.Entry t 0)

-- Of the first n tunnels the row has those that cross link l: a sum over the row is a sum over them.
pub record IsCrossing (p : Problem) (l n : ℕ) (row : List ℕ) : Type 0 where
  pub tunnels : (j : ℕ) → j < length row → slice_index row j < length p.tunnels
  pub sums : (f : ℕ → ℕ) → sum_below (length row) (λ j. f (slice_index row j)) ≡ sum_below n (λ t. if crosses p t l then f t else 0)

-- Of the entries of the first n tunnels, and of the first m of the one after, the row has those in the table of switch w.
pub record IsTable (p : Problem) (w n m : ℕ) (row : List TablePlace) : Type 0 where
  pub tunnels : (j : ℕ) → j < length row → (place_at row j).tunnel < length p.tunnels
  pub items : (j : ℕ) → j < length row → (place_at row j).item < item_count p
  pub sums : (f : ℕ → ℕ → ℕ) → sum_below (length row) (λ j. f (place_at row j).tunnel (place_at row j).item)
      ≡ sum_below n (λ t. sum_below (hops p t) (λ h. if switch_of p t h == w then f t (number_of p (item.Entry t h)) else 0))
      + sum_below m (λ h. if switch_of p n h == w then f n (number_of p (item.Entry n h)) else 0)

-- so many rows with nothing in them
pub record AreEmpty {X : Type 0} (n : ℕ) (rows : List (List X)) : Type 0 where
  pub count : length rows ≡ n
  pub each : (l : ℕ) → l < n → slice_index_or rows l [] ≡ []

-- Of the first n tunnels, and by the first m links of the one after, the row has those that cross link l.
pub record IsCrossingTo (p : Problem) (l n m : ℕ) (row : List ℕ) : Type 0 where
  pub tunnels : (j : ℕ) → j < length row → slice_index row j < length p.tunnels
  pub sums : (f : ℕ → ℕ) → sum_below (length row) (λ j. f (slice_index row j))
      ≡ sum_below n (λ t. if crosses p t l then f t else 0) + sum_below m (λ k. if slice_index (tunnel_at p n).links k == l then f n else 0)

-- each link has such a row
pub record AreCrossingsTo (p : Problem) (n m : ℕ) (rows : List (List ℕ)) : Type 0 where
  pub count : length rows ≡ length p.links
  pub each : (l : ℕ) → l < length p.links → IsCrossingTo p l n m (slice_index_or rows l [])

-- each switch has a row of the entries in its table, of the first n tunnels and the first m of the one after
pub record AreTablesTo (p : Problem) (n m : ℕ) (rows : List (List TablePlace)) : Type 0 where
  pub count : length rows ≡ length p.switches
  pub each : (w : ℕ) → w < length p.switches → IsTable p w n m (slice_index_or rows w [])

-- the rows of all links, and of all switches
pub record AreCrossings (p : Problem) (rows : List (List ℕ)) (n : ℕ) : Type 0 where
  pub count : length rows ≡ n
  pub each : (l : ℕ) → l < n → IsCrossing p l (length p.tunnels) (slice_index_or rows l [])

pub record AreTables (p : Problem) (rows : List (List TablePlace)) (n : ℕ) : Type 0 where
  pub count : length rows ≡ n
  pub each : (w : ℕ) → w < n → IsTable p w (length p.tunnels) 0 (slice_index_or rows w [])

-- all of these
pub record IsIndex (r : Rollout) (numbered : List Item) (counts entries : List ℕ) (links : List (List ℕ)) (switches : List (List TablePlace)) : Type 0 where
  pub network : IsNetwork r.problem
  pub items : AreItems r.problem (item_count r.problem) numbered
  pub operations : AreOperations r (item_count r.problem) counts
  pub firsts : AreFirstEntries r.problem (length r.problem.tunnels) entries
  pub crossings : AreCrossings r.problem links (length r.problem.links)
  pub tables : AreTables r.problem switches (length r.problem.switches)
