-- The rows of what items take of, and by which tunnels, as they grow.
use Rattle.std.specs.Prelude.{◌≡◌, ℕ, ◌+◌, ◌-◌, ◌<◌, ◌≤◌, Bool, false, not, ◌&&◌, List, [], length, take, drop, slice_index, slice_index_or, ◌==◌, if◌then◌else◌}
use Rattle.rollout_rules.specs.Sums.{sum_below}
use Rattle.rollout_rules.specs.Wan.{Problem, Plan, flow_at, tunnel_at, tunnel_of, switch_of, crosses, rate_at, mark_at}
use Rattle.rollout_rules.specs.Items.{Resource, item_at, takes}
use Rattle.rollout_rules.specs.declared.item.Item.{Item}
use Rattle.rollout_rules.specs.declared.item.Item.TheVariants as item
use Rattle.dependency_graph.specs.Cells.{has, AreOnce, AreTouched}

-- Of flow f's first n tunnels the row has those that cross link l: a sum over the row is a sum over them.
pub record IsCrossingOf (p : Problem) (f l n : ℕ) (row : List ℕ) : Type 0 where
  pub tunnels : (j : ℕ) → j < length row → slice_index row j < length p.tunnels
  pub sums : (g : ℕ → ℕ) → sum_below (length row) (λ j. g (slice_index row j)) ≡ sum_below n (λ j. if crosses p (tunnel_of p f j) l then g (tunnel_of p f j) else 0)

-- the same of the first n tunnels, and of the first m links of the one after
pub record IsCrossingOfTo (p : Problem) (f l n m : ℕ) (row : List ℕ) : Type 0 where
  pub tunnels : (j : ℕ) → j < length row → slice_index row j < length p.tunnels
  pub sums : (g : ℕ → ℕ) → sum_below (length row) (λ j. g (slice_index row j))
      ≡ sum_below n (λ j. if crosses p (tunnel_of p f j) l then g (tunnel_of p f j) else 0) + sum_below m (λ k. if slice_index (tunnel_at p (tunnel_of p f n)).links k == l then g (tunnel_of p f n) else 0)

-- Of flow f's first n tunnels, and of the first m links of the one after, each link has such a row, and those whose row isn't
-- empty are listed, each once.
pub record AreGathered (p : Problem) (f n m : ℕ) (links : List ℕ) (rows : List (List ℕ)) : Type 0 where
  pub count : length rows ≡ length p.links
  pub each : (l : ℕ) → l < length p.links → IsCrossingOfTo p f l n m (slice_index_or rows l [])
  pub inside : (k : ℕ) → k < length links → slice_index links k < length p.links
  pub once : AreOnce links
  pub missing : (l : ℕ) → l < length p.links → has links l ≡ false → slice_index_or rows l [] ≡ []
  pub empty : (l : ℕ) → l < length p.links → slice_index_or rows l [] ≡ [] → has links l ≡ false

-- the rows of a flow's first k links are taken out, and the others are as they were gathered
pub record AreTakenOut (p : Problem) (links : List ℕ) (k : ℕ) (gathered rows : List (List ℕ)) : Type 0 where
  pub count : length rows ≡ length p.links
  pub out : (i : ℕ) → i < k → slice_index_or rows (slice_index links i) [] ≡ []
  pub there : (i : ℕ) → k ≤ i → i < length links → slice_index_or rows (slice_index links i) [] ≡ slice_index_or gathered (slice_index links i) []
  pub missing : (l : ℕ) → l < length p.links → has links l ≡ false → slice_index_or rows l [] ≡ []

-- What an item takes of: the resources, and after one another in one list the tunnels by which it takes of each. Of
-- resource k they stand from its bound on and before the next one.
pub record ItemRow : Type 0 where
  pub resources : List ℕ
  pub tunnels : List ℕ
  pub bounds : List ℕ

-- what stands in a list from one place on and before another
abbrev pub part : List ℕ → ℕ → ℕ → List ℕ
part list low high = take (high - low) (drop low list)

abbrev pub tunnels_at : ItemRow → ℕ → List ℕ
tunnels_at row k = part row.tunnels (slice_index row.bounds k) (slice_index row.bounds (k + 1))

-- the bounds rise, and stay within the list
pub record AreBounds (list bounds : List ℕ) : Type 0 where
  pub rising : (k : ℕ) → k + 1 < length bounds → slice_index bounds k ≤ slice_index bounds (k + 1)
  pub within : (k : ℕ) → k < length bounds → slice_index bounds k ≤ length list

-- at each of the first n resources, which are links, stand the tunnels of flow f that cross it, and nothing after them
pub record AreCrossingsOf (p : Problem) (f n : ℕ) (row : ItemRow) : Type 0 where
  pub bounds : AreBounds row.tunnels row.bounds
  pub count : length row.bounds ≡ n + 1
  pub end : slice_index row.bounds n ≡ length row.tunnels
  pub each : (k : ℕ) → k < n → IsCrossingOf p f (slice_index row.resources k) (flow_at p f).tunnels (tunnels_at row k)

-- resource k of the row is a link, and at it stand the tunnels of flow f that cross it
pub record IsLinkOf (p : Problem) (f k : ℕ) (row : ItemRow) : Type 0 where
  pub link : slice_index row.resources k < length p.links
  pub bound : k + 1 < length row.bounds
  pub crossing : IsCrossingOf p f (slice_index row.resources k) (flow_at p f).tunnels (tunnels_at row k)

-- A flow takes of a link by its tunnels that cross it. An entry takes of its own table.
abbrev pub TakesBy : Problem → Item → ItemRow → ℕ → Type 0
TakesBy p (item.Flow f) row k = IsLinkOf p f k row
TakesBy p (item.Entry t h) row k = slice_index row.resources k ≡ length p.links + switch_of p t h

-- the row has, each once, resources with all that the item takes of, and by what it takes of each
pub record IsItemRow (p : Problem) (i : Item) (row : ItemRow) : Type 0 where
  pub touched : AreTouched p i row.resources
  pub each : (k : ℕ) → k < length row.resources → TakesBy p i row k

abbrev pub no_row : ItemRow
no_row = record { resources = []; tunnels = []; bounds = [] }

-- the rows of the first n items
pub record AreRows (p : Problem) (rows : List ItemRow) (n : ℕ) : Type 0 where
  pub count : length rows ≡ n
  pub each : (k : ℕ) → k < n → IsItemRow p (item_at p k) (slice_index_or rows k no_row)

-- What an item takes of a resource at a stage beyond what it takes at another: tunnel by tunnel what the rate is larger, or
-- the width where an entry is there that wasn't.
abbrev pub beyond : Plan → ℕ → ℕ → ℕ → ℕ
beyond plan from to t = rate_at plan to t - rate_at plan from t

abbrev pub appears : Plan → ℕ → ℕ → ℕ → Bool
appears plan from to t = mark_at plan to t && not (mark_at plan from t)

abbrev pub gain : Problem → Plan → ℕ → ℕ → Item → Resource → ℕ
gain p plan from to = takes p (beyond plan from to) (λ t h. appears plan from to t)
