-- How full the tables are while a history goes on: which entries are there, settled or next, and each table's sum of widths.
use Rattle.std.specs.Prelude.{◌≡◌, ℕ, ◌+◌, ◌<◌, Bool, false, ◌||◌, List, length, slice_index, slice_index_or}
use Rattle.rollout_rules.specs.Wan.{Problem, Plan, hops, mark_at}
use Rattle.rollout_rules.specs.Items.{entries_at, item_count, number_of}
use Rattle.rollout_rules.specs.History.{History}
use Rattle.rollout_rules.specs.declared.item.Item.TheVariants as item
use Rattle.rollout_rules.specs.Release.{most_below}
use Rattle.rollout_report.specs.Peaks.{either_there, table_sum, front}

-- the mark of each entry by its number among the items, the sum of each table, and its peak so far
pub record TableFills : Type 0 where
  pub marks : List Bool
  pub sums : List ℕ
  pub peaks : List ℕ

-- whether an entry of a tunnel is there at either of two stages
abbrev pub either_at : Plan → ℕ → ℕ → ℕ → Bool
either_at plan here next t = mark_at plan here t || mark_at plan next t

-- whether an entry is marked, by its number among the items
abbrev pub marked : Problem → List Bool → ℕ → ℕ → Bool
marked p marks t h = slice_index_or marks (number_of p (item.Entry t h)) false

-- each table's sum of the widths of the entries that are marked
pub record AreTallies (p : Problem) (marks : List Bool) (sums : List ℕ) : Type 0 where
  pub items : length marks ≡ item_count p
  pub switches : length sums ≡ length p.switches
  pub each : (w : ℕ) → w < length p.switches → slice_index sums w ≡ entries_at p (marked p marks) w

-- each entry's mark after a history, and what these add up to
pub record AreHeld (p : Problem) (plan : Plan) (h : History) (marks : List Bool) (sums : List ℕ) : Type 0 where
  pub tallies : AreTallies p marks sums
  pub each_mark : (t n : ℕ) → t < length p.tunnels → n < hops p t → marked p marks t n ≡ either_there p plan h t n

-- the greatest sum of each table at the start and after each of the first k entries
pub record AreTablePeaks (p : Problem) (plan : Plan) (h : History) (k : ℕ) (peaks : List ℕ) : Type 0 where
  pub switches : length peaks ≡ length p.switches
  pub each : (w : ℕ) → w < length p.switches → slice_index peaks w ≡ most_below (k + 1) (λ i. table_sum p plan (front h i) w)

-- the tables after the first k entries, and the peaks up to there
pub record AreFillsAt (p : Problem) (plan : Plan) (h : History) (k : ℕ) (at : TableFills) : Type 0 where
  pub held : AreHeld p plan (front h k) at.marks at.sums
  pub peaks : AreTablePeaks p plan h k at.peaks
