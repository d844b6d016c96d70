-- A rollout as a graph of its operations has followed it.
use Rattle.std.specs.Prelude.{◌≡◌, ℕ, ◌+◌, ◌*◌, ◌≤◌, Bool, true, not, ◌&&◌, List, [], ◌∷◌, length, nat_lt}
use Rattle.rollout_rules.specs.Sums.{sum_below}
use Rattle.rollout_rules.specs.Wan.{Rollout}
use Rattle.rollout_rules.specs.Items.{item_count, item_at}
use Rattle.rollout_rules.specs.Operations.{operations}
use Rattle.rollout_rules.specs.History.{History, Places, with_entries, begins_in, dones_in, settled, flies, places_of}
use Rattle.rollout_rules.specs.Needs.{needs_met}
use Rattle.rollout_rules.specs.Room.{fits}
use Rattle.rollout_rules.specs.Legal.{is_legal}
use Rattle.rollout_rules.specs.Release.{next_op}
use Rattle.rollout_rules.specs.declared.op.Entry.{Entry}
use Rattle.rollout_rules.specs.declared.op.Entry.TheVariants.{Begin, Done}
use Rattle.dependency_graph.specs.Progress.{Counts, AreCountsOf}
use Rattle.dependency_graph.specs.Cells.{Cells, AreRooms}

-- a rollout, and its history so far
pub record Followed : Type 0 where
  pub rollout : Rollout
  pub history : History

-- how many operations item n has, and all items together
abbrev pub count_of : Rollout → ℕ → ℕ
count_of r n = operations r.problem r.plan (item_at r.problem n)

abbrev pub op_total : Rollout → ℕ
op_total r = sum_below (item_count r.problem) (count_of r)

-- how far each item has come
abbrev pub places : Followed → Places
places g = places_of g.rollout.problem g.history

-- whether item n has an operation left and none in flight
abbrev pub has_next : Followed → ℕ → Bool
has_next g n = not (flies g.history n) && nat_lt (settled g.history n) (count_of g.rollout n)

-- whether the needs of its next operation are met
abbrev pub are_needs_met : Followed → ℕ → Bool
are_needs_met g n = needs_met g.rollout.problem g.rollout.plan (places g) (item_at g.rollout.problem n)

-- the same rollout with the next operation of item n begun, or done
abbrev pub with_begun : Followed → ℕ → Followed
with_begun g n = record g { history = with_entries g.history (Begin (next_op g.history n) ∷ []) }

abbrev pub with_done : Followed → ℕ → Followed
with_done g n = record g { history = with_entries g.history (Done (next_op g.history n) ∷ []) }

-- whether every room fits with its next operation begun
abbrev pub has_room : Followed → ℕ → Bool
has_room g n = fits g.rollout.problem g.rollout.plan (places (with_begun g n))

-- how many entries are of item n
abbrev pub entries_of : List Entry → ℕ → ℕ
entries_of es n = begins_in es n + dones_in es n

-- What a graph relies on: the history is legal and counted, and there is room for the entries of all operations.
pub record IsFollowed (c : Counts) (h : History) (spare : ℕ) : Type 0 where
  pub start : length h.start ≡ item_count c.rollout.problem
  pub legal : is_legal c.rollout.problem c.rollout.plan h ≡ true
  pub counts : AreCountsOf c h
  pub entries : length h.entries ≡ sum_below (item_count c.rollout.problem) (entries_of h.entries)
  pub room : 2 * op_total c.rollout ≤ spare

-- The plan, the rows of resources, the chains and the cells of a graph are those of its course.
pub record IsGraph (r touched chains : Rollout) (g : Followed) (t : Cells) : Type 0 where
  pub own : r ≡ g.rollout
  pub rows : touched ≡ g.rollout
  pub longest : chains ≡ g.rollout
  pub rooms : AreRooms g.rollout (places g) t
