-- The lines that only a takeover writes.
use Rattle.std.specs.Prelude.{ℕ, List, [], ◌++◌, codes, decimal, slice_index}
use Rattle.rollout_rules.specs.Sums.{sum_below}
use Rattle.rollout_rules.specs.Wan.{Problem}
use Rattle.rollout_rules.specs.declared.item.Spot.{Spot}
use Rattle.dependency_graph.specs.declared.start_fault.StartFault.{StartFault}
use Rattle.dependency_graph.specs.declared.start_fault.StartFault.TheVariants as fault
use Rattle.wan_text.specs.Names.{spot_text}

-- how many operations are settled where a takeover begins: the numbers of its start, of which there are so many
abbrev pub start_total : ℕ → List ℕ → ℕ
start_total count start = sum_below count (slice_index start)

-- how many operations there are, and how many of them the start had settled
abbrev pub taken_line : ℕ → ℕ → List ℕ
taken_line operations total = codes "taken: operations " ++ decimal operations ++ codes ", start " ++ decimal total ++ codes "\n"

-- an item of which its home holds a pair of this migration, a later one
abbrev pub later_line : ℕ → ℕ → List ℕ
later_line item migration = codes "alien: item " ++ decimal item ++ codes " held of migration " ++ decimal migration ++ codes "\n"

-- ---- what a start breaks

-- more operations of an item are settled than it has
abbrev pub above_line : ℕ → ℕ → ℕ → List ℕ
above_line item held count = codes "start: item " ++ decimal item ++ codes " held " ++ decimal held ++ codes " above " ++ decimal count ++ codes "\n"

-- a settled operation lacks its needs
abbrev pub need_line : ℕ → ℕ → List ℕ
need_line item number = codes "start: item " ++ decimal item ++ codes " operation " ++ decimal number ++ codes " lacks its needs\n"

-- at a stage more is taken than there is
abbrev pub stage_piece : ℕ → List ℕ
stage_piece stage = codes "start: room at stage " ++ decimal stage ++ codes ", "

abbrev pub amounts_piece : ℕ → ℕ → List ℕ
amounts_piece found wanted = codes ": " ++ decimal found ++ codes " against " ++ decimal wanted ++ codes "\n"

abbrev pub room_line : Problem → ℕ → Spot → ℕ → ℕ → List ℕ
room_line p stage spot found wanted = stage_piece stage ++ spot_text p spot ++ amounts_piece found wanted

-- lack of memory has no line of its own
abbrev pub start_line : Problem → StartFault → List ℕ
start_line p (fault.Above item held count) = above_line item held count
start_line p (fault.Need item number) = need_line item number
start_line p (fault.Room stage spot found wanted) = room_line p stage spot found wanted
start_line p fault.Memory = []
