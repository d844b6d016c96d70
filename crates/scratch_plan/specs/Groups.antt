-- The tests on a tunnel by their names in the code.
use Rattle.std.specs.Prelude.{Bool}
use Rattle.rollout_rules.specs.Wan.{Tunnel}
use Rattle.scratch_plan.specs.Marks.{was_there, is_wanted, is_used, is_kept, is_idle, is_fresh, is_left}
use Rattle.scratch_plan.specs.declared.group.Group.{Group}
use Rattle.scratch_plan.specs.declared.group.Group.TheVariants as group

abbrev pub is_in : Group → Tunnel → Bool
is_in group.WasThere = was_there
is_in group.Wanted = is_wanted
is_in group.Used = is_used
is_in group.Kept = is_kept
is_in group.Idle = is_idle
is_in group.Fresh = is_fresh
is_in group.Left = is_left
