-- Why there is no plan: which link or table is too small, or which link has no slack.
use Rattle.std.specs.Prelude.{◌≡◌, ℕ, ◌*◌, Bool, ◌&&◌, Option, Some, None, unwrap_or, length, nat_le, Result, Ok, Err, ⊤}
use Rattle.rollout_rules.specs.Wan.{Problem, link_at, switch_at}
use Rattle.rollout_rules.specs.Items.{entries_at}
use Rattle.rollout_rules.specs.Sums.{all_below}
use Rattle.rollout_rules.specs.Slack.{old_load, new_load, was_installed, is_wanted_or_carrying}
use Rattle.wan_model.specs.declared.side.Side.{Side}
use Rattle.wan_model.specs.declared.side.Side.TheVariants.{Old, New}
use Rattle.plan_check.specs.First.{first_of, first_below, unless}
use Rattle.plan_check.specs.LeastSlack.{load_on}
use Rattle.scratch_plan.specs.declared.no_plan.NoPlan.{NoPlan}
use Rattle.scratch_plan.specs.declared.no_plan.NoPlan.TheVariants.{OverCapacity, TableFull, NoSlack, Memory}

-- a link whose load exceeds its capacity: by number, the old load before the new one
abbrev pub over_on : Problem → ℕ → Side → Option NoPlan
over_on p l side = unless (nat_le (load_on side p l) (link_at p l).capacity) (OverCapacity l side (load_on side p l) (link_at p l).capacity)

abbrev pub over_capacity : Problem → Option NoPlan
over_capacity p = first_below (length p.links) (λ l. first_of (over_on p l Old) (over_on p l New))

-- whether every link carries both its loads
abbrev pub has_room_for_loads : Problem → Bool
has_room_for_loads p = all_below (length p.links) (λ l. nat_le (old_load p l) (link_at p l).capacity && nat_le (new_load p l) (link_at p l).capacity)

-- a table in which so many entries don't fit
abbrev pub overfull : Problem → ℕ → ℕ → Option NoPlan
overfull p w wanted = unless (nat_le wanted (switch_at p w).table) (TableFull w wanted (switch_at p w).table)

-- a switch without table room: by number, what is installed at first before what is wanted or carrying
abbrev pub table_full : Problem → Option NoPlan
table_full p =
    first_below (length p.switches) (λ w. first_of (overfull p w (entries_at p (was_installed p) w)) (overfull p w (entries_at p (is_wanted_or_carrying p) w)))

-- what no plan helps against: loads that exceed capacities, then tables without room
abbrev pub refusal : Problem → Option NoPlan
refusal p = first_of (over_capacity p) (table_full p)

-- a link without slack 1/64: by number, the old load before the new one
abbrev pub short_on : Problem → ℕ → Side → Option NoPlan
short_on p l side = unless (nat_le (64 * load_on side p l) (63 * (link_at p l).capacity)) (NoSlack l side (load_on side p l) (link_at p l).capacity)

abbrev pub first_short : Problem → Option NoPlan
first_short p = first_below (length p.links) (λ l. first_of (short_on p l Old) (short_on p l New))

-- the same as a cause; where no slack is free at all, some link is short
abbrev pub no_slack : Problem → NoPlan
no_slack p = unwrap_or (first_short p) Memory

-- what is wanted unless it is refused
abbrev pub unless_refused : {A : Type 0} → Option NoPlan → Result A NoPlan → Result A NoPlan
unless_refused None wanted = wanted
unless_refused (Some cause) wanted = Err cause

abbrev pub refused_of : Problem → Result ⊤ NoPlan
refused_of p = unless_refused (refusal p) (Ok tt)

-- the cause that a planner answers is the right one; lack of memory says nothing
abbrev pub Refuses : {A : Type 0} → NoPlan → Result A NoPlan → Type 0
Refuses (OverCapacity link side load capacity) wanted = wanted ≡ Err (OverCapacity link side load capacity)
Refuses (TableFull switch entries size) wanted = wanted ≡ Err (TableFull switch entries size)
Refuses (NoSlack link side load capacity) wanted = wanted ≡ Err (NoSlack link side load capacity)
Refuses Memory wanted = Unit {0}

-- what a planner answers is what is wanted
abbrev pub Answers : {A : Type 0} → Result A NoPlan → Result A NoPlan → Type 0
Answers (Ok a) wanted = wanted ≡ Ok a
Answers (Err cause) wanted = Refuses cause wanted
