-- What the call answers.
use Rattle.std.specs.Prelude.{◌≡◌, Result, Ok, Err}
use Rattle.rollout_rules.specs.Wan.{Problem}
use Rattle.scratch_plan.specs.Refusals.{Refuses}
use Rattle.plan_choose.specs.Choice.{chosen}
use Rattle.plan_choose.specs.declared.chosen.Chosen.{Chosen}
use Rattle.plan_choose.specs.declared.chosen.Unplanned.{Unplanned}

-- the problem itself with what is chosen for it, or with the cause; lack of memory says nothing
abbrev pub IsChosen : Problem → Result Chosen Unplanned → Type 0
IsChosen p (Ok c) = (c.plan.problem ≡ p) × (chosen p ≡ Ok (record { plan = c.plan.plan; rate_steps = c.rate_steps }))
IsChosen p (Err u) = (u.problem ≡ p) × Refuses u.cause (chosen p)
