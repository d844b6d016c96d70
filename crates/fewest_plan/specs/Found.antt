-- What the call answers.
use Rattle.std.specs.Prelude.{◌≡◌, Result, Ok, Err}
use Rattle.rollout_rules.specs.Wan.{Problem}
use Rattle.scratch_plan.specs.declared.no_plan.NoPlan.TheVariants.{OverCapacity, TableFull, NoSlack, Memory}
use Rattle.plan_choose.specs.declared.chosen.Chosen.{Chosen}
use Rattle.fewest_plan.specs.declared.cause.Cause.{Cause}
use Rattle.fewest_plan.specs.declared.cause.Cause.TheVariants.{Unchosen, Unfound, Stuck}
use Rattle.fewest_plan.specs.declared.cause.NotFound.{NotFound}
use Rattle.fewest_plan.specs.Fewest.{fewest}

-- the cause that a planner answers is the right one; lack of memory says nothing
abbrev pub Refuses : {A : Type 0} → Cause → Result A Cause → Type 0
Refuses (Unchosen (OverCapacity link side load capacity)) wanted = wanted ≡ Err (Unchosen (OverCapacity link side load capacity))
Refuses (Unchosen (TableFull switch entries size)) wanted = wanted ≡ Err (Unchosen (TableFull switch entries size))
Refuses (Unchosen (NoSlack link side load capacity)) wanted = wanted ≡ Err (Unchosen (NoSlack link side load capacity))
Refuses (Unchosen Memory) wanted = Unit {0}
Refuses (Unfound cause) wanted = wanted ≡ Err (Unfound cause)
Refuses (Stuck link) wanted = wanted ≡ Err (Stuck link)

-- what a planner answers is what is wanted
abbrev pub Answers : {A : Type 0} → Result A Cause → Result A Cause → Type 0
Answers (Ok a) wanted = wanted ≡ Ok a
Answers (Err cause) wanted = Refuses cause wanted

-- the problem itself with what is found for it, or with the cause
abbrev pub IsFewest : Problem → Result Chosen NotFound → Type 0
IsFewest p (Ok c) = (c.plan.problem ≡ p) × (fewest p ≡ Ok (record { plan = c.plan.plan; rate_steps = c.rate_steps }))
IsFewest p (Err u) = (u.problem ≡ p) × Refuses u.cause (fewest p)
