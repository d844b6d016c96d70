-- The plan with the fewest rate steps that is found: none at all, still, direct, by the linear program, by the greedy rule, from scratch.
use Rattle.std.specs.Prelude.{ℕ, ◌-◌, ◌==◌, min, Bool, true, false, List, length, Option, Some, None, unwrap_or, Result, Ok, Err, if◌then◌else◌}
use Rattle.rollout_rules.specs.Sums.{list_below}
use Rattle.rollout_rules.specs.Wan.{Problem}
use Rattle.plan_check.specs.First.{first_of}
use Rattle.plan_check.specs.LeastSlack.{least_slack}
use Rattle.scratch_plan.specs.declared.no_plan.NoPlan.{NoPlan}
use Rattle.scratch_plan.specs.declared.no_plan.NoPlan.TheVariants.{OverCapacity, TableFull, NoSlack, Memory}
use Rattle.plan_choose.specs.Choice.{Choice, chosen}
use Rattle.fewest_plan.specs.declared.cause.Cause.{Cause}
use Rattle.fewest_plan.specs.declared.cause.Cause.TheVariants.{Unchosen, Unfound, Stuck}
use Rattle.fewest_plan.specs.Relief.{by_relief}
use Rattle.fewest_plan.specs.Stuck.{stuck_link}
use Rattle.fewest_plan.specs.Walk.{greedy}

-- ---- by the greedy rule

-- the flows by item
abbrev pub by_item : Problem → List ℕ
by_item p = list_below (length p.flows) (λ f. f)

-- fewer rate steps than what was found has
abbrev pub fewer_than : ℕ → Option Choice → ℕ
fewer_than most None = most
fewer_than most (Some found) = min most (found.rate_steps - 1)

-- what was found, unless the rule gives fewer rate steps with the flows in this order and shares in parts of 1/d
abbrev pub improved : Problem → ℕ → List ℕ → ℕ → Option Choice → Option Choice
improved p most order d found = first_of (greedy p d order (fewer_than most found)) found

-- with whole flows, halves and twelfths
unfoldable pub in_parts : Problem → ℕ → List ℕ → Option Choice → Option Choice
in_parts p most order found = improved p most order 12 (improved p most order 2 (improved p most order 1 found))

-- the plan of the rule with the fewest rate steps, no more than so many, and the first of several: by item, then by relief
unfoldable pub by_rule : Problem → ℕ → Option Choice
by_rule p most = in_parts p most (by_relief p) (in_parts p most (by_item p) None)

-- ---- the choice

-- whether so many rate steps are those of the plan from scratch, by the least slack 1/k
abbrev pub is_from_scratch : Option ℕ → ℕ → Bool
is_from_scratch None steps = false
is_from_scratch (Some k) steps = k - 1 == steps

-- how many rate steps the rule may have in its place: as many, and else fewer
abbrev pub room_of : Bool → ℕ → ℕ
room_of from_scratch steps = if from_scratch then min steps 252 else min (steps - 1) 252

abbrev pub room_beside : Option ℕ → ℕ → ℕ
room_beside slack steps = room_of (is_from_scratch slack steps) steps

abbrev pub beside : Problem → Choice → Choice
beside p c = unwrap_or (by_rule p (room_beside (least_slack p) c.rate_steps)) c

-- against a link without slack the rule may help, and nothing does against loads and tables that are too large
abbrev pub is_no_slack : NoPlan → Bool
is_no_slack (OverCapacity link side load capacity) = false
is_no_slack (TableFull switch wanted size) = false
is_no_slack (NoSlack link side load capacity) = true
is_no_slack Memory = false

-- why nothing is found: a link on which nothing may ever move, or none that is known
abbrev pub why_none : NoPlan → Option ℕ → Cause
why_none cause None = Unfound cause
why_none cause (Some link) = Stuck link

abbrev pub or_why : Option Choice → NoPlan → Option ℕ → Result Choice Cause
or_why None cause link = Err (why_none cause link)
or_why (Some found) cause link = Ok found

abbrev pub in_place : Problem → NoPlan → Result Choice Cause
in_place p cause = if is_no_slack cause then or_why (by_rule p 252) cause (stuck_link p) else Err (Unchosen cause)

abbrev pub fewest_of : Problem → Result Choice NoPlan → Result Choice Cause
fewest_of p (Ok c) = Ok (beside p c)
fewest_of p (Err cause) = in_place p cause

-- what is chosen by the linear program or from scratch, or the rule's plan in its place
unfoldable pub fewest : Problem → Result Choice Cause
fewest p = fewest_of p (chosen p)
