-- The lines of problems for which no plan is found, each with its line feed.
use Rattle.std.specs.Prelude.{ℕ, List, ◌++◌, codes, decimal}
use Rattle.rollout_rules.specs.Wan.{Problem}
use Rattle.wan_model.specs.declared.side.Side.{Side}
use Rattle.wan_model.specs.declared.side.Side.TheVariants.{Old, New}
use Rattle.scratch_plan.specs.declared.no_plan.NoPlan.{NoPlan}
use Rattle.scratch_plan.specs.declared.no_plan.NoPlan.TheVariants.{OverCapacity, TableFull, NoSlack, Memory}
use Rattle.fewest_plan.specs.declared.cause.Cause.{Cause}
use Rattle.fewest_plan.specs.declared.cause.Cause.TheVariants.{Unchosen, Unfound, Stuck}
use Rattle.wan_text.specs.Names.{link_text, switch_text}

abbrev pub side_text : Side → List ℕ
side_text Old = codes "old"
side_text New = codes "new"

abbrev pub load_on : Side → ℕ → List ℕ
load_on side load = codes " " ++ side_text side ++ codes " load " ++ decimal load

-- after the start of a line, a link and what it carries in a split
abbrev pub link_load : List ℕ → Problem → ℕ → Side → ℕ → List ℕ
link_load start p l side load = start ++ link_text p l ++ load_on side load

abbrev pub above : ℕ → List ℕ
above limit = codes " above " ++ decimal limit ++ codes "\n"

abbrev pub leaves_no_slack : ℕ → List ℕ
leaves_no_slack capacity = codes " of " ++ decimal capacity ++ codes " leaves no slack\n"

abbrev pub wants : ℕ → List ℕ
wants entries = codes " wants " ++ decimal entries

abbrev pub no_plan_line : Problem → NoPlan → List ℕ
no_plan_line p (OverCapacity l side load capacity) = link_load (codes "no plan: link ") p l side load ++ above capacity
no_plan_line p (TableFull w entries size) = codes "no plan: table " ++ switch_text p w ++ wants entries ++ above size
no_plan_line p (NoSlack l side load capacity) = link_load (codes "no plan: link ") p l side load ++ leaves_no_slack capacity
no_plan_line p Memory = codes "out of memory\n"

-- where the greedy rule finds none either
abbrev pub none_found_line : Problem → NoPlan → List ℕ
none_found_line p (NoSlack l side load capacity) = link_load (codes "no plan: none found, link ") p l side load ++ leaves_no_slack capacity
none_found_line p cause = no_plan_line p cause

-- where there is none at all
abbrev pub stuck_line : Problem → ℕ → List ℕ
stuck_line p link = codes "no plan: none exists, link " ++ link_text p link ++ codes " stays full\n"

abbrev pub not_found_line : Problem → Cause → List ℕ
not_found_line p (Unchosen cause) = no_plan_line p cause
not_found_line p (Unfound cause) = none_found_line p cause
not_found_line p (Stuck link) = stuck_line p link
