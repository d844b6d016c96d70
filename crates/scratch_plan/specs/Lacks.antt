-- The tests of links and tables by what the code has added up.
use Rattle.std.specs.Prelude.{◌≡◌, ℕ, ◌<◌, List, length, slice_index, Option}
use Rattle.rollout_rules.specs.Wan.{Problem, tunnel_at}
use Rattle.rollout_rules.specs.Items.{entries_at}
use Rattle.wan_model.specs.declared.side.Side.{Side}
use Rattle.wan_model.specs.declared.side.Side.TheVariants.{Old, New}
use Rattle.plan_check.specs.First.{first_of, first_below}
use Rattle.scratch_plan.specs.Groups.{is_in}
use Rattle.scratch_plan.specs.Refusals.{over_on, short_on}
use Rattle.scratch_plan.specs.declared.group.Group.{Group}
use Rattle.scratch_plan.specs.declared.no_plan.NoPlan.{NoPlan}
use Rattle.scratch_plan.specs.declared.links.Rule.{Rule}
use Rattle.scratch_plan.specs.declared.links.Rule.TheVariants as rule

-- what a link lacks in a split by one of the rules
abbrev pub lack_on : Rule → Problem → ℕ → Side → Option NoPlan
lack_on rule.Capacity = over_on
lack_on rule.Slack = short_on

abbrev pub lack_at : Rule → Problem → ℕ → Option NoPlan
lack_at rule p l = first_of (lack_on rule p l Old) (lack_on rule p l New)

abbrev pub first_lack : Rule → Problem → Option NoPlan
first_lack rule p = first_below (length p.links) (lack_at rule p)

-- a number per switch: the entries of a group of tunnels there
pub record AreEntries (group : Group) (p : Problem) (sums : List ℕ) : Type 0 where
  pub count : length sums ≡ length p.switches
  pub each : (w : ℕ) → w < length p.switches → slice_index sums w ≡ entries_at p (λ t h. is_in group (tunnel_at p t)) w
