use Rattle.std.proofs.Common.{◌≡◌, None}
use Rattle.plan_check.specs.First.{first_of, first_below}
use Rattle.rollout_rules.specs.Items.{entries_at}
use Rattle.rollout_rules.specs.Slack.{was_installed, is_wanted_or_carrying}
use Rattle.scratch_plan.specs.Refusals.{overfull}
use Rattle.scratch_plan.proofs.tables.first_full.Given as goal

abbrev pub invariant-loop-w : goal.invariant-loop-w
invariant-loop-w l = first_below l.w (λ w. first_of (overfull l.problem w (entries_at l.problem (was_installed l.problem) w)) (overfull l.problem w (entries_at l.problem (is_wanted_or_carrying l.problem) w))) ≡ None
