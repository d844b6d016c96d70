use Rattle.std.proofs.Common.{◌≡◌, ℕ, ◌<◌, get_or, length}
use Rattle.rollout_rules.specs.Items.{item_at}
use Rattle.rollout_rules.specs.Operations.{stand_after}
use Rattle.rollout_report.proofs.course.first_stands.Given as goal

-- the items before this one have their stages
abbrev pub invariant-loop-number : goal.invariant-loop-number
invariant-loop-number l = record {
  all : length l.stands.items ≡ length l.items;
  each : (n : ℕ) → n < l.number → get_or l.stands.items n 0 ≡ stand_after l.plan.problem l.plan.plan (item_at l.plan.problem n) (get_or l.counts.settled n 0);
}
