use Rattle.std.proofs.Common.{◌≡◌, ℕ, ◌<◌, length}
use Rattle.rollout_rules.specs.Wan.{hops}
use Rattle.rollout_rules.specs.Items.{number_of}
use Rattle.rollout_rules.specs.declared.item.Item.TheVariants as item
use Rattle.rollout_report.specs.Peaks.{either_there, front}
use Rattle.rollout_report.specs.Fills.{marked, AreTallies}
use Rattle.rollout_report.proofs.fills.first_marks.Given as goal

-- the items before this one have their first marks
abbrev pub invariant-loop-number : goal.invariant-loop-number
invariant-loop-number l = record {
  tallies : AreTallies l.plan.problem l.marks l.sums;
  marks : (t n : ℕ) → t < length l.plan.problem.tunnels → n < hops l.plan.problem t → number_of l.plan.problem (item.Entry t n) < l.number → marked l.plan.problem l.marks t n ≡ either_there l.plan.problem l.plan.plan (front l.history 0) t n;
}
