use Rattle.std.proofs.Common.{◌≡◌}
use Rattle.rollout_rules.specs.Needs as needs
use Rattle.plan_texts.proofs.since.installed_since.Given as goal

abbrev pub invariant-loop-u : goal.invariant-loop-u
invariant-loop-u l = l.since ≡ needs.installed_since l.plan.plan l.t l.u
