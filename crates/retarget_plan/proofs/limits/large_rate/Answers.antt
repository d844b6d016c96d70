use Rattle.std.proofs.Common.{ℕ, nat_le, sym, ap, ◌∙◌}
use Rattle.rollout_rules.specs.declared.limits.TheConstants.{LARGEST_RATE}
use Rattle.plan_check.specs.First.{unless}
use Rattle.retarget_plan.specs.declared.unleft.Unleft.TheVariants.{TooLarge}
use Rattle.retarget_plan.proofs.Found.{none-where, some-where_not}
use Rattle.retarget_plan.proofs.limits.large_rate.Goals as goal

pub returns-then-is_within : goal.returns-then-is_within
returns-then-is_within c = none-where _ _ (ap (λ (n : ℕ). nat_le n LARGEST_RATE) (sym c.unwrap_or-found.ensures) ∙ sym c.is_within.ensures ∙ c.if-is_within.true)

pub returns : goal.returns
returns c =
    some-where_not _ _ (sym c.is_within.ensures ∙ c.if-is_within.false)
    ∙ ap (λ (n : ℕ). unless (nat_le n LARGEST_RATE) (TooLarge c.args.row c.args.t n)) c.unwrap_or-found.ensures
