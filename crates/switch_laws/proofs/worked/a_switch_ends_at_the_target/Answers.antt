use Rattle.std.proofs.Common.{ℕ, List, get_or, refl, ap, inl, inr, arith}
use Rattle.rollout_rules.specs.declared.held.Held.{Held}
use Rattle.switch_laws.proofs.worked.a_switch_ends_at_the_target.Goals as goal

pub returns-clause-moved : goal.returns-clause-moved
returns-clause-moved c = inl (record { pair = refl; content = λ _. refl })

pub returns-clause-under_way : goal.returns-clause-under_way
returns-clause-under_way c (inl moved) = omega (arith, ap (λ (held : Held). held.number) moved.pair)
returns-clause-under_way c (inr left) = omega (arith, left.earlier)

pub returns-clause-other_content : goal.returns-clause-other_content
returns-clause-other_content c (inl moved) = omega (arith, ap (λ (rates : List ℕ). get_or rates 1 0) (moved.content (omega arith)))
returns-clause-other_content c (inr left) = omega (arith, left.earlier)

pub returns-clause-left : goal.returns-clause-left
returns-clause-left c = inr (record { earlier = omega arith; none_left = refl })

pub returns-clause-not_moved : goal.returns-clause-not_moved
returns-clause-not_moved c (inl moved) = omega (arith, ap (λ (held : Held). held.migration) moved.pair)
returns-clause-not_moved c (inr left) = omega (arith, left.none_left)
