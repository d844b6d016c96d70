use Rattle.std.proofs.Common.{refl, inl, inr, arith}
use Rattle.switch_laws.proofs.worked.a_switch_holds_what_an_earlier_migration_left.Goals as goal

pub returns-clause-untouched : goal.returns-clause-untouched
returns-clause-untouched c = inr (record { earlier = omega arith; none = refl })

pub returns-clause-touched : goal.returns-clause-touched
returns-clause-touched c (inl moved) = omega (arith, moved.pair)
returns-clause-touched c (inr left) = omega (arith, left.none)

pub returns-clause-later : goal.returns-clause-later
returns-clause-later c (inl moved) = omega (arith, moved.pair)
returns-clause-later c (inr left) = omega (arith, left.earlier)
