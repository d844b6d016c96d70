use Rattle.std.proofs.Common.{refl, inl, arith}
use Rattle.switch_laws.proofs.worked.a_switch_holds_what_is_settled_or_in_flight.Goals as goal

pub returns-clause-settled : goal.returns-clause-settled
returns-clause-settled c = inl (record { pair = refl; least = omega arith; most = omega arith; content = λ _. refl })

pub returns-clause-in_flight : goal.returns-clause-in_flight
returns-clause-in_flight c = inl (record { pair = refl; least = omega arith; most = omega arith; content = λ _. refl })

pub returns-clause-nothing : goal.returns-clause-nothing
returns-clause-nothing c = inl (record { pair = refl; least = omega arith; most = omega arith; content = λ some. absurd (omega (arith, some)) })
