use Rattle.std.proofs.Common.{ℕ, zero, suc, ◌≤◌, refl, ap, inl, inr, arith}
use Rattle.std.specs.List.{Contains}
use Rattle.rollout_rules.specs.Worked.{op_of}
use Rattle.rollout_rules.specs.declared.op.Op.{Op}
use Rattle.rollout_rules.specs.declared.op.Entry.{Entry}
use Rattle.rollout_rules.specs.declared.op.Entry.TheVariants.{Begin, Done}
use Rattle.wan_edge.specs.Frames.{Command}
use Rattle.switch_laws.specs.Worked.{under_way}
use Rattle.switch_laws.proofs.worked.begun_and_late_commands_may_come.Goals as goal

number_in : Entry → ℕ
number_in (Begin op) = op.number
number_in (Done op) = op.number

-- no entry has number 3
at_most_two : (op : Op) → Contains under_way.entries (Begin op) → op.number ≤ 2
unfolding number_in
at_most_two op (zero, inside, is) = omega (arith, ap number_in is)
at_most_two op (suc zero, inside, is) = omega (arith, ap number_in is)
at_most_two op (suc (suc zero), inside, is) = omega (arith, ap number_in is)
at_most_two op (suc (suc (suc k)), inside, is) = absurd (omega (arith, inside))

pub returns-clause-begun : goal.returns-clause-begun
returns-clause-begun c = inl (refl, record { op = op_of 0 2; there = (2, omega arith, refl); is = refl })

pub returns-clause-unbegun : goal.returns-clause-unbegun
returns-clause-unbegun c (inl own) = omega (arith, at_most_two own.1.op own.1.there, ap (λ (d : Command). d.number) own.1.is)
returns-clause-unbegun c (inr (inl late)) = omega (arith, late.earlier)
returns-clause-unbegun c (inr (inr none)) = omega (arith, none)

pub returns-clause-late : goal.returns-clause-late
returns-clause-late c = inr (inl (record { earlier = omega arith; late = refl }))

pub returns-clause-above : goal.returns-clause-above
returns-clause-above c (inl own) = omega (arith, own.0)
returns-clause-above c (inr (inl late)) = cc late.late
returns-clause-above c (inr (inr none)) = omega (arith, none)

pub returns-clause-asked : goal.returns-clause-asked
returns-clause-asked c = inr (inr refl)
