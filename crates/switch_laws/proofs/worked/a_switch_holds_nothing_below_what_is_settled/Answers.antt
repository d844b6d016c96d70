use Rattle.std.proofs.Common.{inl, inr, arith}
use Rattle.switch_laws.proofs.worked.a_switch_holds_nothing_below_what_is_settled.Goals as goal

pub returns : goal.returns
returns c (inl moved) = omega (arith, moved.least)
returns c (inr left) = omega (arith, left.earlier)
