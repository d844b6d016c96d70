use Rattle.std.proofs.Common.{inl, inr, arith}
use Rattle.switch_laws.proofs.worked.a_switch_holds_nothing_above_what_is_begun.Goals as goal

pub returns : goal.returns
returns c (inl moved) = omega (arith, moved.most)
returns c (inr left) = omega (arith, left.earlier)
