use Rattle.std.proofs.Common.{ℕ, List, get_or, ap, inl, inr, arith}
use Rattle.switch_laws.proofs.worked.a_switch_holds_no_other_content.Goals as goal

pub returns : goal.returns
returns c (inl moved) = omega (arith, ap (λ (rates : List ℕ). get_or rates 1 0) (moved.content (omega arith)))
returns c (inr left) = omega (arith, left.earlier)
