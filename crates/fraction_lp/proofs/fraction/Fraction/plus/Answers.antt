use Rattle.std.proofs.Common.{◌≡◌, ◌*◌, ◌+ℤ◌, ◌*ℤ◌, pos, sym, ◌∙◌, ap, rules, FitsSigned}
use Rattle.std.specs.Int.{w128}
use Rattle.std.proofs.lemmas.Int.{to_z-of_z}
use Rattle.fraction_lp.proofs.Formed.{combined}
use Rattle.fraction_lp.proofs.fraction.Fraction.plus.Goals as goal

pub returns : goal.returns
returns c =
    let left : FitsSigned w128 c.in_ok-left.left = search rules in
    let right : FitsSigned w128 c.in_ok-left.right = search rules in
    let top : FitsSigned w128 c.in_ok-top.top = search rules in
    let bottom : c.whole.result * c.whole-2.result ≡ c.args.self.bottom * c.args.other.bottom =
    ap (λ n. n * c.whole-2.result) c.whole.ensures.value ∙ ap (λ n. c.args.self.bottom * n) c.whole-2.ensures.value in
    combined (◌+ℤ◌) (c.args.self.top *ℤ pos c.args.other.bottom) (c.args.other.top *ℤ pos c.args.self.bottom) _ _ _ _ _ _ _ _ _
    (to_z-of_z w128 _ left) (to_z-of_z w128 _ right) (to_z-of_z w128 _ top) bottom
    (sym c.in_ok-left.was ∙ c.cross_products.ensures) (sym c.in_ok-top.was ∙ c.formed_sum.ensures) c.over_both.ensures
