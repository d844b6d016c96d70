use Rattle.std.proofs.Common.{◌≡◌, ℤ, neg_ℤ, arith, refl, ap}
use Rattle.std.proofs.lemmas.Int.{ints}
use Rattle.fraction_lp.specs.Ratio.{Ratio, negated, same_ratio}
use Rattle.fraction_lp.proofs.fraction.Fraction.negate.Goals as goal

pub returns : goal.returns
returns c =
    let same : c.self.inside.top ≡ c.args.self.top = ap (λ (x : Ratio). x.top) c.self.view_is in
    same_ratio _ (negated c.args.self) (omega (arith, ints)) (ap (λ (x : Ratio). x.bottom) c.self.view_is)
