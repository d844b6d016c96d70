use Rattle.std.proofs.Common.{◌≡◌, pos, FitsSigned, ap, ◌∙◌, arith, rules}
use Rattle.std.specs.Int.{w128}
use Rattle.std.proofs.lemmas.Bool.{ne_eqb}
use Rattle.std.proofs.lemmas.Int.{to_z-of_z}
use Rattle.fraction_lp.specs.Divisors.{gcd}
use Rattle.problem_json.specs.GrammarFractions.{signed}
use Rattle.problem_json.proofs.Spelled.{top_above, bottom_above, not_reduced, reduced_is}
use Rattle.problem_json.proofs.spelling.reduced_of.Goals as goal

pub returns-then-top-gt-LARGEST : goal.returns-then-top-gt-LARGEST
returns-then-top-gt-LARGEST c = top_above c.args.minus c.args.top c.args.bottom (omega (arith, c.if-top-gt-LARGEST.true))

pub returns-then-bottom-gt-LARGEST : goal.returns-then-bottom-gt-LARGEST
returns-then-bottom-gt-LARGEST c = bottom_above c.args.minus c.args.top c.args.bottom (omega (arith, c.if-bottom-gt-LARGEST.true))

pub returns-then-divisor-eq1 : goal.returns-then-divisor-eq1
returns-then-divisor-eq1 c =
    let t = c.as_signed.result in
    let b = c.as_signed-then-divisor-eq1.result in
    let a = c.with_sign-above.result in
    let t_fits : FitsSigned w128 t = search rules in
    let b_fits : FitsSigned w128 b = search rules in
    let a_fits : FitsSigned w128 a = search rules in
    let above : a ≡ signed c.args.minus (pos c.args.top) = c.with_sign-above.ensures ∙ ap (signed c.args.minus) (to_z-of_z w128 t t_fits ∙ c.as_signed.ensures.value) in
    c.new.ensures
    ∙ reduced_is c.args.minus c.args.top c.args.bottom _ _ (omega (arith, c.if-top-gt-LARGEST.false)) (omega (arith, c.if-bottom-gt-LARGEST.false))
    (omega (arith, c.greatest_common_divisor-divisor.ensures, c.if-divisor-eq1.true)) (to_z-of_z w128 a a_fits ∙ above) (to_z-of_z w128 b b_fits ∙ c.as_signed-then-divisor-eq1.ensures.value)

pub returns : goal.returns
returns c =
    not_reduced c.args.minus c.args.top c.args.bottom
    (ne_eqb (gcd c.args.top c.args.bottom) 1 (λ e. omega (arith, e, c.greatest_common_divisor-divisor.ensures, c.if-divisor-eq1.false)))
