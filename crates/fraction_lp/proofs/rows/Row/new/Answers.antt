use Rattle.std.proofs.Common.{◌≡◌, List, length, ap, ◌∙◌, sym}
use Rattle.fraction_lp.specs.Ratio.{Ratio}
use Rattle.fraction_lp.specs.declared.term.Term.{Term}
use Rattle.fraction_lp.specs.Dictionary.{Row, coefficients_of, negated_terms}
use Rattle.fraction_lp.proofs.Sparse.{coefficients_kept}
use Rattle.fraction_lp.proofs.rows.Row.new.Goals as goal

-- terms that are those of the coefficients, negated, give the coefficients back
back : (cs : List Ratio) (ts : List Term) → ts ≡ negated_terms 0 cs → coefficients_of 0 (length cs) ts ≡ cs
back cs ts e = ap (coefficients_of 0 (length cs)) e ∙ coefficients_kept 0 cs

pub invariant_of-result : goal.invariant_of-result
invariant_of-result c =
    ap (negated_terms 0) (back c.args.coefficients.now c.in_ok-negated_terms.field-0.items c.in_ok-negated_terms.ensures) ∙ sym c.in_ok-negated_terms.ensures

pub returns : goal.returns
returns c =
    ap (λ (cs : List Ratio). let row : Row = record { coefficients = cs; bound = c.args.bound } in row)
    (back c.args.coefficients.now c.in_ok-negated_terms.field-0.items c.in_ok-negated_terms.ensures)
