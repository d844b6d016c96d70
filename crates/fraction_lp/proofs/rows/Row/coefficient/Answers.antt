use Rattle.std.proofs.Common.{List, ap, ◌∙◌}
use Rattle.std.specs.Prelude.{slice_index_or}
use Rattle.fraction_lp.specs.declared.term.Term.{Term}
use Rattle.fraction_lp.specs.Ratio.{zero_ratio}
use Rattle.fraction_lp.specs.Dictionary.{Row, coefficient_at, negated_or_zero}
use Rattle.fraction_lp.proofs.Excluded.{entry_read}
use Rattle.fraction_lp.proofs.rows.Row.coefficient.Goals as goal

pub returns : goal.returns
returns c =
    c.negated_or_zero.ensures
    ∙ ap negated_or_zero c.coefficient_at.ensures
    ∙ ap (λ (ts : List Term). negated_or_zero (coefficient_at c.args.unknown ts)) c.as_slice.ensures.value
    ∙ entry_read c.args.unknown c.self.inside.unknowns c.self.inside.terms.items c.self.invariant
    ∙ ap (λ (row : Row). slice_index_or row.coefficients c.args.unknown zero_ratio) c.self.view_is
