use Rattle.std.proofs.Common.{◌≡◌, ℕ, ◌<◌, ◌∙◌, sym, true, false, Some, None, List, length, get_or, ap}
use Rattle.std.specs.Prelude.{slice_get, Option}
use Rattle.std.proofs.lemmas.List.Quantifiers.{position-Some}
use Rattle.std.proofs.lemmas.Option.{slice_get-get_or}
use Rattle.fraction_lp.specs.Dictionary.{Line, Dictionary, is_lacking, leaving, line_in, line_at}
use Rattle.fraction_lp.proofs.dictionary.take_line.Goals as goal

pub unreachable-requires : goal.unreachable-requires
unreachable-requires c =
    let here = position-Some is_lacking c.args.lines.now.items c.args.b c.index_mut.result.now c.requires in
    let none : c.index_mut.result.now ≡ None = sym c.take.ensures.value ∙ c.in-None.is in
    let no : is_lacking c.index_mut.result.now ≡ true = ap is_lacking c.index_mut.ensures.value ∙ here.1 in
    let yes : is_lacking c.index_mut.result.now ≡ false = ap is_lacking none in
    cc

pub returns-clause-line : goal.returns-clause-line
returns-clause-line c =
    let here = position-Some is_lacking c.args.lines.now.items c.args.b c.index_mut.result.now c.requires in
    let at : slice_get c.args.lines.now.items c.args.b ≡ Some c.index_mut.result.now =
    slice_get-get_or c.args.lines.now.items c.args.b c.index_mut.result.now here.0 ∙ ap Some (sym c.index_mut.ensures.value) in
    let some : c.index_mut.result.now ≡ Some c.in-Some.line = sym c.take.ensures.value ∙ c.in-Some.is in
    sym (ap line_in (at ∙ ap Some some))
