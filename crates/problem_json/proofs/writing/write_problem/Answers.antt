use Rattle.std.proofs.Common.{IsUtf8, ap, sym, subst, ◌∙◌}
use Rattle.serde_json.specs.Read.{read}
use Rattle.problem_json.specs.Grammar.{problem_of, problem_in}
use Rattle.problem_json.specs.Places.{place_of}
use Rattle.problem_json.specs.declared.place.Part.TheVariants as part
use Rattle.problem_json.specs.Writing.{problem_data, problem_text}
use Rattle.problem_json.proofs.ReadAgain.{text_is_read, problem_is_read}
use Rattle.problem_json.proofs.ReadText.{problem_text_reads}
use Rattle.problem_json.proofs.Wholes.{whole_text}
use Rattle.problem_json.proofs.writing.write_problem.Goals as goal

pub returns-clause-text : goal.returns-clause-text
unfolding problem_text
returns-clause-text c = c.utf8_text.ensures.same ∙ whole_text (problem_text c.args.problem.now) c.in_ok-finish.field-0 c.in_ok-text.text c.push_problem.new.text c.in_ok-text.ensures c.push_problem.ensures.text c.in_ok-finish.ensures

pub returns-clause-reads : goal.returns-clause-reads
unfolding problem_text problem_in
returns-clause-reads c =
    let is = c.utf8_text.ensures.same ∙ whole_text (problem_text c.args.problem.now) c.in_ok-finish.field-0 c.in_ok-text.text c.push_problem.new.text c.in_ok-text.ensures c.push_problem.ensures.text c.in_ok-finish.ensures in
    let utf8 : IsUtf8 c.utf8_text.result = subst IsUtf8 (sym c.utf8_text.ensures.same) c.utf8_text.ensures.utf8 in
    let p = c.args.problem.now in
    let network = c.push_problem.ensures.network in
    text_is_read (problem_of (place_of part.Top)) p (problem_data p) c.utf8_text.result utf8 (ap read is ∙ problem_text_reads p network) (problem_is_read p network (place_of part.Top))
