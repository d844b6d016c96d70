use Rattle.json.specs.Print.{escape_byte}
use Rattle.problem_json.specs.Writing.{document_text, document_data}
use Rattle.problem_json.proofs.Rows.{by_five}
use Rattle.problem_json.proofs.writing.push_document.Goals as goal

pub returns-clause-text : goal.returns-clause-text
unfolding document_text document_data escape_byte
returns-clause-text g c =
    by_five g.P.Pieces.pushes g.met.P.Pieces.pushed_further
    c.push_str.ensures c.push_plan.ensures.text c.push_str-2.ensures c.push_problem.ensures.text c.push_str-3.ensures
