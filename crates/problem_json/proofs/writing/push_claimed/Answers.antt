use Rattle.text_writer.proofs.Pushing.{at_value}
use Rattle.json.specs.Print.{escape_byte}
use Rattle.problem_json.specs.WritingLeast.{claimed_data, claimed_text}
use Rattle.problem_json.proofs.Rows.{by_seven}
use Rattle.problem_json.proofs.writing.push_claimed.Goals as goal

pub returns-clause-text : goal.returns-clause-text
unfolding claimed_text claimed_data escape_byte
returns-clause-text g c claim is =
    by_seven g.P.Pieces.pushes g.met.P.Pieces.pushed_further
    c.push_str.ensures (at_value g.P.Pieces.pushes (λ t. t) is c.push_str-2.ensures) c.push_str-3.ensures c.push_plan.ensures.text c.push_str-4.ensures c.push_problem.ensures.text c.push_str-5.ensures
