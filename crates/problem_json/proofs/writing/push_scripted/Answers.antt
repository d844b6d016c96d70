use Rattle.json.specs.Print.{escape_byte}
use Rattle.problem_json.specs.GrammarDocuments.{scripted_of, scripted_in}
use Rattle.problem_json.specs.WritingScripts.{scripted_data, scripted_text}
use Rattle.problem_json.proofs.ReadAgain.{text_is_read}
use Rattle.problem_json.proofs.ReadScripts.{scripted_is_read}
use Rattle.problem_json.proofs.ReadText.{scripted_text_reads}
use Rattle.problem_json.proofs.Rows.{by_seven}
use Rattle.problem_json.proofs.writing.push_scripted.Goals as goal

pub returns-clause-text : goal.returns-clause-text
unfolding scripted_text scripted_data escape_byte
returns-clause-text g c =
    by_seven g.P.Pieces.pushes g.met.P.Pieces.pushed_further
    c.push_str.ensures c.push_plan.ensures.text c.push_str-2.ensures c.push_problem.ensures.text c.push_str-3.ensures c.push_script.ensures.text c.push_str-4.ensures

-- what was pushed is UTF-8, and so can be read again
pub returns-clause-reads : goal.returns-clause-reads
unfolding scripted_text scripted_in
returns-clause-reads g c =
    let p = c.args.problem.now in
    let plan = c.args.plan.now in
    let script = c.args.script.now in
    let network = c.push_problem.ensures.network in
    let acts = c.push_script.ensures.within in
    λ within few. text_is_read scripted_of _ (scripted_data p plan script) (scripted_text p plan script)
    (g.met.P.Pieces.pushed_utf8 _ _ _ (returns-clause-text g c))
    (scripted_text_reads p plan script network c.push_plan.ensures.words acts) (scripted_is_read p plan script network within few acts)
