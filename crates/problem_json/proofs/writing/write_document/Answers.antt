use Rattle.std.proofs.Common.{IsUtf8, ap, sym, subst, ◌∙◌}
use Rattle.serde_json.specs.Read.{read}
use Rattle.problem_json.specs.GrammarDocuments.{document_of, document_in}
use Rattle.problem_json.specs.Writing.{document_data, document_text}
use Rattle.problem_json.proofs.ReadAgain.{text_is_read, document_is_read, document_holds}
use Rattle.problem_json.proofs.ReadText.{document_text_reads}
use Rattle.problem_json.proofs.Wholes.{whole_text}
use Rattle.problem_json.proofs.writing.write_document.Goals as goal

pub returns-clause-text : goal.returns-clause-text
unfolding document_text
returns-clause-text c = c.utf8_text.ensures.same ∙ whole_text (document_text c.args.problem.now c.args.plan.now) c.in_ok-finish.field-0 c.in_ok-text.text c.push_document.new.text c.in_ok-text.ensures c.push_document.ensures.text c.in_ok-finish.ensures

pub returns-clause-holds : goal.returns-clause-holds
unfolding document_text document_in
returns-clause-holds c =
    let is = c.utf8_text.ensures.same ∙ whole_text (document_text c.args.problem.now c.args.plan.now) c.in_ok-finish.field-0 c.in_ok-text.text c.push_document.new.text c.in_ok-text.ensures c.push_document.ensures.text c.in_ok-finish.ensures in
    document_holds c.args.problem.now c.args.plan.now c.push_document.ensures.network c.utf8_text.result (ap read is ∙ document_text_reads c.args.problem.now c.args.plan.now c.push_document.ensures.network c.push_document.ensures.words)

pub returns-clause-reads : goal.returns-clause-reads
unfolding document_text document_in
returns-clause-reads c =
    let is = c.utf8_text.ensures.same ∙ whole_text (document_text c.args.problem.now c.args.plan.now) c.in_ok-finish.field-0 c.in_ok-text.text c.push_document.new.text c.in_ok-text.ensures c.push_document.ensures.text c.in_ok-finish.ensures in
    let utf8 : IsUtf8 c.utf8_text.result = subst IsUtf8 (sym c.utf8_text.ensures.same) c.utf8_text.ensures.utf8 in
    let p = c.args.problem.now in
    let plan = c.args.plan.now in
    let network = c.push_document.ensures.network in
    λ within. text_is_read document_of _ (document_data p plan) c.utf8_text.result utf8 (ap read is ∙ document_text_reads p plan network c.push_document.ensures.words) (document_is_read p plan network within)
