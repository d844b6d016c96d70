use Rattle.std.proofs.Common.{IsUtf8, ap, sym, subst, ◌∙◌}
use Rattle.serde_json.specs.Read.{read}
use Rattle.problem_json.specs.GrammarPlans.{plan_of}
use Rattle.problem_json.specs.GrammarDocuments.{plan_in}
use Rattle.problem_json.specs.Writing.{plan_data, plan_text}
use Rattle.problem_json.proofs.ReadPlans.{plan_is_read}
use Rattle.problem_json.proofs.ReadAgain.{text_is_read}
use Rattle.problem_json.proofs.ReadText.{plan_text_reads}
use Rattle.problem_json.proofs.Wholes.{whole_text}
use Rattle.problem_json.proofs.writing.write_plan.Goals as goal

pub returns-clause-text : goal.returns-clause-text
unfolding plan_text
returns-clause-text c = c.utf8_text.ensures.same ∙ whole_text (plan_text c.args.plan.now) c.in_ok-finish.field-0 c.in_ok-text.text c.push_plan.new.text c.in_ok-text.ensures c.push_plan.ensures.text c.in_ok-finish.ensures

pub returns-clause-reads : goal.returns-clause-reads
unfolding plan_text plan_in
returns-clause-reads c =
    let is = c.utf8_text.ensures.same ∙ whole_text (plan_text c.args.plan.now) c.in_ok-finish.field-0 c.in_ok-text.text c.push_plan.new.text c.in_ok-text.ensures c.push_plan.ensures.text c.in_ok-finish.ensures in
    let utf8 : IsUtf8 c.utf8_text.result = subst IsUtf8 (sym c.utf8_text.ensures.same) c.utf8_text.ensures.utf8 in
    let plan = c.args.plan.now in
    λ within. text_is_read plan_of plan (plan_data plan) c.utf8_text.result utf8 (ap read is ∙ plan_text_reads plan c.push_plan.ensures.words) (plan_is_read plan within)
