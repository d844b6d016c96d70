use Rattle.std.proofs.Common.{IsUtf8, ap, sym, subst, ◌∙◌}
use Rattle.serde_json.specs.Read.{read}
use Rattle.problem_json.specs.GrammarLeast.{claimed_of, claimed_in}
use Rattle.problem_json.specs.WritingLeast.{claimed_data, claimed_text}
use Rattle.problem_json.proofs.ReadAgain.{text_is_read}
use Rattle.problem_json.proofs.ReadClaims.{claimed_is_read}
use Rattle.problem_json.proofs.ReadText.{claimed_text_reads}
use Rattle.problem_json.proofs.Wholes.{whole_text}
use Rattle.problem_json.proofs.writing.write_claimed.Goals as goal

pub returns-clause-text : goal.returns-clause-text
unfolding claimed_text
returns-clause-text c = c.utf8_text.ensures.same ∙ whole_text (claimed_text c.args.problem.now c.args.plan.now c.args.claim.now) c.in_ok-finish.field-0 c.in_ok-text.text c.push_claimed.new.text c.in_ok-text.ensures (c.push_claimed.ensures.text c.args.claim.now (c.as_str.ensures ∙ c.in_ok-said.ensures)) c.in_ok-finish.ensures

pub returns-clause-reads : goal.returns-clause-reads
unfolding claimed_text claimed_in
returns-clause-reads c =
    let is = c.utf8_text.ensures.same ∙ whole_text (claimed_text c.args.problem.now c.args.plan.now c.args.claim.now) c.in_ok-finish.field-0 c.in_ok-text.text c.push_claimed.new.text c.in_ok-text.ensures (c.push_claimed.ensures.text c.args.claim.now (c.as_str.ensures ∙ c.in_ok-said.ensures)) c.in_ok-finish.ensures in
    let utf8 : IsUtf8 c.utf8_text.result = subst IsUtf8 (sym c.utf8_text.ensures.same) c.utf8_text.ensures.utf8 in
    let p = c.args.problem.now in
    let plan = c.args.plan.now in
    let claim = c.args.claim.now in
    let network = c.push_claimed.ensures.network in
    λ within said. text_is_read claimed_of _ (claimed_data p plan claim) c.utf8_text.result utf8
    (ap read is ∙ claimed_text_reads p plan claim network c.push_claimed.ensures.words said) (claimed_is_read p plan claim network within said)
