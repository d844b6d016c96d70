use Rattle.std.proofs.lemmas.Result.{IfOk-weaker}
use Rattle.problem_json.specs.WritingLeast.{claim_text}
use Rattle.problem_json.proofs.Wholes.{whole_text}
use Rattle.problem_json.proofs.writing.claim_piece.Goals as goal

pub returns : goal.returns
returns c =
    IfOk-weaker c.finish.result _ _
    (λ text is. whole_text (claim_text c.args.claim.now) text c.in_ok-text.text c.push_claim.new.text c.in_ok-text.ensures c.in_ok-push_claim.ensures is)
    c.finish.ensures
