use Rattle.std.proofs.lemmas.Result.{IfOk-weaker}
use Rattle.json.specs.Reads.{token_of}
use Rattle.json_data.proofs.PlainBytes.{behind_gap}
use Rattle.json_data.proofs.plain_token.behind_gap.Goals as goal

pub lexeme_at-requires : goal.lexeme_at-requires
lexeme_at-requires c = c.gap_end-place.ensures.high

pub returns : goal.returns
returns c =
    IfOk-weaker c.lexeme_at.result _ _
    (λ r is. behind_gap c.args.text.now c.args.from c.gap_end-place.result (token_of r.0) r.1 c.gap_end-place.ensures is)
    c.lexeme_at.ensures
