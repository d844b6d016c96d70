use Rattle.std.proofs.Common.{get_or, ap, ◌∙◌}
use Rattle.json_data.proofs.plain_token.byte_at.Goals as goal

pub returns : goal.returns
returns c = c.byte_of.ensures ∙ ap (λ xs. get_or xs c.args.place 32) c.as_bytes.ensures.value
