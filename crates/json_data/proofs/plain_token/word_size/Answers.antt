use Rattle.std.proofs.Common.{◌≤◌, length, subst}
use Rattle.json_data.proofs.plain_token.word_size.Goals as goal

pub returns : goal.returns
returns c = subst (λ xs. c.letters.result ≤ length xs) c.as_bytes-bytes.ensures.value c.letters.ensures
