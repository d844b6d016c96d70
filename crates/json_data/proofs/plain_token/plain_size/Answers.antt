use Rattle.std.proofs.Common.{◌<◌, length, subst}
use Rattle.std.specs.Prelude.{IfOk}
use Rattle.json_data.specs.Plain.{IsPlainUpTo}
use Rattle.json_data.proofs.plain_token.plain_size.Goals as goal

pub returns-clause-plain : goal.returns-clause-plain
returns-clause-plain c = subst (λ xs. IfOk c.plain_bytes.result (λ size. IsPlainUpTo xs size)) c.as_bytes-bytes.ensures.value c.plain_bytes.ensures.plain

pub returns-clause-within : goal.returns-clause-within
returns-clause-within c = subst (λ xs. IfOk c.plain_bytes.result (λ size. size < length xs)) c.as_bytes-bytes.ensures.value c.plain_bytes.ensures.within
