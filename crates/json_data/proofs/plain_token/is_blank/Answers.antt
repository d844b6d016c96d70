use Rattle.std.proofs.Common.{inl, inr}
use Rattle.std.proofs.lemmas.Bool.{false≢true}
use Rattle.json_data.proofs.plain_token.is_blank.Goals as goal

pub returns-in-32 : goal.returns-in-32
returns-in-32 c truth = inl c.in-32.is

pub returns-in-10 : goal.returns-in-10
returns-in-10 c truth = inr c.in-10.is

pub returns-in_default : goal.returns-in_default
returns-in_default c truth = absurd (false≢true truth)
