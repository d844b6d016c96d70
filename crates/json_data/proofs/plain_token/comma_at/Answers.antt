use Rattle.std.proofs.Common.{sym, arith}
use Rattle.std.proofs.lemmas.Bool.{eq-eqb, ne_eqb}
use Rattle.json_data.proofs.PlainBytes.{inside}
use Rattle.json_data.proofs.plain_token.comma_at.Goals as goal

pub returns-then-byte_at-eq44-clause-comma : goal.returns-then-byte_at-eq44-clause-comma
returns-then-byte_at-eq44-clause-comma c = sym (eq-eqb _ _ (omega (arith, c.byte_at.ensures)))

pub returns-then-byte_at-eq44-clause-within : goal.returns-then-byte_at-eq44-clause-within
returns-then-byte_at-eq44-clause-within c =
    (omega arith, omega (arith, inside c.args.text.now c.args.from 44 (omega (arith, c.byte_at.ensures)) (λ e. omega (arith, e))))

pub returns-clause-comma : goal.returns-clause-comma
returns-clause-comma c = sym (ne_eqb _ _ (λ e. omega (arith, e, c.byte_at.ensures)))
