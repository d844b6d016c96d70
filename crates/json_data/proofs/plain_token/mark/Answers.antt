use Rattle.std.proofs.Common.{[], ◌∷◌, sym, ap, arith}
use Rattle.json_data.proofs.plain_token.mark.Goals as goal

pub returns-in-123 : goal.returns-in-123
returns-in-123 c = record { text = ap (λ b. b ∷ []) (sym c.in-123.is); printable = tt; placed = λ all to. tt; large = omega (arith, c.in-123.is) }

pub returns-in-125 : goal.returns-in-125
returns-in-125 c = record { text = ap (λ b. b ∷ []) (sym c.in-125.is); printable = tt; placed = λ all to. tt; large = omega (arith, c.in-125.is) }

pub returns-in-91 : goal.returns-in-91
returns-in-91 c = record { text = ap (λ b. b ∷ []) (sym c.in-91.is); printable = tt; placed = λ all to. tt; large = omega (arith, c.in-91.is) }

pub returns-in-93 : goal.returns-in-93
returns-in-93 c = record { text = ap (λ b. b ∷ []) (sym c.in-93.is); printable = tt; placed = λ all to. tt; large = omega (arith, c.in-93.is) }
