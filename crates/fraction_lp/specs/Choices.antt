-- What the method does next at a dictionary.
use Rattle.std.specs.Prelude.{◌≡◌, ℕ, Some}
use Rattle.fraction_lp.specs.declared.term.Term.{Term}
use Rattle.fraction_lp.specs.declared.answer.LpAnswer.{LpAnswer}
use Rattle.fraction_lp.specs.declared.simplex.Choice.{Choice}
use Rattle.fraction_lp.specs.declared.simplex.Choice.TheVariants.{End, Exchange}
use Rattle.fraction_lp.specs.Dictionary.{Program, Dictionary, leaving, entering, line_at, after_leaving}

-- the method comes to its end here, or two numbers are to be exchanged
abbrev pub IsChoice : Choice → Program → Dictionary → Type 0
IsChoice (End answer) p d = (next : ℕ → Term → LpAnswer) → after_leaving p d next (leaving d) ≡ answer
IsChoice (Exchange b t) p d = (leaving d ≡ Some b) × (entering (line_at b d).terms ≡ Some t)
