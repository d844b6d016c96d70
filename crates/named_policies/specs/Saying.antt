-- Which texts say a ceiling.
use Rattle.std.specs.Prelude.{◌≡◌, ℕ, List, Option, None, Some, option_and_then, nat_le, if◌then◌else◌}
use Rattle.rollout_rules.specs.declared.limits.TheConstants.{MOST_STAGES}
use Rattle.text_commands.specs.Words.{number_in}

-- a ceiling is at most the greatest number of stages
abbrev pub up_to_stages : ℕ → Option ℕ
up_to_stages number = if nat_le number MOST_STAGES then Some number else None

-- a ceiling in 1 to 19 decimal digits, up to 256; any other word says none
abbrev pub ceiling_in : List ℕ → Option ℕ
ceiling_in word = option_and_then up_to_stages (number_in word)

-- a ceiling, or none, as some word says
abbrev pub IsSaid : Option ℕ → Type 0
IsSaid ceiling = (word : List ℕ) × (ceiling ≡ ceiling_in word)
