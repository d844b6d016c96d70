-- The time limit that the environment names.
use Rattle.std.specs.Prelude.{ℕ, List, Option, None, Some, length, nat_le, nat_lt, if◌then◌else◌}
use Rattle.text_commands.specs.Words.{number_in}

-- how long connecting, hearing and writing may take, in milliseconds, where nothing says it
abbrev pub usual : ℕ
usual = 1000

abbrev pub or_usual : Option ℕ → ℕ
or_usual None = usual
or_usual (Some number) = if nat_lt 0 number then number else usual

-- a limit in 1 to 7 decimal digits above 0, and else the usual one
abbrev pub limit_in : List ℕ → ℕ
limit_in word = if nat_le (length word) 7 then or_usual (number_in word) else usual
