-- The bytes of a line, and which ending it tells.
use Rattle.std.specs.Prelude.{◌≡◌, ◌⊎◌, ℕ, List, IsTrue}
use Rattle.text_commands.specs.CommandEnds.{line_of, tells_place}
use Rattle.text_commands.specs.declared.command_end.CommandEnd.{CommandEnd}
use Rattle.text_commands.specs.declared.command_end.CommandEnd.TheVariants.{OutOfMemory}
use Rattle.text_commands.specs.declared.line.Line.{Line}
use Rattle.text_commands.specs.declared.line.Line.TheVariants.{Known, Made}

abbrev pub bytes_of : Line → List ℕ
bytes_of (Known line) = line.now
bytes_of (Made line) = line

-- the ending itself, or lack of memory in place of one whose line takes some
abbrev pub IsToldAs : CommandEnd → CommandEnd → Type 0
IsToldAs ending told = (told ≡ ending) ⊎ ((told ≡ OutOfMemory) × IsTrue (tells_place ending))

pub record IsLineOf (ending told : CommandEnd) (line : Line) : Type 0 where
  pub is : IsToldAs ending told
  pub bytes : bytes_of line ≡ line_of told
