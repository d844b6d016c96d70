-- What a command uses beside the sink.
use Rattle.std.specs.Prelude.{Bool, true, false, Option, Some, None}
use Rattle.text_commands.specs.Words.{TextAsked}

-- the source, the journal's disk, and the ports or the guests of the fleet
pub record Uses : Type 0 where
  pub input : Bool
  pub journal : Bool
  pub ports : Bool
  pub guests : Bool

abbrev pub uses_nothing : Uses
uses_nothing = record { input = false; journal = false; ports = false; guests = false }

abbrev pub uses_input : Uses
uses_input = record { input = true; journal = false; ports = false; guests = false }

-- what makes a text of its input uses nothing else
abbrev pub text_uses : Option TextAsked → Uses
text_uses None = uses_nothing
text_uses (Some what) = uses_input
