-- What reading all of a source comes to.
use Rattle.std.specs.Prelude.{ℕ, ◌≤◌, List, length, Result, Ok, Err}
use Rattle.rollout_rules.specs.declared.limits.TheConstants.{MOST_INPUT}
use Rattle.text_commands.specs.Runs.{IsInput}
use Rattle.wan_edge.specs.ReadAll.{GoesBeyond}
use Rattle.wan_edge.specs.Streams.{SourceTrace}
use Rattle.text_commands.specs.declared.command_end.CommandEnd.{CommandEnd}
use Rattle.text_commands.specs.declared.command_end.CommandEnd.TheVariants.{AboveLimit, ReadFault, OutOfMemory}

-- the bytes are the input, and within the limit
pub record IsShortInput (before now : SourceTrace) (bytes : List ℕ) : Type 0 where
  pub within : length bytes ≤ MOST_INPUT
  pub input : IsInput before now bytes

-- a source that was not read to its end
abbrev pub IsCut : SourceTrace → CommandEnd → SourceTrace → Type 0
IsCut before ReadFault now = Unit {0}
IsCut before OutOfMemory now = Unit {0}
IsCut before AboveLimit now = GoesBeyond MOST_INPUT before now
IsCut before ending now = ⊥

abbrev pub ReadsInput : SourceTrace → Result (List ℕ) CommandEnd → SourceTrace → Type 0
ReadsInput before (Ok bytes) now = IsShortInput before now bytes
ReadsInput before (Err e) now = IsCut before e now
