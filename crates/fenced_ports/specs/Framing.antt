-- What goes out where commands are offered: each whole one with the term in front, and nothing of one that hasn't ended.
use Rattle.std.specs.Prelude.{◌≡◌, ℕ, List, [], ◌++◌, Bool, false, Option, Some}
use Rattle.std.specs.List.{flat_map}
use Rattle.wan_edge.specs.Frames.{CommandFrame, IsCommand, Splits, command_bytes}
use Rattle.wan_edge.specs.Ports.{AppendsFront}
use Rattle.wan_edge.specs.Streams.{Appends}
use Rattle.fenced_agent.specs.Frames.{termed_bytes}

-- the bytes of a command that names this term, and of commands in a row
abbrev pub with_term : ℕ → CommandFrame → List ℕ
with_term term c = termed_bytes (record { term = Some term; command = c })

abbrev pub with_terms : ℕ → List CommandFrame → List ℕ
with_terms term commands = flat_map (with_term term) commands

-- the bytes of the command that hasn't ended, and those that are to go out
pub record Framing : Type 0 where
  pub kept : List ℕ
  pub out : List ℕ

-- After what was kept, whole commands stand at the front of these bytes. Each is put to what goes out with the term in front, and the rest is kept.
pub record Frames (term : ℕ) (before : Framing) (bytes : List ℕ) (now : Framing) : Type 0 where
  pub commands : List CommandFrame
  pub whole : Splits command_bytes IsCommand (before.kept ++ bytes) commands now.kept
  pub added : now.out ≡ before.out ++ with_terms term commands

-- These bytes were offered after what was kept: the whole commands in them went out, and the rest is kept.
pub record Sends (term : ℕ) (kept bytes : List ℕ) (before now : Option (List ℕ)) (kept_now : List ℕ) : Type 0 where
  pub commands : List CommandFrame
  pub whole : Splits command_bytes IsCommand (kept ++ bytes) commands kept_now
  pub offered : Appends before (with_terms term commands) now

-- Whole commands stand at their front, and of their bytes the first went out, perhaps none or all of them.
pub record SendsFront (term : ℕ) (kept bytes : List ℕ) (before now : Option (List ℕ)) : Type 0 where
  pub commands : List CommandFrame
  pub rest : List ℕ
  pub whole : Splits command_bytes IsCommand (kept ++ bytes) commands rest
  pub offered : AppendsFront before (with_terms term commands) now

-- All that was offered from a moment on, and what went out of it since then: the whole commands in a row, each with the term in front. Where the port is
-- down the last of these bytes may be missing; else all went out, and the rest of what was offered is kept.
pub record IsFramed (term : ℕ) (before now : Option (List ℕ)) (offered kept : List ℕ) (down : Bool) : Type 0 where
  pub commands : List CommandFrame
  pub rest : List ℕ
  pub whole : Splits command_bytes IsCommand offered commands rest
  pub sent : List ℕ
  pub missing : List ℕ
  pub parts : with_terms term commands ≡ sent ++ missing
  pub went : Appends before sent now
  pub all : down ≡ false → (missing ≡ []) × (rest ≡ kept)
