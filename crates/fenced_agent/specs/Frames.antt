-- The bytes of a frame that names a term. In front of a command stands the term of its controller, and in front of an answer the
-- floor of its switch; a command that names no term, and the answer to one, are as they are without terms. Numbers are big
-- endian.
use Rattle.std.specs.Prelude.{ℕ, ◌<◌, ◌^◌, List, [], ◌∷◌, ◌++◌, Option, Some, None}
use Rattle.std.specs.Int.{w32, to_be_bytes}
use Rattle.wan_edge.specs.Frames.{AnswerFrame, CommandFrame, IsAnswer, IsCommand, answer_bytes, command_bytes}

-- a command as it comes, and the term that it names, where it names one
pub record TermedCommand : Type 0 where
  pub term : Option ℕ
  pub command : CommandFrame

-- an answer as it is given, and the floor, where the command that it answers named a term
pub record FlooredAnswer : Type 0 where
  pub floor : Option ℕ
  pub answer : AnswerFrame

-- a command that names no term has term 0
abbrev pub term_of : Option ℕ → ℕ
term_of None = 0
term_of (Some term) = term

-- the first byte of a frame that names a term or a floor
abbrev pub fence_kind : ℕ
fence_kind = 0x46

-- what stands in front of the frame
abbrev pub fence_bytes : Option ℕ → List ℕ
fence_bytes None = []
fence_bytes (Some number) = fence_kind ∷ to_be_bytes w32 number

abbrev pub termed_bytes : TermedCommand → List ℕ
termed_bytes c = fence_bytes c.term ++ command_bytes c.command

abbrev pub floored_bytes : FlooredAnswer → List ℕ
floored_bytes a = fence_bytes a.floor ++ answer_bytes a.answer

-- a frame that has bytes: its numbers are within their widths
pub record IsTermedCommand (c : TermedCommand) : Type 0 where
  pub in_term : term_of c.term < 2 ^ 32
  pub whole : IsCommand c.command

pub record IsFlooredAnswer (a : FlooredAnswer) : Type 0 where
  pub in_floor : term_of a.floor < 2 ^ 32
  pub whole : IsAnswer a.answer
