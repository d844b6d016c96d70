-- Answers that were heard: each stands whole in what a port told.
use Rattle.std.specs.Prelude.{◌≡◌, ℕ, List, ◌++◌, Option, IfSome}
use Rattle.wan_edge.specs.Frames.{Answer, AnswerFrame, answer_bytes}
use Rattle.wan_edge.specs.Ports.{PortTrace}

-- an answer stands whole in these bytes
pub record StandsIn (answer : AnswerFrame) (bytes : List ℕ) : Type 0 where
  pub earlier : List ℕ
  pub later : List ℕ
  pub parts : bytes ≡ earlier ++ (answer_bytes answer ++ later)

-- bytes that end with these
pub record Ends (kept bytes : List ℕ) : Type 0 where
  pub earlier : List ℕ
  pub parts : bytes ≡ earlier ++ kept

-- what was heard ends with these bytes, where it is told
abbrev pub EndsWith : List ℕ → Option (List ℕ) → Type 0
EndsWith kept heard = IfSome heard (Ends kept)

-- The port has told this answer by now: whole among the bytes heard, where these are told.
abbrev pub HasTold : PortTrace → AnswerFrame → Type 0
HasTold port answer = IfSome port.heard (StandsIn answer)

-- A port of this kind stood where it had told the answer. Code that doesn't know the kind can name no other state of a port than those that calls left.
pub record WasHeard {P : Type 0} (tell : P → PortTrace) (answer : AnswerFrame) : Type 0 where
  pub port : P
  pub told : HasTold (tell port) answer

-- the answers heard in a round, all of one migration
pub record HeardAnswers : Type 0 where
  pub migration : ℕ
  pub answers : List Answer
