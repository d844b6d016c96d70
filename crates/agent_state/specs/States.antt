-- How an agent's file stands between two batches, and what a batch and a new part may leave.
use Rattle.std.specs.Prelude.{◌≡◌, ◌≢◌, ◌⊎◌, ℕ, ◌+◌, ◌<◌, ◌≤◌, Bool, List, [], ◌∷◌, ◌++◌, length, drop, Option, Some}
use Rattle.disk_model.specs.Crashes.{Only}
use Rattle.agent_state.specs.Batches.{Stands, batch_body, open_gate}
use Rattle.agent_state.specs.Images.{batches_in, first_start, is_second, made_length, start_at, state_kind}
use Rattle.disk_model.specs.Numbers.{byte_at}

-- which number names the live part, and where that starts
pub record Home : Type 0 where
  pub second : Bool
  pub start : ℕ

-- The image has the live part at this home, and it consists of this front and this rest.
pub record HasPart (home : Home) (front rest image : List ℕ) : Type 0 where
  pub kind : byte_at 0 image ≡ state_kind
  pub side : is_second image ≡ home.second
  pub start : start_at home.second image ≡ home.start
  pub low : first_start ≤ home.start
  pub some : 0 < length rest
  pub part : drop home.start image ≡ front ++ rest

-- At this gate the live part ends: it is closed, and after it stands anything. In front of it stand these batches.
pub record IsAtRest (home : Home) (gate : ℕ) (kept : List (List ℕ)) (image : List ℕ) : Type 0 where
  pub front : List ℕ
  pub mark : ℕ
  pub behind : List ℕ
  pub has : HasPart home front (mark ∷ behind) image
  pub stands : Stands front kept
  pub closed : mark ≢ open_gate
  pub at : gate ≡ home.start + length front
  pub short : length image ≤ made_length → kept ≡ []

-- A batch and a closed gate were written after this gate, which may be anything.
pub record IsStaged (home : Home) (gate : ℕ) (kept : List (List ℕ)) (batch image : List ℕ) : Type 0 where
  pub front : List ℕ
  pub mark : ℕ
  pub more : List ℕ
  pub has : HasPart home front (mark ∷ (batch_body batch ++ 0 ∷ more)) image
  pub stands : Stands front kept
  pub at : gate ≡ home.start + length front
  pub long : made_length < length image

-- the image is read as these batches, or as those
abbrev pub IsEither : List (List ℕ) → List (List ℕ) → List ℕ → Type 0
IsEither before now image = (batches_in image ≡ Some before) ⊎ (batches_in image ≡ Some now)

-- All that a read gives is on the disk, at rest with these batches.
pub record IsCommitted (home : Home) (gate : ℕ) (kept : List (List ℕ)) (told : Option (List ℕ)) (left : List ℕ → Type 0) : Type 0 where
  pub now : List ℕ
  pub is_told : told ≡ Some now
  pub durable : Only now left
  pub rest : IsAtRest home gate kept now
