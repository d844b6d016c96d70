-- How an agent's file stands while it is written anew.
use Rattle.std.specs.Prelude.{◌≡◌, ℕ, ◌+◌, ◌<◌, ◌≤◌, ◌^◌, Bool, not, List, ◌∷◌, ◌++◌, length, drop, if◌then◌else◌}
use Rattle.agent_state.specs.Batches.{batch_body, open_gate}
use Rattle.agent_state.specs.Images.{first_start, start_at}
use Rattle.agent_state.specs.States.{Home, IsAtRest}

-- the other number
abbrev pub other_of : Bool → Bool
other_of second = not second

-- the byte by which this number is the one that doesn't count
abbrev pub side_byte : Bool → ℕ
side_byte second = if second then 0 else 1

-- the home of the new part, and the gate after its batch
abbrev pub new_home : Home → ℕ → Home
new_home home to = record { second = other_of home.second; start = to }

abbrev pub new_gate : ℕ → List ℕ → ℕ
new_gate to batch = to + 5 + length batch

-- Beside the live part, which is at rest, the new one stands, with this one batch.
pub record IsLaid (home : Home) (gate : ℕ) (kept : List (List ℕ)) (to : ℕ) (batch image : List ℕ) : Type 0 where
  pub rest : IsAtRest home gate kept image
  pub more : List ℕ
  pub laid : drop to image ≡ open_gate ∷ (batch_body batch ++ 0 ∷ more)
  pub few : length batch < 2 ^ 32
  pub low : first_start ≤ to

-- and the number that doesn't count names it
pub record IsNamed (home : Home) (gate : ℕ) (kept : List (List ℕ)) (to : ℕ) (batch image : List ℕ) : Type 0 where
  pub laid : IsLaid home gate kept to batch image
  pub named : start_at (other_of home.second) image ≡ to
