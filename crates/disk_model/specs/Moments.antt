-- What a crash may have left at a moment since another. A moment is a number that never falls, and what a crash since then may
-- have left only grows.
use Rattle.std.specs.Prelude.{◌⊎◌, ℕ, ◌≤◌, List}
use Rattle.disk_model.specs.Traces.{DiskTrace}

-- Time goes on: a crash since t may have left what it may have left before, and besides these images alone.
pub record Passes (before now : ℕ) (past since : ℕ → List ℕ → Type 0) (images : List ℕ → Type 0) : Type 0 where
  pub later : before ≤ now
  pub keeps : (t : ℕ) (c : List ℕ) → t ≤ before → past t c → since t c
  pub nothing_else : (t : ℕ) (c : List ℕ) → t ≤ before → since t c → past t c ⊎ images c

-- the same of what a disk tells before a call and after it
abbrev pub GoesOn : DiskTrace → DiskTrace → (List ℕ → Type 0) → Type 0
GoesOn before now images = Passes before.moment now.moment before.left_since now.left_since images

-- A crash at any moment from old to new leaves an image of which P holds; in a run that began before old, that or what was left before.
pub record LeavesOnly {D : Type 0} (trace : D → DiskTrace) (old new : D) (P : List ℕ → Type 0) : Type 0 where
  pub later : (trace old).moment ≤ (trace new).moment
  pub each : (c : List ℕ) → (trace new).left_since (trace old).moment c → P c
  pub before : (t : ℕ) (c : List ℕ) → t ≤ (trace old).moment → (trace new).left_since t c → (trace old).left_since t c ⊎ P c
