-- A journal that is read while its controller appends to it. The reader takes byte after byte, in order of offset and without a lock, so that what it has
-- read is of many moments: each byte is the one that stood there when it was read.
use Rattle.std.specs.Prelude.{◌≡◌, ◌⊎◌, ⊤, ℕ, ◌+◌, ◌<◌, ◌≤◌, List, [], ◌∷◌, length, take}
use Rattle.disk_model.specs.Numbers.{byte_at}
use Rattle.intent_journal.specs.States.{Home, IsAtRest}

-- what stood on the disk at a moment, and the gate after the list for which it stands
pub record Moment : Type 0 where
  pub image : List ℕ
  pub gate : ℕ

-- The controller has gone on: the list ends at the same gate or a further one, what stood before the earlier gate stands there still, and after its gate
-- stands anything.
pub record HasGoneOn (home : Home) (before now : Moment) : Type 0 where
  pub further : before.gate ≤ now.gate
  pub same : take before.gate now.image ≡ take before.gate before.image
  pub rest : IsAtRest home now.gate now.image

-- these moments follow one another, from this one on
abbrev pub Follow : Home → Moment → List Moment → Type 0
Follow home first [] = ⊤
Follow home first (next ∷ later) = HasGoneOn home first next × Follow home next later

-- What a journal was at these moments, one after the other, while it stayed in the part that this home names.
abbrev pub AreMoments : Home → List Moment → Type 0
AreMoments home [] = ⊤
AreMoments home (first ∷ later) = IsAtRest home first.gate first.image × Follow home first later

-- From this place on these bytes were read in turn, each at the next of these moments, and at the last of them there were no more.
abbrev pub AreReadFrom : ℕ → List Moment → List ℕ → Type 0
AreReadFrom at [] bytes = ⊥
AreReadFrom at (now ∷ later) [] = (length now.image ≤ at) × (later ≡ [])
AreReadFrom at (now ∷ later) (byte ∷ bytes) = (at < length now.image) × (byte ≡ byte_at at now.image) × AreReadFrom (at + 1) later bytes

-- this held at one of these moments of what stood there
abbrev pub HeldOnce : (List ℕ → Type 0) → List Moment → Type 0
HeldOnce holds [] = ⊥
HeldOnce holds (now ∷ later) = holds now.image ⊎ HeldOnce holds later
