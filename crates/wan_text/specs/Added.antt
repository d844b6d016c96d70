-- What becomes of a text to which a piece is added.
use Rattle.std.specs.Prelude.{◌≡◌, ℕ, List, ◌++◌, Result, Ok, Err}

-- the piece stands at its end, or for lack of memory nothing has changed
abbrev pub Adds : {A B : Type 0} → Result A B → List ℕ → List ℕ → List ℕ → Type 0
Adds (Ok a) before piece now = now ≡ before ++ piece
Adds (Err e) before piece now = now ≡ before
