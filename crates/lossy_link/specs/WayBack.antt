-- The bytes of the answers that came back to a port.
use Rattle.std.specs.Prelude.{ℕ, ◌++◌, List, take, drop}

-- the bytes that were heard, and those that are there to be heard next
pub record Back : Type 0 where
  pub heard : List ℕ
  pub due : List ℕ

-- more bytes are there
abbrev pub with_due : Back → List ℕ → Back
with_due b bytes = record { heard = b.heard; due = b.due ++ bytes }

-- so many of the bytes that are there were heard
abbrev pub after_hearing : Back → ℕ → Back
after_hearing b n = record { heard = b.heard ++ take n b.due; due = drop n b.due }
