-- Counts of faults.
use Rattle.std.proofs.Common.{arith, inl, inr, ℕ, ◌≤◌}
use Rattle.wan_edge.specs.Streams.{Rose}

pub rose_since : (a b c : ℕ) → a ≤ b → Rose b c → Rose a c
rose_since a b c le (inl rose) = inl (omega (arith, le, rose))
rose_since a b c le (inr top) = inr top

pub rose_until : (a b c : ℕ) → Rose a b → b ≤ c → Rose a c
rose_until a b c (inl rose) le = inl (omega (arith, le, rose))
rose_until a b c (inr top) le = inr (omega (arith, le, top))
