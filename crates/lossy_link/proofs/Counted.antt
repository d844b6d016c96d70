-- What is told of a count that rose.
use Rattle.std.proofs.Common.{◌≡◌, ℕ, ◌+◌, ◌-◌, ◌<◌, ◌≤◌, ◌^◌, nat_lt, true, Option, Some, ap, arith, inl, inr, lt-ltb}
use Rattle.std.proofs.lemmas.Bool.{cases_lt, cond-true, cond-false, le-ltb}
use Rattle.wan_edge.specs.FailingTurns.{one_more}
use Rattle.wan_edge.specs.Ports.{IsOneMore}
use Rattle.lossy_link.specs.Counting.{Counts, one_quiet_more, told_quiet}

some : ℕ → Option ℕ
some n = Some n

rises : (q : ℕ) → q < 2 ^ 64 - 1 → one_more q ≡ q + 1
rises q small = cond-true _ _ _ (lt-ltb q (2 ^ 64 - 1) small)

stays : (q : ℕ) → 2 ^ 64 - 1 ≤ q → one_more q ≡ q
stays q large = cond-false _ _ _ (le-ltb q (2 ^ 64 - 1) large)

late : (q : ℕ) → 2 ^ 63 - 1 ≤ q → 2 ^ 63 ≤ one_more q
late q large =
    elim (cases_lt q (2 ^ 64 - 1)) [
      | inl lt ↦ omega (arith, rises q lt)
      | inr ge ↦ omega (arith, stays q ge)
    ]

-- one hear more that gave nothing is one more where it is told
pub quiet_told : (c : Counts) → IsOneMore (told_quiet c) (told_quiet (one_quiet_more c))
unfolding some
quiet_told c =
    let q = c.quiet in
    elim (cases_lt q (2 ^ 63 - 1)) [
      | inl lt ↦
          let up = rises q (omega arith) in
          let now : nat_lt q (2 ^ 63) ≡ true = lt-ltb q (2 ^ 63) (omega arith) in
          let later : nat_lt (one_more q) (2 ^ 63) ≡ true = lt-ltb (one_more q) (2 ^ 63) (omega (arith, up)) in
          rw (later, now) (omega (arith, up), ap some (omega (arith, up)))
      | inr ge ↦ rw (le-ltb (one_more q) (2 ^ 63) (late q ge)) tt
    ]
