-- Words of the worked examples.
use Rattle.std.specs.Prelude.{ℕ, zero, suc}

-- both rates are 0 at the stage between; the first tunnel's top is 2 in the first step, and the second's in the second
abbrev pub resting : ℕ → ℕ → ℕ
resting zero t = 0
resting (suc zero) zero = 2
resting (suc zero) (suc t) = 0
resting (suc (suc b)) zero = 0
resting (suc (suc b)) (suc t) = 2

-- the same, with no top in the second step
abbrev pub lacking_a_top : ℕ → ℕ → ℕ
lacking_a_top zero t = 0
lacking_a_top (suc zero) zero = 2
lacking_a_top (suc zero) (suc t) = 0
lacking_a_top (suc (suc b)) t = 0

-- the first rate stays for a step more, so both tops of the second step are 2
abbrev pub overlapping : ℕ → ℕ → ℕ
overlapping zero zero = 2
overlapping zero (suc t) = 0
overlapping (suc zero) zero = 2
overlapping (suc zero) (suc t) = 0
overlapping (suc (suc b)) t = 2
