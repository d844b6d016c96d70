-- Multipliers tried on the rows of a program: for each unknown, and for the bounds, the entries times the multipliers
-- are added up from 0, row by row, by calls that stop where a number doesn't fit.
use Rattle.std.specs.Prelude.{ℕ, zero, suc, ◌<◌, Bool, true, false, not, ◌&&◌, ◌==◌, List, [], length, slice_index_or, Option, Some, None, IsSome}
use Rattle.fraction_lp.specs.declared.column.Column.{Column}
use Rattle.fraction_lp.specs.declared.column.Column.TheVariants.{Unknown, Bounds}
use Rattle.fraction_lp.specs.Ratio.{Ratio, zero_ratio, is_below_zero}
use Rattle.fraction_lp.specs.Dictionary.{Row, Program, plus_times}

-- whether the test holds of each number below n
abbrev pub each_below : ℕ → (ℕ → Bool) → Bool
each_below zero test = true
each_below (suc n) test = each_below n test && test n

abbrev pub no_row : Row
no_row = record { coefficients = []; bound = zero_ratio }

-- what a row has for an unknown, or its bound
abbrev pub entry_in : Column → Row → Ratio
entry_in (Unknown u) row = slice_index_or row.coefficients u zero_ratio
entry_in Bounds row = row.bound

abbrev pub entry_at : Column → List Row → ℕ → Ratio
entry_at column rows i = entry_in column (slice_index_or rows i no_row)

abbrev pub multiplier_at : List Ratio → ℕ → Ratio
multiplier_at ys i = slice_index_or ys i zero_ratio

-- a product more, where what was added before is there
abbrev pub plus_product : Option Ratio → Ratio → Ratio → Option Ratio
plus_product None y a = None
plus_product (Some x) y a = plus_times x y a

-- y 0 times a 0, .. , y (n - 1) times a (n - 1), added up from 0
abbrev pub added_to : ℕ → (ℕ → Ratio) → (ℕ → Ratio) → Option Ratio
added_to zero y a = Some zero_ratio
added_to (suc n) y a = plus_product (added_to n y a) (y n) (a n)

abbrev pub column_sum : Column → List Row → List Ratio → Option Ratio
column_sum column rows ys = added_to (length rows) (multiplier_at ys) (entry_at column rows)

-- whether a sum was formed and isn't negative, and whether it was formed and is
abbrev pub is_formed_not_below : Option Ratio → Bool
is_formed_not_below None = false
is_formed_not_below (Some x) = not (is_below_zero x)

abbrev pub is_formed_below : Option Ratio → Bool
is_formed_below None = false
is_formed_below (Some x) = is_below_zero x

abbrev pub multiplier_passes : List Ratio → ℕ → Bool
multiplier_passes ys i = not (is_below_zero (multiplier_at ys i))

abbrev pub unknown_passes : List Row → List Ratio → ℕ → Bool
unknown_passes rows ys u = is_formed_not_below (column_sum (Unknown u) rows ys)

-- Whether multipliers, one a row, are found to exclude every point: none of them is negative, no unknown's sum is, and
-- that of the bounds is.
abbrev pub excludes : Program → List Ratio → Bool
excludes p ys =
    (length ys == length p.rows)
    && each_below (length ys) (multiplier_passes ys)
    && each_below p.unknowns (unknown_passes p.rows ys)
    && is_formed_below (column_sum Bounds p.rows ys)

-- each of these sums is formed: no number on the way leaves the type
pub record AreFormed (p : Program) (ys : List Ratio) : Type 0 where
  pub unknowns : (u : ℕ) → u < p.unknowns → IsSome (column_sum (Unknown u) p.rows ys)
  pub bounds : IsSome (column_sum Bounds p.rows ys)
