-- What a linear program asks, and what shows that nothing meets it.
use Rattle.std.specs.Prelude.{◌≡◌, ℕ, ◌*◌, ℤ, pos, ◌*ℤ◌, ◌≤ℤ◌, ◌<ℤ◌, List, [], ◌∷◌, length, map}
use Rattle.std.specs.Prelude.{All}
use Rattle.fraction_lp.specs.Dictionary.{Row}
use Rattle.fraction_lp.specs.declared.answer.LpAnswer.{LpAnswer}
use Rattle.fraction_lp.specs.declared.answer.LpAnswer.TheVariants.{Point, Infeasible, Overflow, Spent, Memory}
use Rattle.fraction_lp.specs.Ratio.{Ratio, zero_ratio, sum, product}
use Rattle.fraction_lp.specs.Dictionary.{Program}

-- numbers times numbers, added up
abbrev pub dot : List Ratio → List Ratio → Ratio
dot [] ys = zero_ratio
dot (x ∷ xs) [] = zero_ratio
dot (x ∷ xs) (y ∷ ys) = sum (product x y) (dot xs ys)

abbrev pub IsNotNegative : Ratio → Type 0
IsNotNegative x = pos 0 ≤ℤ x.top

abbrev pub IsNegative : Ratio → Type 0
IsNegative x = x.top <ℤ pos 0

abbrev pub IsAtMost : Ratio → Ratio → Type 0
IsAtMost x y = (x.top *ℤ pos y.bottom) ≤ℤ (y.top *ℤ pos x.bottom)

-- a row times the point is at most its bound
abbrev pub RowHolds : List Ratio → Row → Type 0
RowHolds xs row = IsAtMost (dot row.coefficients xs) row.bound

-- a number for each unknown, none negative, at which every row holds
pub record IsFeasible (p : Program) (xs : List Ratio) : Type 0 where
  pub one_each : length xs ≡ p.unknowns
  pub not_negative : All IsNotNegative xs
  pub rows_hold : All (RowHolds xs) p.rows

-- ---- Farkas' lemma: multipliers that no feasible point allows

abbrev pub added : List Ratio → List Ratio → List Ratio
added [] ys = ys
added (x ∷ xs) [] = x ∷ xs
added (x ∷ xs) (y ∷ ys) = sum x y ∷ added xs ys

-- the rows, each times its multiplier, added up
abbrev pub combined : List Ratio → List Row → List Ratio
combined [] rows = []
combined (y ∷ ys) [] = []
combined (y ∷ ys) (row ∷ rows) = added (map (product y) row.coefficients) (combined ys rows)

-- a multiplier a row, none negative; the rows times them have no negative coefficient, and the bounds times them
-- are below 0
pub record IsCertificate (p : Program) (ys : List Ratio) : Type 0 where
  pub one_each : length ys ≡ length p.rows
  pub not_negative : All IsNotNegative ys
  pub rows_not_negative : All IsNotNegative (combined ys p.rows)
  pub bounds_negative : IsNegative (dot ys (map (λ row. row.bound) p.rows))

-- what each end gives
abbrev pub IsJust : Program → LpAnswer → Type 0
IsJust p (Point xs) = IsFeasible p xs
IsJust p (Infeasible ys) = IsCertificate p ys
IsJust p (Overflow made) = Unit {0}
IsJust p (Spent made) = made ≡ 1000
IsJust p Memory = Unit {0}
