-- Farkas' lemma: multipliers whose rows are not negative and whose bounds are below 0 allow no feasible point.
use Rattle.std.proofs.Common.{◌≡◌, ℕ, ◌+◌, ◌*◌, ◌<◌, ◌≤◌, List, [], ◌∷◌, length, map, ap, ◌∙◌, sym, subst, refl, arith}
use Rattle.std.specs.Prelude.{All}
use Rattle.std.proofs.lemmas.Int.{ints}
use Rattle.std.proofs.lemmas.List.Elements.{All-head, All-tail}
use Rattle.fraction_lp.specs.Dictionary.{Row}
use Rattle.fraction_lp.specs.Ratio.{Ratio, sum, product, negated, zero_ratio}
use Rattle.fraction_lp.specs.Dictionary.{Program}
use Rattle.fraction_lp.specs.Program.{IsNotNegative, IsNegative, RowHolds, IsFeasible, IsCertificate, dot, combined}
use Rattle.fraction_lp.proofs.Arithmetic.{Told, itself, summed, turned_round, alike}
use Rattle.fraction_lp.proofs.Sums.{slack_at, dot-slacks}
use Rattle.fraction_lp.proofs.Signs.{sum_not_negative, product_not_negative, zero_not_negative, slack_from_at_most}

dot_not_negative : (xs ys : List Ratio) → All IsNotNegative xs → All IsNotNegative ys → IsNotNegative (dot xs ys)
dot_not_negative [] ys h k = zero_not_negative
dot_not_negative (x ∷ xs) [] h k = zero_not_negative
dot_not_negative (x ∷ xs) (y ∷ ys) h k =
    sum_not_negative (product x y) (dot xs ys)
    (product_not_negative x y (All-head IsNotNegative x xs h) (All-head IsNotNegative y ys k))
    (dot_not_negative xs ys (All-tail IsNotNegative x xs h) (All-tail IsNotNegative y ys k))

slacks_not_negative : (xs ys : List Ratio) (rows : List Row) → All IsNotNegative ys → All (RowHolds xs) rows → IsNotNegative (dot ys (map (slack_at xs) rows))
slacks_not_negative xs [] rows h k = zero_not_negative
slacks_not_negative xs (y ∷ ys) [] h k = zero_not_negative
slacks_not_negative xs (y ∷ ys) (row ∷ rows) h k =
    sum_not_negative (product y (slack_at xs row)) (dot ys (map (slack_at xs) rows))
    (product_not_negative y (slack_at xs row) (All-head IsNotNegative y ys h)
    (slack_from_at_most (dot row.coefficients xs) row.bound (All-head (RowHolds xs) row rows k)))
    (slacks_not_negative xs ys rows (All-tail IsNotNegative y ys h) (All-tail (RowHolds xs) row rows k))

together : (b c : Ratio) → sum (sum b (negated c)) c ≡ b
together b c = alike (summed (summed (itself b) (turned_round (itself c))) (itself c)) (itself b) (omega arith)

clash : (x : Ratio) → IsNotNegative x → IsNegative x → ⊥
clash x h k = omega (arith, ints, h, k)

pub no_feasible_point : (p : Program) (xs ys : List Ratio) → IsCertificate p ys → IsFeasible p xs → ⊥
no_feasible_point p xs ys c f =
    let bounds : Ratio = dot ys (map (λ row. row.bound) p.rows) in
    let rows : Ratio = dot (combined ys p.rows) xs in
    let left : IsNotNegative (sum bounds (negated rows)) =
    subst IsNotNegative (dot-slacks xs ys p.rows) (slacks_not_negative xs ys p.rows c.not_negative f.rows_hold) in
    clash bounds
    (subst IsNotNegative (together bounds rows)
    (sum_not_negative (sum bounds (negated rows)) rows left (dot_not_negative (combined ys p.rows) xs c.rows_not_negative f.not_negative)))
    c.bounds_negative
