-- The rates of a point in units of a scale.
use Rattle.std.proofs.Common.{◌≡◌, ℕ, suc, ◌+◌, ◌≤◌, Bool, true, false, List, [], ◌∷◌, ◌++◌, if◌then◌else◌, ap, ◌∙◌, refl, arith}
use Rattle.std.specs.Prelude.{slice_index_or}
use mir.Val.{bool_byte}
use Rattle.rollout_rules.specs.Sums.{list_below, count_below}
use Rattle.rollout_rules.specs.Wan.{Problem}
use Rattle.fraction_lp.specs.Ratio.{Ratio, zero_ratio}
use Rattle.step_lp.specs.Program.{used_at}
use Rattle.step_lp.specs.Moves.{number_from}
use Rattle.step_lp.specs.Points.{units_of, rate_from}

if_used : (scale : ℕ) (b : Bool) (x : Ratio) → (if b then units_of scale x else 0) ≡ units_of scale (if b then x else zero_ratio)
if_used scale true x = refl
if_used scale false x = omega arith

-- one tunnel more
pub row_more : (p : Problem) (scale first t place n : ℕ) (xs : List Ratio) (row new : List ℕ) →
    row ≡ list_below t (λ k. units_of scale (rate_from p xs first k)) → place ≡ first + count_below t (used_at p) →
    n ≡ (if used_at p t then units_of scale (slice_index_or xs place zero_ratio) else 0) → new ≡ row ++ n ∷ [] →
    new ≡ list_below (t + 1) (λ k. units_of scale (rate_from p xs first k))
row_more p scale first t place n xs row new rows at is added =
    let more : t + 1 ≡ suc t = omega arith in
    let here : n ≡ units_of scale (rate_from p xs first t) =
    is ∙ ap (λ (k : ℕ). if used_at p t then units_of scale (slice_index_or xs k zero_ratio) else 0) at ∙ if_used scale (used_at p t) (number_from p xs first t) in
    rw more (added ∙ ap (λ (ys : List ℕ). ys ++ n ∷ []) rows ∙ ap (λ (k : ℕ). list_below t (λ k. units_of scale (rate_from p xs first k)) ++ k ∷ []) here)

-- how many are used, one tunnel later
pub place_more : (p : Problem) (first t place one : ℕ) (used : Bool) → used ≡ used_at p t → one ≡ bool_byte used → place ≡ first + count_below t (used_at p) →
    place + one ≡ first + count_below (t + 1) (used_at p)
place_more p first t place one used is byte at =
    let more : t + 1 ≡ suc t = omega arith in
    let here : one ≡ (if used_at p t then 1 else 0) = byte ∙ as_number used ∙ ap (λ (b : Bool). if b then 1 else 0) is in
    rw more (omega arith)
  where
    as_number : (b : Bool) → bool_byte b ≡ (if b then 1 else 0)
    as_number true = refl
    as_number false = refl

pub place_most : (first t place one : ℕ) (used : Bool) → one ≡ bool_byte used → place ≤ first + t → place + one ≤ first + (t + 1)
place_most first t place one true byte at = omega arith
place_most first t place one false byte at = omega arith
