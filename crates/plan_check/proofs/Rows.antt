-- Lists of what a function gives for each number below a bound.
use Rattle.std.proofs.Common.{◌≡◌, ℕ, ◌<◌, List, length, slice_index, sym, ◌∙◌, subst, arith}
use Rattle.std.proofs.lemmas.List.{ext_get_or}
use Rattle.rollout_rules.specs.Sums.{list_below}
use Rattle.rollout_rules.proofs.Rows.{list_below-length, list_below-at}

-- a list that has as many numbers, and each of them
pub list_below-from : (xs : List ℕ) (n : ℕ) (f : ℕ → ℕ) → length xs ≡ n → ((k : ℕ) → k < n → slice_index xs k ≡ f k) → xs ≡ list_below n f
list_below-from xs n f count each =
    ext_get_or 0 xs (list_below n f) (count ∙ sym (list_below-length n f))
    (λ k lt. let below : k < n = omega (arith, count) in each k below ∙ sym (list_below-at n f k 0 below))
