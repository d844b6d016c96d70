-- Ranges that begin after 0.
use Rattle.std.proofs.Common.{◌≡◌, ℕ, suc, ◌+◌, ◌-◌, ◌≤◌, [], ◌∷◌, ◌++◌, refl, arith}
use Rattle.rollout_rules.specs.Sums.{list_below}

-- a range that begins after 0, with one element more
pub list_below-next : {A : Type 0} (begin n : ℕ) (f : ℕ → A) → begin ≤ n → list_below (n + 1 - begin) (λ j. f (begin + j)) ≡ list_below (n - begin) (λ j. f (begin + j)) ++ f n ∷ []
list_below-next begin n f le =
    let more : n + 1 - begin ≡ suc (n - begin) = omega arith in
    let there : begin + (n - begin) ≡ n = omega arith in
    rw (more, there) refl
