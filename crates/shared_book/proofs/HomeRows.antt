-- The row of homes, and reading it.
use Rattle.std.proofs.Common.{◌≡◌, ℕ, zero, suc, ◌<◌, ◌≤◌, Bool, true, false, List, [], ◌∷◌, length, get_or, Option, None, if◌then◌else◌, nat_lt, refl, ap, ◌∙◌, arith}
use Rattle.std.proofs.lemmas.Bool.{ltb-true, ltb-false}
use Rattle.rollout_rules.specs.Wan.{Problem}
use Rattle.rollout_rules.specs.Items.{item_count}
use Rattle.rollout_rules.proofs.Rows.{list_below-at, list_below-length}
use Rattle.shared_book.specs.Homes.{home_at, home_if_any, homes_of}

past-end : {A : Type 0} (xs : List A) (k : ℕ) (d : A) → length xs ≤ k → get_or xs k d ≡ d
past-end [] k d le = refl
past-end (x ∷ xs) zero d le = absurd (omega arith)
past-end (x ∷ xs) (suc k) d le = past-end xs k d (omega arith)

pub home-read : (p : Problem) (homes : List (Option ℕ)) (n : ℕ) → homes ≡ homes_of p → n < item_count p → get_or homes n None ≡ home_at p n
home-read p homes n same lt = ap (λ hs. get_or hs n None) same ∙ list_below-at (item_count p) (home_at p) n None lt

home-by : (p : Problem) (homes : List (Option ℕ)) (n : ℕ) (there : Bool) → homes ≡ homes_of p → nat_lt n (item_count p) ≡ there → get_or homes n None ≡ (if there then home_at p n else None)
home-by p homes n true same is = home-read p homes n same (ltb-true n (item_count p) is)
home-by p homes n false same is = past-end homes n None (omega (arith, ltb-false n (item_count p) is, ap (λ (hs : List (Option ℕ)). length hs) same, list_below-length (item_count p) (home_at p)))

-- what is read of an item is its home, if there is one
pub home-is : (p : Problem) (homes : List (Option ℕ)) (n : ℕ) → homes ≡ homes_of p → get_or homes n None ≡ home_if_any p n
home-is p homes n same = home-by p homes n (nat_lt n (item_count p)) same refl
