-- What a limit's row comes to at a point with units.
use Rattle.std.proofs.Common.{◌≡◌, ℕ, zero, suc, ◌+◌, ◌*◌, ◌<◌, ◌≤◌, Bool, true, false, pos, List, [], ◌∷◌, length, drop, if◌then◌else◌, subst, ap, ◌∙◌, sym, refl, arith}
use Rattle.std.proofs.Math.Nat.{mul-le-mul_right}
use Rattle.std.proofs.Math.Seq.{drop-cons}
use Rattle.std.proofs.lemmas.List.{drop-drop}
use Rattle.rollout_rules.specs.Sums.{sum_below, count_below}
use Rattle.rollout_rules.specs.Wan.{Problem}
use Rattle.rollout_rules.proofs.Below.{sum_below-same, sum_below-up}
use Rattle.fraction_lp.specs.Ratio.{Ratio, ratio, zero_ratio}
use Rattle.fraction_lp.specs.Program.{dot}
use Rattle.fraction_lp.proofs.Arithmetic.{Is}
use Rattle.step_lp.specs.declared.limit.Limit.{Limit}
use Rattle.step_lp.specs.Program.{used_at, used_to, used_tunnels, used_count, blocks, is_added, is_taken, row_of}
use Rattle.step_lp.specs.Moves.{place_of, number_from, HasUnits}
use Rattle.step_lp.proofs.Sizes.{length-used_to, length-used_tunnels}
use Rattle.step_lp.proofs.Sums.{sum_over, sum_over-used}
use Rattle.step_lp.proofs.Tellings.{plus_part, minus_part, Stand, Stand-append, told_blocks, told_same}

-- ---- where a number stands

pub place-below : (p : Problem) (t : ℕ) → t < length p.tunnels → used_at p t ≡ true → place_of p t < used_count p
place-below p t lt used =
    let up : count_below (suc t) (used_at p) ≤ used_count p = sum_below-up (suc t) (length p.tunnels) (λ k. if used_at p k then 1 else 0) lt in
    let one : count_below (suc t) (used_at p) ≡ place_of p t + 1 = rw used refl in
    omega arith

pub one_more_times : (b u : ℕ) → (b + 1) * u ≡ b * u + u
one_more_times b u = omega arith

pub number-inside : (p : Problem) (m b t n : ℕ) → b < m → t < length p.tunnels → used_at p t ≡ true → n ≡ m * used_count p → b * used_count p + place_of p t < n
number-inside p m b t n low lt used e =
    let next : (b + 1) * used_count p ≤ m * used_count p = mul-le-mul_right (used_count p) (omega arith) in
    let spread : (b + 1) * used_count p ≡ b * used_count p + used_count p = one_more_times b (used_count p) in
    omega (arith, place-below p t lt used)

stand_to : (p : Problem) (scale first m : ℕ) (n : ℕ → ℕ) (xs : List Ratio) → m ≤ length p.tunnels →
    ((t : ℕ) → t < length p.tunnels → used_at p t ≡ true → number_from p xs first t ≡ ratio (pos (n t)) scale) →
    ((t : ℕ) → t < length p.tunnels → used_at p t ≡ true → first + place_of p t < length xs) →
    Stand scale n (used_to p m) (drop first xs)
stand_to p scale first zero n xs le each room = tt
stand_to p scale first (suc m) n xs le each room =
    Stand-append scale n (used_to p m) (if used_at p m then m ∷ [] else []) (drop first xs)
    (stand_to p scale first m n xs (omega arith) each room) (by_test (used_at p m) refl)
  where
    here : drop (length (used_to p m)) (drop first xs) ≡ drop (first + place_of p m) xs
    here = drop-drop (length (used_to p m)) first xs ∙ ap (λ k. drop (first + k) xs) (length-used_to p m)

    by_test : (b : Bool) → used_at p m ≡ b → Stand scale n (if b then m ∷ [] else []) (drop (length (used_to p m)) (drop first xs))
    by_test true e =
        subst (λ (ys : List Ratio). Stand scale n (m ∷ []) ys)
        (sym (here ∙ drop-cons xs (first + place_of p m) zero_ratio (room m (omega arith) e))) (each m (omega arith) e, tt)
    by_test false e = tt

pub blocks_stand : (p : Problem) (q scale : ℕ) (n : ℕ → ℕ → ℕ) (xs : List Ratio) → HasUnits p q scale n xs →
    (b : ℕ) → b < blocks q → Stand scale (n b) (used_tunnels p) (drop (b * used_count p) xs)
blocks_stand p q scale n xs units b low =
    stand_to p scale (b * used_count p) (length p.tunnels) (n b) xs (omega arith) (λ t lt used. units.each b t low lt used)
    (λ t lt used. number-inside p (blocks q) b t (length xs) low lt used units.one_each)

-- ---- what is added and taken away in a row

abbrev pub added_units : Problem → ℕ → (ℕ → ℕ → ℕ) → Limit → ℕ
added_units p q n limit = sum_below (blocks q) (λ b. sum_below (length p.tunnels) (λ t. plus_part (is_added p q limit b t) (n b t)))

abbrev pub taken_units : Problem → ℕ → (ℕ → ℕ → ℕ) → Limit → ℕ
taken_units p q n limit = sum_below (blocks q) (λ b. sum_below (length p.tunnels) (λ t. minus_part (is_added p q limit b t) (is_taken p q limit b t) (n b t)))

no_part : (added taken : Bool) → minus_part added taken 0 ≡ 0
no_part true taken = refl
no_part false true = refl
no_part false false = refl

no_plus : (added : Bool) → plus_part added 0 ≡ 0
no_plus true = refl
no_plus false = refl

pub told_row : (p : Problem) (q scale : ℕ) (n : ℕ → ℕ → ℕ) (xs : List Ratio) (limit : Limit) → HasUnits p q scale n xs →
    Is (dot (row_of p q limit).coefficients xs) (added_units p q n limit) (taken_units p q n limit) scale
told_row p q scale n xs limit units =
    told_same (dot (row_of p q limit).coefficients xs)
    (sum_below (blocks q) (λ b. sum_over (used_tunnels p) (λ t. plus_part (is_added p q limit b t) (n b t))))
    (sum_below (blocks q) (λ b. sum_over (used_tunnels p) (λ t. minus_part (is_added p q limit b t) (is_taken p q limit b t) (n b t))))
    (added_units p q n limit) (taken_units p q n limit) scale
    (told_blocks (blocks q) (used_count p) (used_tunnels p) (λ b t. is_added p q limit b t) (λ b t. is_taken p q limit b t) n scale xs units.some (length-used_tunnels p)
    (blocks_stand p q scale n xs units))
    (sum_below-same (blocks q) (λ b. sum_over (used_tunnels p) (λ t. plus_part (is_added p q limit b t) (n b t))) (λ b. sum_below (length p.tunnels) (λ t. plus_part (is_added p q limit b t) (n b t)))
    (λ b low. sum_over-used p (length p.tunnels) (λ t. plus_part (is_added p q limit b t) (n b t)) (λ t e. ap (plus_part (is_added p q limit b t)) (units.idle b t e) ∙ no_plus (is_added p q limit b t))))
    (sum_below-same (blocks q) (λ b. sum_over (used_tunnels p) (λ t. minus_part (is_added p q limit b t) (is_taken p q limit b t) (n b t))) (λ b. sum_below (length p.tunnels) (λ t. minus_part (is_added p q limit b t) (is_taken p q limit b t) (n b t)))
    (λ b low. sum_over-used p (length p.tunnels) (λ t. minus_part (is_added p q limit b t) (is_taken p q limit b t) (n b t)) (λ t e. ap (minus_part (is_added p q limit b t) (is_taken p q limit b t)) (units.idle b t e) ∙ no_part (is_added p q limit b t) (is_taken p q limit b t))))
