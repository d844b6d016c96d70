-- What a row comes to at a point whose numbers are so many units of 1/scale.
use Rattle.std.proofs.Common.{◌≡◌, ℕ, zero, suc, ◌+◌, ◌*◌, ◌<◌, ◌≤◌, Bool, true, false, ℤ, pos, negsuc, List, [], ◌∷◌, ◌++◌, map, length, drop, if◌then◌else◌, subst, ap, ◌∙◌, sym, arith}
use Rattle.std.proofs.lemmas.List.{length-map}
use borrow.Author.Differences.{up, down}
use Rattle.rollout_rules.specs.Sums.{sum_below}
use Rattle.fraction_lp.specs.Ratio.{Ratio, ratio, zero_ratio, sum, product, negated}
use Rattle.fraction_lp.specs.Program.{dot, IsAtMost}
use Rattle.fraction_lp.proofs.Arithmetic.{Is, Told, told_as, ratio_means, is_sum, is_product, is_negated, sum_assoc}
use Rattle.fraction_lp.proofs.Sums.{zero-sum, dot-none}
use Rattle.fraction_lp.proofs.Signs.{told_up, up_told, at_most_from_slack, slack_from_at_most}
use Rattle.step_lp.specs.Program.{joined_below, whole, sign}
use Rattle.step_lp.proofs.Lists.{length-joined_below, sum_below-times}
use Rattle.step_lp.proofs.Sums.{sum_over}

-- ---- one coefficient times one number

abbrev pub plus_part : Bool → ℕ → ℕ
plus_part added n = if added then n else 0

abbrev pub minus_part : Bool → Bool → ℕ → ℕ
minus_part added taken n = if added then 0 else if taken then n else 0

told_sign : (x : Ratio) (n scale : ℕ) (added taken : Bool) → 0 < scale → Is x n 0 scale →
    Is (product (whole (sign added taken)) x) (plus_part added n) (minus_part added taken n) scale
told_sign x n scale true taken p is =
    told_as (product (whole (pos 1)) x) (1 * n + 0 * 0) (1 * 0 + 0 * n) (1 * scale) n 0 scale
    (is_product (whole (pos 1)) x 1 0 1 n 0 scale (ratio_means (pos 1) 1 (omega arith)) is) p (omega arith)
told_sign x n scale false true p is =
    told_as (product (whole (negsuc 0)) x) (0 * n + 1 * 0) (0 * 0 + 1 * n) (1 * scale) 0 n scale
    (is_product (whole (negsuc 0)) x 0 1 1 n 0 scale (ratio_means (negsuc 0) 1 (omega arith)) is) p (omega arith)
told_sign x n scale false false p is =
    told_as (product (whole (pos 0)) x) (0 * n + 0 * 0) (0 * 0 + 0 * n) (1 * scale) 0 0 scale
    (is_product (whole (pos 0)) x 0 0 1 n 0 scale (ratio_means (pos 0) 1 (omega arith)) is) p (omega arith)

told_sum : (x y : Ratio) (u d v e scale : ℕ) → 0 < scale → Is x u d scale → Is y v e scale → Is (sum x y) (u + v) (d + e) scale
told_sum x y u d v e scale p a b =
    told_as (sum x y) (u * scale + v * scale) (d * scale + e * scale) (scale * scale) (u + v) (d + e) scale (is_sum x y u d scale v e scale a b) p
    (spread u d v e scale)
  where
    spread : (u d v e s : ℕ) → (u * s + v * s) * s + (d + e) * (s * s) ≡ (u + v) * (s * s) + (d * s + e * s) * s
    spread u d v e s = omega arith

told_nothing : (scale : ℕ) → 0 < scale → Is zero_ratio 0 0 scale
told_nothing scale p = told_as zero_ratio 0 0 1 0 0 scale (ratio_means (pos 0) 1 (omega arith)) p (omega arith)

-- ---- a block

-- the numbers in front of a list are these units, one for each tunnel
abbrev pub Stand : ℕ → (ℕ → ℕ) → List ℕ → List Ratio → Type 0
Stand scale n [] ys = Unit {0}
Stand scale n (t ∷ ts) [] = ⊥
Stand scale n (t ∷ ts) (y ∷ ys) = (y ≡ ratio (pos (n t)) scale) × Stand scale n ts ys

pub Stand-append : (scale : ℕ) (n : ℕ → ℕ) (ts us : List ℕ) (ys : List Ratio) →
    Stand scale n ts ys → Stand scale n us (drop (length ts) ys) → Stand scale n (ts ++ us) ys
Stand-append scale n [] us ys a b = b
Stand-append scale n (t ∷ ts) us [] a b = absurd a
Stand-append scale n (t ∷ ts) us (y ∷ ys) a b = (a.0, Stand-append scale n ts us ys a.1 b)

told_block : (ts : List ℕ) (added taken : ℕ → Bool) (n : ℕ → ℕ) (scale : ℕ) (ys : List Ratio) → 0 < scale → Stand scale n ts ys →
    Is (dot (map (λ t. whole (sign (added t) (taken t))) ts) ys) (sum_over ts (λ t. plus_part (added t) (n t))) (sum_over ts (λ t. minus_part (added t) (taken t) (n t))) scale
told_block [] added taken n scale ys p h = told_nothing scale p
told_block (t ∷ ts) added taken n scale [] p h = absurd h
told_block (t ∷ ts) added taken n scale (y ∷ ys) p h =
    told_sum (product (whole (sign (added t) (taken t))) y) (dot (map (λ t. whole (sign (added t) (taken t))) ts) ys)
    (plus_part (added t) (n t)) (minus_part (added t) (taken t) (n t))
    (sum_over ts (λ t. plus_part (added t) (n t))) (sum_over ts (λ t. minus_part (added t) (taken t) (n t))) scale p
    (told_sign y (n t) scale (added t) (taken t) p (subst (λ (x : Ratio). Is x (n t) 0 scale) (sym h.0) (ratio_means (pos (n t)) scale p)))
    (told_block ts added taken n scale ys p h.1)

-- ---- all blocks

dot-append : (xs us ys : List Ratio) → dot (xs ++ us) ys ≡ sum (dot xs ys) (dot us (drop (length xs) ys))
dot-append [] us ys = sym (zero-sum (dot us ys))
dot-append (x ∷ xs) us [] = sym (zero-sum (dot us []) ∙ dot-none us)
dot-append (x ∷ xs) us (y ∷ ys) =
    ap (sum (product x y)) (dot-append xs us ys)
    ∙ sym (sum_assoc (product x y) (dot xs ys) (dot us (drop (length xs) ys)))

pub told_blocks : (m size : ℕ) (ts : List ℕ) (added taken : ℕ → ℕ → Bool) (n : ℕ → ℕ → ℕ) (scale : ℕ) (xs : List Ratio) → 0 < scale → length ts ≡ size →
    ((b : ℕ) → b < m → Stand scale (n b) ts (drop (b * size) xs)) →
    Is (dot (joined_below m (λ b. map (λ t. whole (sign (added b t) (taken b t))) ts)) xs)
    (sum_below m (λ b. sum_over ts (λ t. plus_part (added b t) (n b t)))) (sum_below m (λ b. sum_over ts (λ t. minus_part (added b t) (taken b t) (n b t)))) scale
told_blocks zero size ts added taken n scale xs p e h = told_nothing scale p
told_blocks (suc m) size ts added taken n scale xs p e h =
    let row : ℕ → List Ratio = λ b. map (λ t. whole (sign (added b t) (taken b t))) ts in
    let long : length (joined_below m row) ≡ m * size =
    length-joined_below m row ∙ sum_below-times m size (λ b. length (row b)) (λ b lt. length-map ts (λ t. whole (sign (added b t) (taken b t))) ∙ e) in
    subst (λ (x : Ratio). Is x (sum_below (suc m) (λ b. sum_over ts (λ t. plus_part (added b t) (n b t)))) (sum_below (suc m) (λ b. sum_over ts (λ t. minus_part (added b t) (taken b t) (n b t)))) scale)
    (sym (dot-append (joined_below m row) (row m) xs ∙ ap (λ k. sum (dot (joined_below m row) xs) (dot (row m) (drop k xs))) long))
    (told_sum (dot (joined_below m row) xs) (dot (row m) (drop (m * size) xs))
    (sum_below m (λ b. sum_over ts (λ t. plus_part (added b t) (n b t)))) (sum_below m (λ b. sum_over ts (λ t. minus_part (added b t) (taken b t) (n b t))))
    (sum_over ts (λ t. plus_part (added m t) (n m t))) (sum_over ts (λ t. minus_part (added m t) (taken m t) (n m t))) scale p
    (told_blocks m size ts added taken n scale xs p e (λ b lt. h b (omega arith)))
    (told_block ts (added m) (taken m) (n m) scale (drop (m * size) xs) p (h m (omega arith))))

pub told_same : (x : Ratio) (u d v e scale : ℕ) → Is x u d scale → u ≡ v → d ≡ e → Is x v e scale
told_same x u d v e scale is a b = subst (λ (k : ℕ). Is x v k scale) b (subst (λ (k : ℕ). Is x k d scale) a is)

-- ---- at most a whole number

abbrev slack_told : (x : Ratio) (z : ℤ) (u d scale : ℕ) → Is x u d scale → Told (sum (whole z) (negated x))
slack_told x z u d scale is = record {
  u = up z * scale + d * 1;
  d = down z * scale + u * 1;
  b = 1 * scale;
  is = is_sum (whole z) (negated x) (up z) (down z) 1 d u scale (ratio_means z 1 (omega arith)) (is_negated x u d scale is);
}

pub at_most_whole : (x : Ratio) (z : ℤ) (u d scale : ℕ) → Is x u d scale → u + down z * scale ≤ up z * scale + d → IsAtMost x (whole z)
at_most_whole x z u d scale is h = at_most_from_slack x (whole z) (up_told (slack_told x z u d scale is) (omega arith))

pub whole_at_least : (x : Ratio) (z : ℤ) (u d scale : ℕ) → Is x u d scale → IsAtMost x (whole z) → u + down z * scale ≤ up z * scale + d
whole_at_least x z u d scale is h =
    let parts : down z * scale + u * 1 ≤ up z * scale + d * 1 = told_up (slack_told x z u d scale is) (slack_from_at_most x (whole z) h) in
    omega arith
