-- Counting round a ring of n switches.
use Rattle.std.proofs.Common.{◌≡◌, ℕ, ◌+◌, ◌-◌, ◌*◌, ◌/◌, ◌%◌, ◌<◌, ◌≤◌, sym, ap, ◌∙◌, inl, inr, arith}
use Rattle.std.proofs.Math.Nat.{add-mod_right, le_of_mul-le-mul_right, mod-add-mod, mod-eq_of_lt, mul-le-mul_right}
use Rattle.std.proofs.lemmas.Bool.{cases_lt}
use Rattle.case_gen.specs.Rings.{walked}

-- once past the last switch
past_once : (x n : ℕ) → n ≤ x → x < 2 * n → x % n + n ≡ x
past_once x n past lt =
    let e : x - n + n ≡ x = omega arith in
    let is : x % n ≡ x - n = ap (λ y. y % n) (sym e) ∙ add-mod_right (x - n) n ∙ mod-eq_of_lt (omega arith) in
    omega arith

-- less than once round, different ways lead to different switches
pub apart : (n a i j : ℕ) → a < n → i < n → j < n → (a + i) % n ≡ (a + j) % n → i ≡ j
apart n a i j a_in i_in j_in e = elim (cases_lt (a + i) n) as (λ _. i ≡ j) [
  | inl low_i ↦ elim (cases_lt (a + j) n) as (λ _. i ≡ j) [
    | inl low_j ↦ omega (arith, mod-eq_of_lt {n = a + i} {m = n} low_i, mod-eq_of_lt {n = a + j} {m = n} low_j)
    | inr high_j ↦ omega (arith, mod-eq_of_lt {n = a + i} {m = n} low_i, past_once (a + j) n high_j (omega arith))
  ]
  | inr high_i ↦ elim (cases_lt (a + j) n) as (λ _. i ≡ j) [
    | inl low_j ↦ omega (arith, past_once (a + i) n high_i (omega arith), mod-eq_of_lt {n = a + j} {m = n} low_j)
    | inr high_j ↦ omega (arith, past_once (a + i) n high_i (omega arith), past_once (a + j) n high_j (omega arith))
  ]
]

-- no two links of a ring have the same ends
pub same_link : (n k l : ℕ) → 3 ≤ n → k < 2 * n → l < 2 * n → k / 2 ≡ l / 2 → (k / 2 + 1 + k % 2) % n ≡ (l / 2 + 1 + l % 2) % n → k ≡ l
same_link n k l three k_in l_in half to =
    let k_at : k / 2 + 1 + k % 2 ≡ l / 2 + (1 + k % 2) = omega arith in
    let l_at : l / 2 + 1 + l % 2 ≡ l / 2 + (1 + l % 2) = omega arith in
    let same : 1 + k % 2 ≡ 1 + l % 2 = apart n (l / 2) (1 + k % 2) (1 + l % 2) (omega arith) (omega arith) (omega arith) (ap (λ x. x % n) (sym k_at) ∙ to ∙ ap (λ x. x % n) l_at) in
    omega arith

-- a walk, and its next switch
pub next_switch : (n start step j : ℕ) → walked n start step (j + 1) ≡ (walked n start step j + step) % n
next_switch n start step j =
    let more : (j + 1) * step ≡ j * step + step = grind arith in
    let on : start + (j + 1) * step ≡ start + j * step + step = omega arith in
    ap (λ x. x % n) on ∙ sym (mod-add-mod (start + j * step) n step)

-- a walk that goes less than once round passes no switch twice
pub walk_once : (n start step count i j : ℕ) → start < n → 0 < step → count * step < n → i ≤ count → j ≤ count → walked n start step i ≡ walked n start step j → i ≡ j
walk_once n start step count i j starts some short i_in j_in e =
    let i_on : i * step ≤ count * step = mul-le-mul_right step i_in in
    let j_on : j * step ≤ count * step = mul-le-mul_right step j_in in
    let same : i * step ≡ j * step = apart n start (i * step) (j * step) starts (omega arith) (omega arith) e in
    let up : i ≤ j = le_of_mul-le-mul_right {k = step} (omega arith) some in
    let down : j ≤ i = le_of_mul-le-mul_right {k = step} (omega arith) some in
    omega arith
