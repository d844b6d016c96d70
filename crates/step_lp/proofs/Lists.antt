-- Lists joined below a bound: how long they are, and what holds of all their elements.
use Rattle.std.proofs.Common.{◌≡◌, ℕ, zero, suc, ◌+◌, ◌*◌, ◌<◌, List, [], ◌∷◌, ◌++◌, map, length, inl, inr, ap, ◌∙◌, subst, refl, arith}
use Rattle.std.specs.Prelude.{All}
use Rattle.std.proofs.lemmas.List.{length-append, length-map, map-append, get_or-map}
use Rattle.std.proofs.lemmas.List.Elements.{All-append}
use Rattle.std.proofs.lemmas.Bool.{cases_lt}
use Rattle.lists.proofs.Elements.{All-left, All-right}
use Rattle.rollout_rules.specs.Sums.{sum_below, list_below}
use Rattle.step_lp.specs.Program.{joined_below}

pub length-joined_below : {A : Type 0} (n : ℕ) (f : ℕ → List A) → length (joined_below n f) ≡ sum_below n (λ k. length (f k))
length-joined_below zero f = refl
length-joined_below (suc n) f = length-append (joined_below n f) (f n) ∙ ap (λ k. k + length (f n)) (length-joined_below n f)

pub map-joined_below : {A B : Type 0} (g : A → B) (n : ℕ) (f : ℕ → List A) → map g (joined_below n f) ≡ joined_below n (λ k. map g (f k))
map-joined_below g zero f = refl
map-joined_below g (suc n) f = map-append g (joined_below n f) (f n) ∙ ap (λ xs. xs ++ map g (f n)) (map-joined_below g n f)

pub sum_below-times : (n k : ℕ) (f : ℕ → ℕ) → ((j : ℕ) → j < n → f j ≡ k) → sum_below n f ≡ n * k
sum_below-times zero k f h = omega arith
sum_below-times (suc n) k f h = omega (arith, sum_below-times n k f (λ j lt. h j (omega arith)), h n (omega arith))

pub All-none : {A : Type 0} (P : A → Type 0) → All P []
All-none P k d lt = absurd (omega arith)

pub All-one : {A : Type 0} (P : A → Type 0) (x : A) → P x → All P (x ∷ [])
All-one P x h zero d lt = h
All-one P x h (suc k) d lt = absurd (omega arith)

pub All-joined_below : {A : Type 0} (P : A → Type 0) (n : ℕ) (f : ℕ → List A) → ((k : ℕ) → k < n → All P (f k)) → All P (joined_below n f)
All-joined_below P zero f h = All-none P
All-joined_below P (suc n) f h =
    All-append P (joined_below n f) (f n) (All-joined_below P n f (λ k lt. h k (omega arith))) (h n (omega arith))

pub All-list_below : {A : Type 0} (P : A → Type 0) (n : ℕ) (f : ℕ → A) → ((k : ℕ) → k < n → P (f k)) → All P (list_below n f)
All-list_below P zero f h = All-none P
All-list_below P (suc n) f h =
    All-append P (list_below n f) (f n ∷ []) (All-list_below P n f (λ k lt. h k (omega arith))) (All-one P (f n) (h n (omega arith)))

-- ---- from a whole to its parts

pub All-unmapped : {A B : Type 0} (P : B → Type 0) (f : A → B) (xs : List A) → All P (map f xs) → All (λ x. P (f x)) xs
All-unmapped P f xs h k d lt = subst P (get_or-map f xs k d (f d) lt) (h k (f d) (omega (arith, length-map xs f)))

pub All-joined_below-at : {A : Type 0} (P : A → Type 0) (n : ℕ) (f : ℕ → List A) → All P (joined_below n f) → (k : ℕ) → k < n → All P (f k)
All-joined_below-at P zero f h k lt = absurd (omega arith)
All-joined_below-at P (suc n) f h k lt = elim (cases_lt k n) as (λ c. All P (f k)) [
  | inl below ↦ All-joined_below-at P n f (All-left P (joined_below n f) (f n) h) k below
  | inr above ↦ let at : k ≡ n = omega arith in rw at (All-right P (joined_below n f) (f n) h)
]

pub All-list_below-at : {A : Type 0} (P : A → Type 0) (n : ℕ) (f : ℕ → A) → All P (list_below n f) → (k : ℕ) → k < n → P (f k)
All-list_below-at P zero f h k lt = absurd (omega arith)
All-list_below-at P (suc n) f h k lt = elim (cases_lt k n) as (λ c. P (f k)) [
  | inl below ↦ All-list_below-at P n f (All-left P (list_below n f) (f n ∷ []) h) k below
  | inr above ↦ let at : k ≡ n = omega arith in rw at (All-right P (list_below n f) (f n ∷ []) h 0 (f n) (omega arith))
]
