-- Truth values, and what is chosen by them.
use Rattle.std.proofs.Common.{Bool, Some, ap, arith, false, if◌then◌else◌, refl, true, ℕ, ◌&&◌, ◌==◌, ◌||◌, ◌≡◌, ◌≤◌}

pub and_regrouped_back : (a b c : Bool) → ((a && b) && c) ≡ (a && (b && c))
and_regrouped_back true b c = refl
and_regrouped_back false b c = refl

pub not_both : (b : Bool) → b ≡ true → b ≡ false → ⊥
not_both b e q = cc

pub if_false : {A : Type 0} (b : Bool) (x y : A) → b ≡ false → (if b then x else y) ≡ y
if_false b x y e = ap (λ (c : Bool). if c then x else y) e

pub if_true : {A : Type 0} (b : Bool) (x y : A) → b ≡ true → (if b then x else y) ≡ x
if_true b x y e = ap (λ (c : Bool). if c then x else y) e

pub and_regrouped : (a b c : Bool) → (a && (b && c)) ≡ ((a && b) && c)
and_regrouped true b c = refl
and_regrouped false b c = refl

pub counted_if : (b : Bool) (x : ℕ) → b ≡ true → (if b then x else 0) ≡ x
counted_if b x e = rw e refl

pub uncounted_if : (b : Bool) (x : ℕ) → b ≡ false → (if b then x else 0) ≡ 0
uncounted_if b x e = rw e refl

pub or_false_parts : (a b : Bool) → (a || b) ≡ false → (a ≡ false) × (b ≡ false)
or_false_parts false b e = (refl, e)
or_false_parts true b e = absurd (cc)

pub and_both : (a b : Bool) → (a && b) ≡ true → (a ≡ true) × (b ≡ true)
and_both true b holds = (refl, holds)
and_both false b holds = absurd (cc holds)

pub some_same_is : {A : Type 0} (a b : A) → Some a ≡ Some b → a ≡ b
some_same_is a b is = cc is

pub and_with_false : (b : Bool) → (b && false) ≡ false
and_with_false true = refl
and_with_false false = refl

pub one_at_most : (b : Bool) → (if b then 1 else 0) ≤ 1
one_at_most true = omega arith
one_at_most false = omega arith

pub or_with_false : (b : Bool) → (b || false) ≡ b
or_with_false true = refl
or_with_false false = refl

pub or_second : (a b : Bool) → b ≡ true → (a || b) ≡ true
or_second true b e = refl
or_second false b e = e

pub or_regrouped : (a b c : Bool) → ((a || b) || c) ≡ (a || (b || c))
or_regrouped true b c = refl
or_regrouped false b c = refl

pub and_true : (a b : Bool) → a ≡ true → b ≡ true → (a && b) ≡ true
and_true true b e f = f
and_true false b e f = e

pub and_second_false : (a b : Bool) → b ≡ false → (a && b) ≡ false
and_second_false true b e = e
and_second_false false b e = refl

pub if_either : {A : Type 0} (b : Bool) (x : A) → (if b then x else x) ≡ x
if_either true x = refl
if_either false x = refl

pub if_most : (b : Bool) (x y : ℕ) → x ≤ y → (if b then x else 0) ≤ y
if_most true x y less = less
if_most false x y less = omega arith

pub if_mono : (b : Bool) (x y : ℕ) → x ≤ y → (if b then x else 0) ≤ (if b then y else 0)
if_mono true x y less = less
if_mono false x y less = omega arith

-- what is counted under two conditions of which the second fails
pub uncounted_second : (a b : Bool) (x : ℕ) → b ≡ false → (if a && b then x else 0) ≡ 0
uncounted_second true b x e = rw e refl
uncounted_second false b x e = refl

-- numbers that are equal, and are told apart
pub unequal_clash : (m n : ℕ) → m ≡ n → (m == n) ≡ false → ⊥
unequal_clash m n same apart = grind arith
