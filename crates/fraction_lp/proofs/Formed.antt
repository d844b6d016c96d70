-- Numbers that are formed one after another, each where it fits.
use Rattle.std.proofs.Common.{◌≡◌, ℕ, ◌^◌, ◌<◌, Bool, true, false, cond, ℤ, pos, nat_abs, ◌*ℤ◌, List, [], ◌∷◌, Option, Some, None, sym, ◌∙◌, ap, subst, refl}
use Rattle.std.specs.Prelude.{if◌then◌else◌}
use Rattle.fraction_lp.specs.Ratio.{Ratio, ratio, fits, where_they_fit}

chosen : {A : Type 0} (b : Bool) (x y : A) → Some x ≡ (if b then Some y else None) → (b ≡ true) × (x ≡ y)
chosen true x y e = (refl, cc)
chosen false x y e = cc

-- a number that was formed fits
pub one_fits : {A : Type 0} (z : ℤ) (x y : A) → Some x ≡ where_they_fit (z ∷ []) y → (fits z ≡ true) × (x ≡ y)
one_fits z x y e = chosen (fits z) x y e

both_chosen : {A : Type 0} (a b : Bool) (x y : A) → Some x ≡ (if a then if b then Some y else None else None) → (a ≡ true) × (b ≡ true) × (x ≡ y)
both_chosen true b x y e = let more = chosen b x y e in (refl, more.0, more.1)
both_chosen false b x y e = cc

pub two_fit : {A : Type 0} (l r : ℤ) (x y : A) → Some x ≡ where_they_fit (l ∷ r ∷ []) y → (fits l ≡ true) × (fits r ≡ true) × (x ≡ y)
two_fit l r x y e = both_chosen (fits l) (fits r) x y e

-- a number that fits is passed over
pub passes : {A : Type 0} (z : ℤ) (zs : List ℤ) (v : A) (result : Option A) → fits z ≡ true → result ≡ where_they_fit zs v →
    result ≡ where_they_fit (z ∷ zs) v
passes z zs v result e h = h ∙ sym (ap (λ b. if b then where_they_fit zs v else None) e)

-- a sum or a difference: two products that fit, what is made of them, and the bottom
pub combined : (made : ℤ → ℤ → ℤ) (l r x y x' y' t t' : ℤ) (b b' : ℕ) (result : Option Ratio) →
    x' ≡ x → y' ≡ y → t' ≡ t → b' ≡ b →
    ◌≡◌ {A = Option (ℤ × ℤ)} (Some (x, y)) (where_they_fit (l ∷ r ∷ []) (l, r)) →
    Some t ≡ where_they_fit (made x' y' ∷ []) (made x' y') →
    result ≡ where_they_fit (pos b' ∷ []) (ratio t' b') →
    result ≡ where_they_fit (l ∷ r ∷ made l r ∷ pos b ∷ []) (ratio (made l r) b)
combined made l r x y x' y' t t' b b' result p q s u crossed top end =
    let sides = two_fit {A = ℤ × ℤ} l r (x, y) (l, r) crossed in
    let left : x' ≡ l = p ∙ ap (λ v. v.0) sides.2 in
    let right : y' ≡ r = q ∙ ap (λ v. v.1) sides.2 in
    let same : made x' y' ≡ made l r = ap (λ z. made z y') left ∙ ap (made l) right in
    let whole = one_fits (made x' y') t (made x' y') top in
    let last : t' ≡ made l r = s ∙ whole.1 ∙ same in
    passes l (r ∷ made l r ∷ pos b ∷ []) (ratio (made l r) b) result sides.0
    (passes r (made l r ∷ pos b ∷ []) (ratio (made l r) b) result sides.1
    (passes (made l r) (pos b ∷ []) (ratio (made l r) b) result (sym (ap fits same) ∙ whole.0)
    (end ∙ ap (λ z. where_they_fit (pos b' ∷ []) (ratio z b')) last ∙ ap (λ n. where_they_fit (pos n ∷ []) (ratio (made l r) n)) u)))
