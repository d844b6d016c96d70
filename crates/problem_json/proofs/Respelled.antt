-- What is written for a fraction is read as that fraction.
use Rattle.std.proofs.Common.{◌≡◌, ℕ, zero, suc, ◌+◌, ◌-◌, ◌*◌, ◌/◌, ◌%◌, ◌^◌, ◌<◌, ◌≤◌, Bool, true, false, ℤ, pos, negsuc, nat_abs, int_lt, nat_le, nat_lt, List, [], ◌∷◌, ◌++◌, codes, decimal, Some, None, if◌then◌else◌, refl, sym, ap, ◌∙◌, arith, le-leb, lt-ltb}
use Rattle.std.specs.Prelude.{◌==◌}
use Rattle.std.proofs.lemmas.Bool.{and_from, ne_eqb}
use Rattle.std.proofs.lemmas.Fmt.{decimal_by_steps_wide}
use Rattle.lists.proofs.Conditions.{if_false, if_true}
use Rattle.fraction_lp.specs.Divisors.{gcd}
use Rattle.fraction_lp.specs.Ratio.{Ratio, ratio, ratio-parts, reduced_facts, new_ratio}
use Rattle.problem_json.specs.GrammarFractions.{is_digit, grown, with_digit, top_with, bottom_with, spelled_on, spelled_from, signed, reduced_of, fraction_spelled, fraction_of_text}
use Rattle.problem_json.specs.WithinClaims.{IsFractionWithin}
use Rattle.problem_json.specs.WritingLeast.{sign_text, fraction_text}
use Rattle.problem_json.specs.declared.spelling.Spelling.{Spelling}
use Rattle.problem_json.specs.declared.spelling.Spelling.TheVariants.{Front, Minus, Top, Slash, Bottom, Wrong}
use Rattle.problem_json.proofs.Spelled.{reduced_is}

spelled-behind : (s : Spelling) (xs ys : List ℕ) → spelled_from s (xs ++ ys) ≡ spelled_from (spelled_from s xs) ys
spelled-behind s [] ys = refl
spelled-behind s (x ∷ xs) ys = spelled-behind (spelled_on s x) xs ys

-- ---- digits

is-digit : (d : ℕ) → d < 10 → is_digit (48 + d) ≡ true
is-digit d lt = and_from (nat_le 48 (48 + d)) (nat_le (48 + d) 57) (le-leb 48 (48 + d) (omega arith)) (le-leb (48 + d) 57 (omega (arith, lt)))

with_one : (n d m : ℕ) → d < 10 → n * 10 + d ≡ m → m < 2 ^ 127 → with_digit n (48 + d) ≡ Some m
with_one n d m lt is fits =
    let back : 48 + d - 48 ≡ d = omega arith in
    if_true (is_digit (48 + d)) (grown n (48 + d - 48)) None (is-digit d lt) ∙ ap (grown n) back
    ∙ if_true (nat_lt (n * 10 + d) (2 ^ 127)) (Some (n * 10 + d)) None (lt-ltb (n * 10 + d) (2 ^ 127) (omega (arith, is, fits))) ∙ ap Some is

no_glyph : (d c : ℕ) → c < 48 → (48 + d == c) ≡ false
no_glyph d c low = ne_eqb (48 + d) c (λ e. omega (arith, e, low))

-- the first digit of a number, and each after it
from_front : (m : ℕ) → m < 10 → spelled_on Front (48 + m) ≡ Top false m
from_front m lt =
    if_false (48 + m == 45) Minus (top_with false (with_digit 0 (48 + m))) (no_glyph m 45 (omega arith))
    ∙ ap (top_with false) (with_one 0 m m lt (omega arith) (omega (arith, lt)))

from_minus : (m : ℕ) → 0 < m → m < 10 → spelled_on Minus (48 + m) ≡ Top true m
from_minus m some lt =
    if_false (48 + m == 48) Wrong (top_with true (with_digit 0 (48 + m))) (ne_eqb (48 + m) 48 (λ e. omega (arith, e, some)))
    ∙ ap (top_with true) (with_one 0 m m lt (omega arith) (omega (arith, lt)))

from_slash : (minus : Bool) (n m : ℕ) → 0 < m → m < 10 → spelled_on (Slash minus n) (48 + m) ≡ Bottom minus n m
from_slash minus n m some lt =
    if_false (48 + m == 48) Wrong (bottom_with minus n (with_digit 0 (48 + m))) (ne_eqb (48 + m) 48 (λ e. omega (arith, e, some)))
    ∙ ap (bottom_with minus n) (with_one 0 m m lt (omega arith) (omega (arith, lt)))

top_goes_on : (minus : Bool) (n d m : ℕ) → 1 ≤ n → d < 10 → n * 10 + d ≡ m → m < 2 ^ 127 → spelled_on (Top minus n) (48 + d) ≡ Top minus m
top_goes_on minus n d m some lt is fits =
    if_false (48 + d == 47) (Slash minus n) (if n == 0 then Wrong else top_with minus (with_digit n (48 + d))) (no_glyph d 47 (omega arith))
    ∙ if_false (n == 0) Wrong (top_with minus (with_digit n (48 + d))) (ne_eqb n 0 (λ e. omega (arith, e, some)))
    ∙ ap (top_with minus) (with_one n d m lt is fits)

bottom_goes_on : (minus : Bool) (n k d m : ℕ) → d < 10 → k * 10 + d ≡ m → m < 2 ^ 127 → spelled_on (Bottom minus n k) (48 + d) ≡ Bottom minus n m
bottom_goes_on minus n k d m lt is fits = ap (bottom_with minus n) (with_one k d m lt is fits)

-- ---- numbers

last_digit : (m : ℕ) → m / 10 * 10 + m % 10 ≡ m
last_digit m = omega arith

module _ (start : Spelling) (reached : ℕ → Spelling) (low : ℕ) where
  -- from one state on the digits of each number from a least one on lead to that of the number
  abbrev Reads : ℕ → List ℕ → Type 0
  Reads m ds = low ≤ m → m < 2 ^ 127 → spelled_from start ds ≡ reached m

  module _ (few : low ≤ 1) (first : (m : ℕ) → low ≤ m → m < 10 → spelled_on start (48 + m) ≡ reached m)
      (next : (n d m : ℕ) → 1 ≤ n → d < 10 → n * 10 + d ≡ m → m < 2 ^ 127 → spelled_on (reached n) (48 + d) ≡ reached m) where
    first-reads : (m : ℕ) → m < 10 → Reads m ((48 + m) ∷ [])
    first-reads m lt least fits = first m least lt

    next-reads : (m : ℕ) (ds : List ℕ) → 10 ≤ m → Reads (m / 10) ds → Reads m (ds ++ (48 + m % 10) ∷ [])
    next-reads m ds many before least fits =
        spelled-behind start ds ((48 + m % 10) ∷ [])
        ∙ ap (λ s. spelled_on s (48 + m % 10)) (before (omega (arith, few, many)) (omega (arith, fits)))
        ∙ next (m / 10) (m % 10) m (omega (arith, many)) (omega arith) (last_digit m) fits

    pub number-reads : (m : ℕ) → low ≤ m → m < 2 ^ 127 → spelled_from start (decimal m) ≡ reached m
    number-reads m least fits = decimal_by_steps_wide (λ n ds. Reads n ds) first-reads next-reads m (omega (arith, fits)) least fits

top-reads : (m : ℕ) → m < 2 ^ 127 → spelled_from Front (decimal m) ≡ Top false m
top-reads m fits = number-reads Front (Top false) 0 (omega arith) (λ k least lt. from_front k lt) (λ n d k. top_goes_on false n d k) m (omega arith) fits

minus-reads : (m : ℕ) → 0 < m → m < 2 ^ 127 → spelled_from Minus (decimal m) ≡ Top true m
minus-reads m some fits = number-reads Minus (Top true) 1 (omega arith) (λ k least lt. from_minus k (omega (arith, least)) lt) (λ n d k. top_goes_on true n d k) m (omega (arith, some)) fits

bottom-reads : (minus : Bool) (n m : ℕ) → 0 < m → m < 2 ^ 127 → spelled_from (Slash minus n) (decimal m) ≡ Bottom minus n m
bottom-reads minus n m some fits =
    number-reads (Slash minus n) (Bottom minus n) 1 (omega arith) (λ k least lt. from_slash minus n k (omega (arith, least)) lt) (λ k d j more. bottom_goes_on minus n k d j) m (omega (arith, some)) fits

-- ---- a fraction

to-slash : (s : Spelling) (minus : Bool) (n : ℕ) (ds : List ℕ) → spelled_from s ds ≡ Top minus n → spelled_from s (ds ++ codes "/") ≡ Slash minus n
to-slash s minus n ds e = spelled-behind s ds (codes "/") ∙ ap (λ x. spelled_from x (codes "/")) e

fraction-reads : (s : Spelling) (minus : Bool) (n b : ℕ) (ds : List ℕ) → spelled_from s ds ≡ Top minus n → 0 < b → b < 2 ^ 127 → spelled_from s (ds ++ codes "/" ++ decimal b) ≡ Bottom minus n b
fraction-reads s minus n b ds e some fits =
    spelled-behind s (ds ++ codes "/") (decimal b) ∙ ap (λ x. spelled_from x (decimal b)) (to-slash s minus n ds e) ∙ bottom-reads minus n b some fits

unsigned-reads : (m b : ℕ) → m < 2 ^ 127 → 0 < b → b < 2 ^ 127 → spelled_from Front (decimal m ++ codes "/" ++ decimal b) ≡ Bottom false m b
unsigned-reads m b top some bottom = fraction-reads Front false m b (decimal m) (top-reads m top) some bottom

signed-reads : (m b : ℕ) → 0 < m → m < 2 ^ 127 → 0 < b → b < 2 ^ 127 → spelled_from Front (codes "-" ++ decimal m ++ codes "/" ++ decimal b) ≡ Bottom true m b
signed-reads m b negative top some bottom = fraction-reads Front true m b (codes "-" ++ decimal m) (minus-reads m negative top) some bottom

not_below : (m : ℕ) → int_lt (pos m) (pos 0) ≡ false
not_below m = grind arith

is_below : (m : ℕ) → int_lt (negsuc m) (pos 0) ≡ true
is_below m = grind arith

parts-read : (t : ℤ) (b : ℕ) → nat_abs t < 2 ^ 127 → 0 < b → b < 2 ^ 127
    → spelled_from Front (sign_text t ++ decimal (nat_abs t) ++ codes "/" ++ decimal b) ≡ Bottom (int_lt t (pos 0)) (nat_abs t) b
parts-read (pos m) b top some bottom =
    ap (λ (c : Bool). spelled_from Front ((if c then codes "-" else []) ++ decimal m ++ codes "/" ++ decimal b)) (not_below m)
    ∙ unsigned-reads m b top some bottom ∙ ap (λ c. Bottom c m b) (sym (not_below m))
parts-read (negsuc m) b top some bottom =
    ap (λ (c : Bool). spelled_from Front ((if c then codes "-" else []) ++ decimal (suc m) ++ codes "/" ++ decimal b)) (is_below m)
    ∙ signed-reads (suc m) b (omega arith) top some bottom ∙ ap (λ c. Bottom c (suc m) b) (sym (is_below m))

-- the number with its sign
signed-top : (t : ℤ) → signed (int_lt t (pos 0)) (pos (nat_abs t)) ≡ t
signed-top (pos m) = ap (λ c. signed c (pos m)) (not_below m)
signed-top (negsuc m) = ap (λ c. signed c (pos (suc m))) (is_below m)

new-fits : (t : ℤ) (b : ℕ) → 0 < b → nat_abs t < 2 ^ 127 → new_ratio t (pos b) ≡ Some (ratio t b)
new-fits t zero some fits = absurd (omega (arith, some))
new-fits t (suc n) some fits = if_true (nat_lt (nat_abs t) (2 ^ 127)) (Some (ratio t (suc n))) None (lt-ltb (nat_abs t) (2 ^ 127) fits)

reduced-reads : (t : ℤ) (b : ℕ) → nat_abs t < 2 ^ 127 → 0 < b → b < 2 ^ 127 → gcd (nat_abs t) b ≡ 1 → reduced_of (int_lt t (pos 0)) (nat_abs t) b ≡ Some (ratio t b)
reduced-reads t b top some bottom one =
    sym (reduced_is (int_lt t (pos 0)) (nat_abs t) b t (pos b) (omega (arith, top)) (omega (arith, bottom)) one (sym (signed-top t)) refl) ∙ new-fits t b some top

pub fraction_is_read : (x : Ratio) → IsFractionWithin x → fraction_of_text (fraction_text x) ≡ Some x
unfolding fraction_of_text
fraction_is_read x is =
    let facts = reduced_facts x.top x.bottom x.reduced in
    ap fraction_spelled (parts-read x.top x.bottom is.top facts.0 is.bottom)
    ∙ reduced-reads x.top x.bottom is.top facts.0 is.bottom facts.1
    ∙ ap Some (ratio-parts x)
