-- Which texts are fractions: a number over a positive one, each in digits without a zero in front, perhaps with a minus
-- before the first, without a common divisor, and within the type. So each fraction is one text.
use Rattle.std.specs.Prelude.{ℕ, ◌+◌, ◌-◌, ◌*◌, ◌^◌, ℤ, pos, neg_ℤ, Bool, true, false, ◌&&◌, ◌==◌, nat_le, nat_lt, List, [], ◌∷◌, Option, Some, None, if◌then◌else◌}
use Rattle.fraction_lp.specs.Divisors.{gcd}
use Rattle.fraction_lp.specs.Ratio.{Ratio, new_ratio}
use Rattle.problem_json.specs.declared.spelling.Spelling.{Spelling}
use Rattle.problem_json.specs.declared.spelling.Spelling.TheVariants.{Front, Minus, Top, Slash, Bottom, Wrong}

abbrev pub is_digit : ℕ → Bool
is_digit c = nat_le 48 c && nat_le c 57

-- a number with a digit after it, where it is at most 2^127 - 1
abbrev pub grown : ℕ → ℕ → Option ℕ
grown n d = if nat_lt (n * 10 + d) (2 ^ 127) then Some (n * 10 + d) else None

-- the same with a byte, where that is a digit
abbrev pub with_digit : ℕ → ℕ → Option ℕ
with_digit n c = if is_digit c then grown n (c - 48) else None

abbrev pub top_with : Bool → Option ℕ → Spelling
top_with minus None = Wrong
top_with minus (Some n) = Top minus n

abbrev pub bottom_with : Bool → ℕ → Option ℕ → Spelling
bottom_with minus n None = Wrong
bottom_with minus n (Some d) = Bottom minus n d

-- what was read so far, with a byte more
abbrev pub spelled_on : Spelling → ℕ → Spelling
spelled_on Front c = if c == 45 then Minus else top_with false (with_digit 0 c)
spelled_on Minus c = if c == 48 then Wrong else top_with true (with_digit 0 c)
spelled_on (Top minus n) c = if c == 47 then Slash minus n else if n == 0 then Wrong else top_with minus (with_digit n c)
spelled_on (Slash minus n) c = if c == 48 then Wrong else bottom_with minus n (with_digit 0 c)
spelled_on (Bottom minus n d) c = bottom_with minus n (with_digit d c)
spelled_on Wrong c = Wrong

abbrev pub spelled_from : Spelling → List ℕ → Spelling
spelled_from s [] = s
spelled_from s (c ∷ cs) = spelled_from (spelled_on s c) cs

abbrev pub signed : Bool → ℤ → ℤ
signed minus z = if minus then neg_ℤ z else z

-- these parts over one another, where they have no common divisor
abbrev pub reduced_of : Bool → ℕ → ℕ → Option Ratio
reduced_of minus n d = if nat_lt n (2 ^ 127) && nat_lt d (2 ^ 127) && (gcd n d == 1) then new_ratio (signed minus (pos n)) (pos d) else None

-- the fraction of a text that ends here
abbrev pub fraction_spelled : Spelling → Option Ratio
fraction_spelled Front = None
fraction_spelled Minus = None
fraction_spelled (Top minus n) = None
fraction_spelled (Slash minus n) = None
fraction_spelled (Bottom minus n d) = reduced_of minus n d
fraction_spelled Wrong = None

unfoldable pub fraction_of_text : List ℕ → Option Ratio
fraction_of_text text = fraction_spelled (spelled_from Front text)
