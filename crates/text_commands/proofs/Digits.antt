-- Numbers in decimal digits.
use Rattle.std.proofs.Common.{◌≡◌, ℕ, ◌<◌, ◌≤◌, ◌^◌, true, false, ◌&&◌, nat_le, nat_lt, List, ◌∷◌, length, Some, None, Result, Ok, Err, refl, sym, ap, ◌∙◌, inl, inr, arith}
use Rattle.std.proofs.lemmas.Bool.{and_parts, cases_lt}
use Rattle.std.proofs.lemmas.Bool.Decides.{nat_tests}
use Rattle.std.proofs.lemmas.Result.{OkIff-at_ok}
use Rattle.std.proofs.lemmas.Str.Parse.{IsDigitsTest, IsNumeralModel, numerals_by_value, parse_digits, parse_gives}
use Rattle.std.specs.Str.Parse.{ParsesUnsigned, digits_value}
use Rattle.text_commands.specs.Words.{are_digits, number_of}

abbrev AreDigits : List ℕ → Type 0
AreDigits word = are_digits word ≡ true

digit-parts : (c : ℕ) (cs : List ℕ) → AreDigits (c ∷ cs) → ((48 ≤ c) × (c ≤ 57)) × AreDigits cs
digit-parts c cs are =
    let all = and_parts (nat_le 48 c && nat_le c 57) (are_digits cs) are in
    let digit = and_parts (nat_le 48 c) (nat_le c 57) all.0 in
    ((grind (arith, nat_tests, digit.0), grind (arith, nat_tests, digit.1)), all.1)

digit-more : (c : ℕ) (cs : List ℕ) → (48 ≤ c) × (c ≤ 57) → AreDigits cs → AreDigits (c ∷ cs)
digit-more c cs range are =
    let low : nat_le 48 c ≡ true = grind (arith, nat_tests, range.0) in
    let high : nat_le c 57 ≡ true = grind (arith, nat_tests, range.1) in
    rw (low, high) are

test : IsDigitsTest AreDigits
test = record { empty = refl; parts = digit-parts; more = digit-more }

model : IsNumeralModel AreDigits (digits_value 10)
model = numerals_by_value AreDigits test

module _ {E : Type 0} (bits : ℕ) (word : List ℕ) (r : Result ℕ E) (parsed : ParsesUnsigned bits 10 word r) (digits : are_digits word ≡ true) (short : length word ≤ 19) where
  small : nat_le (length word) 19 ≡ true
  small = grind (arith, nat_tests, short)

  pub number-read : (x : ℕ) → r ≡ Ok x → Some x ≡ number_of bits word
  number-read x is =
      let found = OkIff-at_ok r ((0 < length word) × (digits_value 10 word < 2 ^ bits)) (digits_value 10 word) x (parse_digits model bits word r parsed digits) is in
      let some : nat_lt 0 (length word) ≡ true = grind (arith, nat_tests, found.0.0) in
      let fits : nat_lt (digits_value 10 word) (2 ^ bits) ≡ true = grind (arith, nat_tests, found.0.1) in
      rw (some, small, digits, fits) (ap Some found.1)

  pub number-refused : (e : E) → r ≡ Err e → None ≡ number_of bits word
  number-refused e is = elim (cases_lt 0 (length word)) as (λ _. None ≡ number_of bits word) [
    | inl some ↦ elim (cases_lt (digits_value 10 word) (2 ^ bits)) as (λ _. None ≡ number_of bits word) [
      | inl fits ↦ absurd (let both : Ok (digits_value 10 word) ≡ Err e = sym (parse_gives model bits word r parsed digits some fits) ∙ is in cc)
      | inr large ↦
          let first : nat_lt 0 (length word) ≡ true = grind (arith, nat_tests, some) in
          let last : nat_lt (digits_value 10 word) (2 ^ bits) ≡ false = grind (arith, nat_tests, large) in
          rw (first, small, digits, last) refl
    ]
    | inr none ↦
        let first : nat_lt 0 (length word) ≡ false = grind (arith, nat_tests, none) in
        rw first refl
  ]
