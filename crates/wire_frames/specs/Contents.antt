-- A command's content, and the sixteen places for rates in which it stands.
use Rattle.std.specs.Prelude.{◌≡◌, ℕ, ◌-◌, ◌≤◌, List, ◌++◌, length, take, drop, replicate}
use Rattle.std.proofs.Common.{ap, sym, ◌∙◌, arith}
use Rattle.std.proofs.lemmas.List.{length-take-le, take-append-drop}

-- the rates at the front, and 0 in the places after them
pub record IsFilled (count : ℕ) (rates : List ℕ) : Type 0 where
  pub some : 1 ≤ count
  pub few : count ≤ 16
  pub places : length rates ≡ 16
  pub zeros : drop count rates ≡ replicate (16 - count) 0

abbrev pub content_of : ℕ → List ℕ → List ℕ
content_of count rates = take count rates

-- the places for this content
abbrev pub rates_of : List ℕ → List ℕ
rates_of content = content ++ replicate (16 - length content) 0

pub length-content_of : (count : ℕ) (rates : List ℕ) → IsFilled count rates → length (content_of count rates) ≡ count
length-content_of count rates filled = length-take-le count rates (omega (arith, filled.places, filled.few))

pub rates_of-content_of : (count : ℕ) (rates : List ℕ) → IsFilled count rates → rates_of (content_of count rates) ≡ rates
rates_of-content_of count rates filled =
    ap (λ (n : ℕ). content_of count rates ++ replicate (16 - n) 0) (length-content_of count rates filled)
    ∙ ap (λ (zeros : List ℕ). content_of count rates ++ zeros) (sym filled.zeros)
    ∙ take-append-drop count rates
