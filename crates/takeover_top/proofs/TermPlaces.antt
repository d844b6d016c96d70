-- Where the pair that names a term stands, and the words without it.
use Rattle.std.proofs.Common.{◌≡◌, ℕ, zero, suc, ◌+◌, ◌<◌, ◌≤◌, ◌-◌, Bool, true, false, List, [], ◌∷◌, ◌++◌, length, take, drop, get_or, String, Global, string_bytes, codes, bytes_eq, if◌then◌else◌, refl, sym, ap, ◌∙◌, subst, arith, append_assoc}
use Rattle.std.proofs.Math.Seq.{drop-append-add}
use Rattle.std.proofs.lemmas.List.{drop_more, length-drop, length-take-le, take-append-drop, take_at, take_more}
use Rattle.std.specs.List.{remove}
use Rattle.takeover_top.specs.TermWords.{StandsAt, without_pair, without_term}

-- so many pairs from the third word on name no term
abbrev pub Passed : List (String Global) → ℕ → Type 0
Passed arguments place = without_term arguments ≡ take place arguments ++ without_pair (drop place arguments)

pub passed-none : (arguments : List (String Global)) → Passed arguments 2
passed-none [] = refl
passed-none (program ∷ []) = refl
passed-none (program ∷ command ∷ pairs) = refl

by-name : (name value : String Global) (pairs : List (String Global)) (b : Bool) → bytes_eq (string_bytes name) (codes "--term") ≡ b
    → without_pair (name ∷ value ∷ pairs) ≡ (if b then pairs else name ∷ value ∷ without_pair pairs)
by-name name value pairs b is = ap (λ (t : Bool). if t then pairs else name ∷ value ∷ without_pair pairs) is

module _ (arguments : List (String Global)) (place : ℕ) (inside : place + 1 < length arguments) (name none : String Global) (is : name ≡ get_or arguments place none) where
  abbrev value : String Global
  value = get_or arguments (place + 1) none

  parted : drop place arguments ≡ name ∷ value ∷ drop (place + 2) arguments
  parted =
      let e : place + 1 + 1 ≡ place + 2 = omega arith in
      drop_more arguments place none (omega (arith, inside)) ∙ ap (λ (n : String Global). n ∷ drop (place + 1) arguments) (sym is)
      ∙ ap (λ (rest : List (String Global)). name ∷ rest) (drop_more arguments (place + 1) none inside ∙ ap (λ (n : ℕ). value ∷ drop n arguments) e)

  -- one names it
  pub stands-at : bytes_eq (string_bytes name) (codes "--term") ≡ true → Passed arguments place → StandsAt arguments place
  stands-at named passed = record {
    inside = inside;
    rest = passed ∙ ap (λ (rest : List (String Global)). take place arguments ++ without_pair rest) parted ∙ ap (λ (rest : List (String Global)). take place arguments ++ rest) (by-name name value (drop (place + 2) arguments) true named);
  }

  two-more : take (place + 2) arguments ≡ take place arguments ++ name ∷ value ∷ []
  two-more =
      let e : place + 1 + 1 ≡ place + 2 = omega arith in
      ap (λ (n : ℕ). take n arguments) (sym e) ∙ take_more arguments (place + 1) none inside
      ∙ ap (λ (front : List (String Global)). front ++ value ∷ []) (take_more arguments place none (omega (arith, inside)) ∙ ap (λ (n : String Global). take place arguments ++ n ∷ []) (sym is))
      ∙ append_assoc (take place arguments) (name ∷ []) (value ∷ [])

  -- one doesn't
  pub passed-more : bytes_eq (string_bytes name) (codes "--term") ≡ false → Passed arguments place → Passed arguments (place + 2)
  passed-more named passed =
      passed ∙ ap (λ (rest : List (String Global)). take place arguments ++ without_pair rest) parted
      ∙ ap (λ (rest : List (String Global)). take place arguments ++ rest) (by-name name value (drop (place + 2) arguments) false named)
      ∙ sym (append_assoc (take place arguments) (name ∷ value ∷ []) (without_pair (drop (place + 2) arguments)))
      ∙ ap (λ (front : List (String Global)). front ++ without_pair (drop (place + 2) arguments)) (sym two-more)

-- a single word is no pair
short-same : (words : List (String Global)) → length words < 2 → without_pair words ≡ words
short-same [] short = refl
short-same (word ∷ []) short = refl
short-same (word ∷ value ∷ words) short = absurd (omega (arith, short))

-- none of them does
pub passed-all : (arguments : List (String Global)) (place : ℕ) → length arguments ≤ place + 1 → Passed arguments place → without_term arguments ≡ arguments
passed-all arguments place short passed =
    passed ∙ ap (λ (rest : List (String Global)). take place arguments ++ rest) (short-same (drop place arguments) (omega (arith, short, length-drop place arguments)))
    ∙ take-append-drop place arguments

-- two words that follow each other are taken out
pub removed-two : (words : List (String Global)) (place : ℕ) (none : String Global) → place + 1 < length words → remove (remove words place) place ≡ take place words ++ drop (place + 2) words
removed-two words place none inside =
    let front = take place words in
    let back = drop (suc place) words in
    let long : length front ≡ place = length-take-le place words (omega (arith, inside)) in
    let next : suc place ≡ place + 1 = omega arith in
    let after : length front + 1 ≡ suc place = omega (arith, long) in
    let two : place + 1 + 1 ≡ place + 2 = omega arith in
    ap (λ (xs : List (String Global)). xs ++ drop (suc place) (front ++ back)) (take_at front back place long)
    ∙ ap (λ (xs : List (String Global)). front ++ xs) (
    ap (λ (n : ℕ). drop n (front ++ back)) (sym after) ∙ drop-append-add front back 1
    ∙ ap (λ (n : ℕ). drop 1 (drop n words)) next ∙ ap (λ (xs : List (String Global)). drop 1 xs) (drop_more words (place + 1) none inside) ∙ ap (λ (n : ℕ). drop n words) two
    )
