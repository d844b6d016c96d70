-- What is read of words by the first of them and those after it.
use Rattle.std.proofs.Common.{◌≡◌, ℕ, suc, ◌≤◌, ◌-◌, List, [], ◌∷◌, length, map, get_or, take, take_all, drop, String, Global, string_bytes, sym, ap, ◌∙◌, arith}

module _ {A : Type 0} (read : List (List ℕ) → A) (at : List ℕ → List (List ℕ) → A) (by_first : (word : List ℕ) (rest : List (List ℕ)) → read (word ∷ rest) ≡ at word rest) where
  pub first-read : (words : List (String Global)) (word other : String Global) → 1 ≤ length words → word ≡ get_or words 0 other
      → read (map string_bytes words) ≡ at (string_bytes word) (map string_bytes (take (length words - 1) (drop 1 words)))
  first-read [] word other some first = absurd (omega (arith, some))
  first-read (w ∷ rest) word other some first =
      let all : take (suc (length rest) - 1) rest ≡ rest = take_all _ rest (omega arith) in
      by_first (string_bytes w) (map string_bytes rest)
      ∙ ap (λ (x : String Global). at (string_bytes x) (map string_bytes rest)) (sym first)
      ∙ ap (λ (list : List (String Global)). at (string_bytes word) (map string_bytes list)) (sym all)
