-- The word of a command, and pairs of which less than one is left.
use Rattle.std.proofs.Common.{◌≡◌, ℕ, suc, ◌<◌, ◌≤◌, ◌-◌, ◌==◌, List, [], ◌∷◌, ◌++◌, length, map, get_or, take, take_all, drop, String, Global, string_bytes, Option, Some, None, option_map, option_and_then, option_to_list, unwrap_or, refl, sym, ap, ◌∙◌, arith}
use Rattle.rollout_rules.specs.declared.op.OpView.{OpView}
use Rattle.text_commands.specs.Words.{are_pairs, one_or, text_asked_by, text_kind_named, text_with_kind, values_of}
use Rattle.text_commands.specs.declared.words.TextKind.{TextKind}

-- what the words ask for where the first is the word of a command that makes a text
pub first-text : (policies : List (List ℕ × (OpView → ℕ))) (words : List (String Global)) (word other : String Global) (kind : TextKind) → 1 ≤ length words → word ≡ get_or words 0 other → text_kind_named (string_bytes word) ≡ Some kind
    → text_asked_by policies words ≡ text_with_kind policies (map string_bytes (take (length words - 1) (drop 1 words))) kind
unfolding text_asked_by
first-text policies [] word other kind some first is = absurd (omega (arith, some))
first-text policies (w ∷ pairs) word other kind some first is =
    let all : take (suc (length pairs) - 1) pairs ≡ pairs = take_all _ pairs (omega arith) in
    ap (option_and_then (text_with_kind policies (map string_bytes pairs))) (ap (λ (x : String Global). text_kind_named (string_bytes x)) (sym first) ∙ is)
    ∙ ap (λ list. text_with_kind policies (map string_bytes list) kind) (sym all)

module _ {A : Type 0} (bytes : A → List ℕ) where
  pub last-pairs : (names : List (List ℕ)) (rest : List A) → length rest < 2 → are_pairs names (map bytes rest) ≡ (length rest == 0)
  last-pairs names [] h = refl
  last-pairs names (x ∷ []) h = refl
  last-pairs names (x ∷ y ∷ more) h = absurd (omega (arith, h))

  -- after what was found there is no value any more
  pub value-found : {B : Type 0} (now : B → List ℕ) (name : List ℕ) (default : B) (found : Option B) (rest : List A) → length rest < 2
      → one_or (now default) (option_to_list (option_map now found) ++ values_of name (map bytes rest)) ≡ Some (now (unwrap_or found default))
  value-found now name default None [] h = refl
  value-found now name default None (x ∷ []) h = refl
  value-found now name default (Some value) [] h = refl
  value-found now name default (Some value) (x ∷ []) h = refl
  value-found now name default found (x ∷ y ∷ more) h = absurd (omega (arith, h))
