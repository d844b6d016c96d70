-- What the words ask for, by the word of a command.
use Rattle.std.proofs.Common.{◌≡◌, ℕ, suc, ◌≤◌, ◌-◌, List, [], ◌∷◌, length, map, get_or, take, take_all, drop, String, Global, string_bytes, Some, option_and_then, sym, ap, ◌∙◌, arith}
use Rattle.rollout_rules.specs.declared.op.OpView.{OpView}
use Rattle.swanroll_top.specs.Words.{asked_by, kind_named, with_kind}
use Rattle.swanroll_top.specs.declared.words.Kind.{Kind}

-- what the words ask for where the first is a command's
pub first-asked : (policies : List (List ℕ × (OpView → ℕ))) (words : List (String Global)) (word other : String Global) (kind : Kind) → 1 ≤ length words → word ≡ get_or words 0 other → kind_named (string_bytes word) ≡ Some kind
    → asked_by policies words ≡ with_kind policies (map string_bytes (take (length words - 1) (drop 1 words))) kind
unfolding asked_by
first-asked policies [] word other kind some first is = absurd (omega (arith, some))
first-asked policies (w ∷ pairs) word other kind some first is =
    let all : take (suc (length pairs) - 1) pairs ≡ pairs = take_all _ pairs (omega arith) in
    ap (option_and_then (with_kind policies (map string_bytes pairs))) (ap (λ (x : String Global). kind_named (string_bytes x)) (sym first) ∙ is)
    ∙ ap (λ list. with_kind policies (map string_bytes list) kind) (sym all)
