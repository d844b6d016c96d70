-- A piece of a text is what stands at its place, where neither end cuts a character.
use Rattle.std.proofs.Common.{◌≡◌, ℕ, ◌<◌, ◌≤◌, ◌⊎◌, inl, inr, Bool, true, false, ◌&&◌, ◌||◌, nat_lt, nat_le, slice_index, if◌then◌else◌, List, [], ◌∷◌, length, take, drop, get_or, IsCharBoundary, sym, ap, ◌∙◌, ⊎_elim, arith, lt_of_not-le}
use Rattle.std.proofs.lemmas.List.{get_or_past}
use Rattle.std.proofs.lemmas.Bool.{and_from, and_parts, or_left, or_right, or_cases, cases_Bool, false_from_ne_true, le-leb, lt-ltb, leb-true, ltb-true, ltb-false}
use Rattle.json_data.specs.Nodes.{is_cut, front, piece}

large_inside : (text : List ℕ) (place : ℕ) → 128 ≤ slice_index text place → place < length text
large_inside text place high = lt_of_not-le (λ past. omega (arith, high, get_or_past text place 0 past))

cut_is : (text : List ℕ) (place : ℕ) → IsCharBoundary text place → is_cut text place ≡ true
cut_is text place at =
    let x = slice_index text place in
    and_from (nat_le place (length text)) (nat_lt x 128 || nat_le 192 x) (le-leb place (length text) at.0)
    (⊎_elim
    (λ low. or_left (nat_lt x 128) (nat_le 192 x) low)
    (λ other. (let high : 128 ≤ x = ltb-false x 128 other in or_right (nat_lt x 128) (nat_le 192 x) (le-leb 192 x (at.1 (large_inside text place high) high))))
    (cases_Bool (nat_lt x 128)))

cut_at : (text : List ℕ) (place : ℕ) → is_cut text place ≡ true → IsCharBoundary text place
cut_at text place is =
    let x = slice_index text place in
    let both = and_parts (nat_le place (length text)) (nat_lt x 128 || nat_le 192 x) is in (
      leb-true place (length text) both.0,
      λ within high. ⊎_elim (λ low. absurd (omega (arith, high, ltb-true x 128 low))) (λ large. leb-true 192 x large) (or_cases (nat_lt x 128) (nat_le 192 x) both.1),
    )

cut_not : (text : List ℕ) (place : ℕ) → (IsCharBoundary text place → ⊥) → is_cut text place ≡ false
cut_not text place other = false_from_ne_true (is_cut text place) (λ is. other (cut_at text place is))

pub front_is : (text : List ℕ) (size : ℕ) → IsCharBoundary text size → front size text ≡ take size text
front_is text size at = ap (λ b. if b then take size text else []) (cut_is text size at)

pub front_not : (text : List ℕ) (size : ℕ) → (IsCharBoundary text size → ⊥) → front size text ≡ []
front_not text size other = ap (λ b. if b then take size text else []) (cut_not text size other)

pub piece_at : (text : List ℕ) (place size : ℕ) → IsCharBoundary text place → piece place size text ≡ front size (drop place text)
unfolding piece
piece_at text place size at = ap (λ b. if b then front size (drop place text) else []) (cut_is text place at)

pub piece_not : (text : List ℕ) (place size : ℕ) → (IsCharBoundary text place → ⊥) → piece place size text ≡ []
unfolding piece
piece_not text place size other = ap (λ b. if b then front size (drop place text) else []) (cut_not text place other)

pub piece_is : (text inner : List ℕ) (place size : ℕ) → inner ≡ drop place text → IsCharBoundary text place → IsCharBoundary inner size → piece place size text ≡ take size inner
piece_is text inner place size is here there = piece_at text place size here ∙ ap (front size) (sym is) ∙ front_is inner size there
