-- The first 35 bytes of an image have its gate and its slots.
use Rattle.std.proofs.Common.{◌≡◌, ℕ, ◌+◌, ◌<◌, ◌≤◌, List, ◌++◌, length, take, drop, replicate, sym, ◌∙◌, ap, arith, length-drop}
use Rattle.std.proofs.lemmas.List.{append_assoc, drop-append-le, get_or_append_left, length-take-le, take-append-drop, take-append-le}
use Rattle.std.specs.Int.{w64, from_be_bytes}
use Rattle.disk_model.specs.Numbers.{byte_at, number_8}
use Rattle.intent_journal.specs.Images.{slot_at}

-- a number within the front of the bytes is that of the front
number_8-front : (front tail : List ℕ) → 8 ≤ length front → number_8 (front ++ tail) ≡ number_8 front
unfolding number_8
number_8-front front tail long =
    ap (λ (l : List ℕ). from_be_bytes w64 (take 8 l)) (append_assoc front tail (replicate 8 0))
    ∙ ap (from_be_bytes w64) (take-append-le 8 front (tail ++ replicate 8 0) long ∙ sym (take-append-le 8 front (replicate 8 0) long))

number_8-in : (place : ℕ) (front tail : List ℕ) → place + 8 ≤ length front → number_8 (drop place (front ++ tail)) ≡ number_8 (drop place front)
number_8-in place front tail long =
    ap number_8 (drop-append-le place front tail (omega arith)) ∙ number_8-front (drop place front) tail (omega (arith, length-drop place front))

slot_at-front : (side : ℕ) (front tail : List ℕ) → side + 17 ≤ length front → slot_at side (front ++ tail) ≡ slot_at side front
slot_at-front side front tail long =
    let gate = get_or_append_left front tail 0 side (omega arith) in
    let start = number_8-in (side + 1) front tail (omega arith) in
    let field = number_8-in (side + 9) front tail (omega arith) in
    λ i. record { gate = gate i; start = start i; field = field i }

module _ (old new : List ℕ) (same : take 35 new ≡ take 35 old) (long_old : 35 ≤ length old) (long_new : 35 ≤ length new) where
  pub same_slot : (side : ℕ) → side ≤ 18 → slot_at side new ≡ slot_at side old
  same_slot side small =
      ap (slot_at side) (sym (take-append-drop 35 new))
      ∙ slot_at-front side (take 35 new) (drop 35 new) (omega (arith, length-take-le 35 new long_new))
      ∙ ap (slot_at side) same
      ∙ sym (slot_at-front side (take 35 old) (drop 35 old) (omega (arith, length-take-le 35 old long_old)))
      ∙ ap (slot_at side) (take-append-drop 35 old)

  pub same_byte : (place : ℕ) → place < 35 → byte_at place new ≡ byte_at place old
  same_byte place small =
      ap (byte_at place) (sym (take-append-drop 35 new))
      ∙ get_or_append_left (take 35 new) (drop 35 new) 0 place (omega (arith, length-take-le 35 new long_new))
      ∙ ap (byte_at place) same
      ∙ sym (get_or_append_left (take 35 old) (drop 35 old) 0 place (omega (arith, length-take-le 35 old long_old)))
      ∙ ap (byte_at place) (take-append-drop 35 old)
