-- Numbers of four bytes that stand in a row of bytes, and the byte at a place in it.
use Rattle.std.proofs.Common.{List, [], ap, drop, get_or, length, refl, replicate, suc, sym, take, ℕ, ◌++◌, ◌+◌, ◌<◌, ◌^◌, ◌∙◌, ◌∷◌, ◌≡◌, ◌≤◌, arith}
use Rattle.std.specs.Int.{from_be_bytes, to_be_bytes, w32}
use Rattle.std.proofs.Math.Seq.{drop-cons}
use Rattle.std.proofs.lemmas.List.{append_assoc, get_or-drop, take-append-drop, take-append-le, take_at}
use Rattle.std.proofs.lemmas.Nat.{from_be_bytes-to_be_bytes_4}
use Rattle.disk_model.specs.Numbers.{byte_at, bytes_4, number_4}
use Rattle.disk_model.specs.Writes.{written}
use Rattle.disk_model.proofs.Tearing.{drop-written}

pub length-bytes_4 : (n : ℕ) → length (bytes_4 n) ≡ 4
unfolding bytes_4
length-bytes_4 n = refl

-- the number that was written is read
pub number_4-bytes_4 : (n : ℕ) (tail : List ℕ) → n < 2 ^ 32 → number_4 (bytes_4 n ++ tail) ≡ n
unfolding number_4 bytes_4
number_4-bytes_4 n tail small =
    ap (λ (l : List ℕ). from_be_bytes w32 (take 4 l)) (append_assoc (to_be_bytes w32 n) tail (replicate 4 0))
    ∙ ap (from_be_bytes w32) (take_at (to_be_bytes w32 n) (tail ++ replicate 4 0) 4 refl)
    ∙ from_be_bytes-to_be_bytes_4 n small

-- a number within the front of the bytes is that of the front
pub number_4-front : (front tail : List ℕ) → 4 ≤ length front → number_4 (front ++ tail) ≡ number_4 front
unfolding number_4
number_4-front front tail long =
    ap (λ (l : List ℕ). from_be_bytes w32 (take 4 l)) (append_assoc front tail (replicate 4 0))
    ∙ ap (from_be_bytes w32) (take-append-le 4 front (tail ++ replicate 4 0) long ∙ sym (take-append-le 4 front (replicate 4 0) long))

-- the byte at a place, and what stands after it
pub byte_first : (bytes : List ℕ) (at : ℕ) → at < length bytes → drop at bytes ≡ byte_at at bytes ∷ drop (at + 1) bytes
byte_first bytes at within =
    let next : suc at ≡ at + 1 = omega arith in
    drop-cons bytes at 0 within ∙ ap (λ (k : ℕ). byte_at at bytes ∷ drop k bytes) next

-- what stands before a byte, that byte and what stands after it
pub around_byte : (at : ℕ) (bytes : List ℕ) → at < length bytes → bytes ≡ take at bytes ++ (byte_at at bytes ∷ drop (at + 1) bytes)
around_byte at bytes inside = sym (take-append-drop at bytes) ∙ ap (λ (l : List ℕ). take at bytes ++ l) (byte_first bytes at inside)

-- the byte that was written
pub written_one : (at byte : ℕ) (image : List ℕ) → byte_at at (written at (byte ∷ []) image) ≡ byte
written_one at byte image =
    let is : at + 0 ≡ at = omega arith in
    ap (λ (i : ℕ). get_or (written at (byte ∷ []) image) i 0) (sym is)
    ∙ sym (get_or-drop at (written at (byte ∷ []) image) 0 0)
    ∙ ap (λ (l : List ℕ). get_or l 0 0) (drop-written at (byte ∷ []) image)
