-- A number that was read from bytes, highest first, has those bytes.
use Rattle.std.proofs.Common.{◌≡◌, ℕ, suc, ◌+◌, ◌-◌, ◌*◌, ◌^◌, ◌<◌, ◌≤◌, List, [], ◌∷◌, ◌++◌, length, get_or, take, drop, refl, sym, ap, ap₂, ◌∙◌, arith, inl, inr}
use Rattle.std.specs.List.{All, flat_map}
use Rattle.std.specs.Int.{w32, w64, to_be_bytes}
use Rattle.std.proofs.lemmas.Bool.{cases_lt}
use Rattle.std.proofs.lemmas.List.{get_or-drop, get_or-take, get_or_default, get_or_past, nil_from_length, length-drop, length-take, take-append-drop, take_rest, drop-drop}
use Rattle.std.proofs.lemmas.Nat.{be_bytes_4, be_bytes_8}
use Rattle.byteorder.specs.Endian.{big_number, IsRead}
use Rattle.byteorder.specs.Numbers.{big_from-lt}

abbrev pub IsBytes : List ℕ → Type 0
IsBytes bytes = (i : ℕ) → get_or bytes i 0 < 256

pub IsBytes-drop : (n : ℕ) (bytes : List ℕ) → IsBytes bytes → IsBytes (drop n bytes)
IsBytes-drop n bytes each i = rw get_or-drop (each (n + i))

pub IsBytes-take : (n : ℕ) (bytes : List ℕ) → IsBytes bytes → IsBytes (take n bytes)
IsBytes-take n bytes each i =
    elim (cases_lt i n) [
      | inl lt ↦ rw (get_or-take n bytes i 0 lt) (each i)
      | inr le ↦ rw (get_or_past (take n bytes) i 0 (omega (arith, length-take n bytes))) (omega arith)
    ]

-- four bytes
four : (bytes : List ℕ) (n : ℕ) → 4 ≤ length bytes → IsBytes bytes → n ≡ big_number 4 bytes → to_be_bytes w32 n ≡ take 4 bytes
four [] n long each e = absurd (omega arith)
four (a ∷ []) n long each e = absurd (omega arith)
four (a ∷ b ∷ []) n long each e = absurd (omega arith)
four (a ∷ b ∷ c ∷ []) n long each e = absurd (omega arith)
four (a ∷ b ∷ c ∷ d ∷ bytes) n long each e = be_bytes_4 (a ∷ b ∷ c ∷ d ∷ []) n refl (IsBytes-take 4 (a ∷ b ∷ c ∷ d ∷ bytes) each) (omega (arith, e))

-- eight bytes
eight : (bytes : List ℕ) (n : ℕ) → 8 ≤ length bytes → IsBytes bytes → n ≡ big_number 8 bytes → to_be_bytes w64 n ≡ take 8 bytes
eight (a ∷ b ∷ c ∷ d ∷ e ∷ f ∷ g ∷ h ∷ bytes) n long each is = be_bytes_8 (a ∷ b ∷ c ∷ d ∷ e ∷ f ∷ g ∷ h ∷ []) n refl (IsBytes-take 8 (a ∷ b ∷ c ∷ d ∷ e ∷ f ∷ g ∷ h ∷ bytes) each) (omega (arith, is))
eight _ n long each is = absurd (omega arith)

-- the number at a place, of four bytes
pub number_at : (bytes : List ℕ) (at n : ℕ) → IsBytes bytes → at + 4 ≤ length bytes → n ≡ big_number 4 (take (length bytes - at) (drop at bytes)) → to_be_bytes w32 n ≡ take 4 (drop at bytes)
number_at bytes at n each long e =
    four (drop at bytes) n (omega (arith, length-drop at bytes)) (IsBytes-drop at bytes each) (e ∙ ap (big_number 4) (take_rest bytes at))

pub number_fits : (bytes : List ℕ) (at n : ℕ) → IsBytes bytes → n ≡ big_number 4 (take (length bytes - at) (drop at bytes)) → n < 2 ^ 32
number_fits bytes at n each e =
    let fits : big_number 4 (drop at bytes) < 256 ^ 4 = big_from-lt 0 4 (drop at bytes) (IsBytes-drop at bytes each) in
    let same : n ≡ big_number 4 (drop at bytes) = e ∙ ap (big_number 4) (take_rest bytes at) in
    rw same fits

-- numbers of eight bytes each, one after the other
pub numbers_of : (bytes numbers : List ℕ) → IsBytes bytes → length bytes ≡ 8 * length numbers → IsRead big_number 8 bytes numbers → flat_map (to_be_bytes w64) numbers ≡ bytes
numbers_of bytes [] each long read = sym (nil_from_length bytes (omega (arith, long)))
numbers_of bytes (n ∷ numbers) each long read =
    let front : to_be_bytes w64 n ≡ take 8 bytes = eight bytes n (omega (arith, long)) each (read 0 (omega arith)) in
    let behind = numbers_of (drop 8 bytes) numbers (IsBytes-drop 8 bytes each) (omega (arith, long, length-drop 8 bytes))
    (λ k inside. read (suc k) (omega arith) ∙ ap (λ (at : ℕ). big_number 8 (drop at bytes)) (omega arith) ∙ ap (big_number 8) (sym (drop-drop (8 * k) 8 bytes))) in
    ap₂ (λ (xs ys : List ℕ). xs ++ ys) front behind ∙ take-append-drop 8 bytes

pub numbers_fit : (bytes numbers : List ℕ) → IsBytes bytes → IsRead big_number 8 bytes numbers → All (λ n. n < 2 ^ 64) numbers
numbers_fit bytes numbers each read k d inside =
    let fits : big_number 8 (drop (8 * k) bytes) < 256 ^ 8 = big_from-lt 0 8 (drop (8 * k) bytes) (IsBytes-drop (8 * k) bytes each) in
    let same : get_or numbers k d ≡ big_number 8 (drop (8 * k) bytes) = get_or_default numbers k d 0 inside ∙ read k inside in
    rw same fits

pub length-numbers : (numbers : List ℕ) → length (flat_map (to_be_bytes w64) numbers) ≡ 8 * length numbers
length-numbers [] = refl
length-numbers (n ∷ numbers) = omega (arith, length-numbers numbers)
