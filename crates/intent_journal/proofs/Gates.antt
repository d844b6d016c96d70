-- One byte of an image that is written over, and the slots and parts that stand elsewhere.
use Rattle.std.proofs.Common.{◌≡◌, ℕ, ◌+◌, ◌<◌, ◌≤◌, List, ◌∷◌, ◌++◌, length, take, drop, replicate, sym, ◌∙◌, ap, arith, length-drop}
use Rattle.std.proofs.lemmas.List.{length-take-le, take-append-le, take-take}
use Rattle.std.specs.Int.{w64, from_be_bytes}
use Rattle.disk_model.specs.Places.{AgreesOn}
use Rattle.disk_model.specs.Writes.{Torn, written}
use Rattle.disk_model.proofs.Agreeing.{same_range}
use Rattle.disk_model.proofs.Parting.{Torn-byte}
use Rattle.disk_model.specs.Numbers.{byte_at, number_8}
use Rattle.disk_model.proofs.FourBytes.{around_byte}
use Rattle.intent_journal.specs.Images.{slot_at}

-- a byte that is torn over stands between what stood around_byte it
pub torn_one : (at : ℕ) (image c : List ℕ) → at < length image → Torn at 1 image c → c ≡ take at image ++ (byte_at at c ∷ drop (at + 1) image)
torn_one at image c inside torn =
    Torn-byte (take at image) (drop (at + 1) image) c (byte_at at image) at (sym (length-take-le at image (omega (arith, inside))))
    (rw (← around_byte at image inside) torn)

-- if it is the same byte, it is the same image
pub torn_same : (at : ℕ) (image c : List ℕ) → at < length image → Torn at 1 image c → byte_at at c ≡ byte_at at image → c ≡ image
torn_same at image c inside torn same =
    torn_one at image c inside torn ∙ ap (λ (b : ℕ). take at image ++ (b ∷ drop (at + 1) image)) same ∙ sym (around_byte at image inside)

-- bytes in the first eight of which alone the number is
number_8-of : (bytes : List ℕ) → 8 ≤ length bytes → number_8 bytes ≡ from_be_bytes w64 (take 8 bytes)
unfolding number_8
number_8-of bytes long = ap (from_be_bytes w64) (take-append-le 8 bytes (replicate 8 0) long)

-- images that agree on a slot have the same
pub agreed_slot : (places : ℕ → Type 0) (side : ℕ) (old new : List ℕ) → AgreesOn places old new → side + 17 ≤ length old → ((i : ℕ) → side ≤ i → i < side + 17 → places i) → slot_at side new ≡ slot_at side old
agreed_slot places side old new agrees long among =
    let gate = agrees.same side (among side (omega arith) (omega arith)) (omega (arith, long)) in
    let start = number_agreed (side + 1) (omega arith) (omega arith) in
    let field = number_agreed (side + 9) (omega arith) (omega arith) in
    λ i. record { gate = gate i; start = start i; field = field i }
  where
    number_agreed : (place : ℕ) → side ≤ place → place + 8 ≤ side + 17 → number_8 (drop place new) ≡ number_8 (drop place old)
    number_agreed place behind before =
        number_8-of (drop place new) (omega (arith, length-drop place new, agrees.no_shorter, long, before))
        ∙ ap (from_be_bytes w64) (same_range places old new place 8 agrees (omega (arith, long, before)) (λ i low high. among i (omega (arith, low, behind)) (omega (arith, high, before))))
        ∙ sym (number_8-of (drop place old) (omega (arith, length-drop place old, long, before)))

-- a torn write within an image, after its slots, leaves them
pub torn_front : (at n : ℕ) (image c : List ℕ) → 35 ≤ at → at ≤ length image → Torn at n image c → take 35 c ≡ take 35 image
torn_front at n image c behind inside torn = sym (take-take 35 at c behind) ∙ ap (take 35) (torn.before inside) ∙ take-take 35 at image behind
