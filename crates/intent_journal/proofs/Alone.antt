-- Where one slot alone is open, its part says what the image keeps.
use Rattle.std.proofs.Common.{◌≡◌, ◌≢◌, ⊎_elim, ℕ, ◌-◌, ◌<◌, ◌≤◌, ◌==◌, ◌&&◌, Bool, true, false, List, ◌++◌, length, take, drop, Option, Some, None, if◌then◌else◌, sym, subst, ◌∙◌, ap, arith}
use Rattle.std.proofs.lemmas.Bool.Decides.{nat_tests}
use Rattle.disk_model.specs.Numbers.{byte_at}
use Rattle.intent_journal.specs.Parts.{Kept, Slot, batches_of, is_whole, kept_in, size_of}
use Rattle.intent_journal.specs.Images.{first_side, is_live, is_placed, journal_in, kept_at, live_part, open_journal, open_slot, second_side, slot_at}
use Rattle.intent_journal.specs.States.{Home, IsAlone, Stands, with_more}
use Rattle.intent_journal.proofs.Headers.{same_byte, same_slot}

-- a part stands after the slots
pub placed_start : (slot : Slot) → is_placed slot ≡ true → 35 ≤ slot.start
unfolding is_placed
placed_start slot placed = grind (arith, nat_tests, placed)

-- the part of a slot that is live
pub first_part : (image : List ℕ) (slot : Slot) → slot_at first_side image ≡ slot → is_live slot image ≡ true → live_part image ≡ Some (kept_at slot image)
first_part image slot is live =
    let second = slot_at second_side image in
    let rest : Option Kept = if is_live second image then Some (kept_at second image) else None in
    ap (λ (s : Slot). if is_live s image then Some (kept_at s image) else rest) is ∙ ap (λ (b : Bool). if b then Some (kept_at slot image) else rest) live

pub second_part : (image : List ℕ) (slot : Slot) → is_live (slot_at first_side image) image ≡ false → slot_at second_side image ≡ slot → is_live slot image ≡ true → live_part image ≡ Some (kept_at slot image)
second_part image slot dead is live =
    let first = slot_at first_side image in
    let second = slot_at second_side image in
    ap (λ (b : Bool). if b then Some (kept_at first image) else if is_live second image then Some (kept_at second image) else None) dead
    ∙ ap (λ (s : Slot). if is_live s image then Some (kept_at s image) else None) is ∙ ap (λ (b : Bool). if b then Some (kept_at slot image) else None) live

-- a slot whose gate isn't open is not live
pub dead_slot : (image : List ℕ) (slot : Slot) → slot.gate ≢ open_slot → is_live slot image ≡ false
dead_slot image slot closed =
    let shut : (slot.gate == open_slot) ≡ false = grind (arith, nat_tests, closed) in
    ap (λ (b : Bool). b && (is_placed slot && is_whole slot (drop slot.start image))) shut

pub live_slot : (image : List ℕ) (slot : Slot) → slot.gate ≡ open_slot → is_placed slot ≡ true → is_whole slot (drop slot.start image) ≡ true → is_live slot image ≡ true
live_slot image slot gate placed whole =
    let ajar : (slot.gate == open_slot) ≡ true = grind (arith, nat_tests, gate) in
    ap (λ (b : Bool). b && (is_placed slot && is_whole slot (drop slot.start image))) ajar
    ∙ ap (λ (b : Bool). b && is_whole slot (drop slot.start image)) placed ∙ whole

module _ (home : Home) (image : List ℕ) (alone : IsAlone home image) where
  alone_part : is_whole home.slot (drop home.slot.start image) ≡ true → live_part image ≡ Some (kept_at home.slot image)
  alone_part whole =
      let live = live_slot image home.slot alone.gate alone.placed whole in
      let is = alone.is in
      let closed = alone.other_closed in
      ⊎_elim
      (λ sides. first_part image home.slot (subst (λ (n : ℕ). slot_at n image ≡ home.slot) sides.0 is) live)
      (λ sides. second_part image home.slot (dead_slot image (slot_at first_side image) (subst (λ (n : ℕ). byte_at n image ≢ open_slot) sides.1 closed)) (subst (λ (n : ℕ). slot_at n image ≡ home.slot) sides.0 is) live)
      alone.sides

  -- the image keeps what its front does, and the batches after
  pub alone_keeps : (front tail : List ℕ) (kept : Kept) → Stands home.slot front kept → drop home.slot.start image ≡ front ++ tail → 0 < length tail
      → journal_in image ≡ Some (with_more kept (batches_of (take (size_of home.slot - length front) tail)))
  alone_keeps front tail kept stands part some =
      let whole : is_whole home.slot (drop home.slot.start image) ≡ true = ap (is_whole home.slot) part ∙ stands.whole tail some in
      let ajar : (byte_at 0 image == open_journal) ≡ true = grind (arith, nat_tests, alone.journal) in
      ap (λ (b : Bool). if b then live_part image else None) ajar
      ∙ alone_part whole
      ∙ ap (λ (p : List ℕ). Some (kept_in home.slot p)) part
      ∙ ap Some (stands.keeps tail some)

  -- an image with the same gate and slots
  pub alone_same : (new : List ℕ) → 35 ≤ length image → 35 ≤ length new → take 35 new ≡ take 35 image → IsAlone home new
  alone_same new long_old long_new same =
      let this_small : home.this ≤ 18 = ⊎_elim (λ sides. omega (arith, sides.0)) (λ sides. omega (arith, sides.0)) alone.sides in
      let other_small : home.other < 35 = ⊎_elim (λ sides. omega (arith, sides.1)) (λ sides. omega (arith, sides.1)) alone.sides in
      record {
        sides = alone.sides;
        journal = same_byte image new same long_old long_new 0 (omega arith) ∙ alone.journal;
        is = same_slot image new same long_old long_new home.this this_small ∙ alone.is;
        gate = alone.gate;
        placed = alone.placed;
        other_closed = subst (λ (b : ℕ). b ≢ open_slot) (sym (same_byte image new same long_old long_new home.other other_small)) alone.other_closed;
      }
