-- The change from the part that was found to the new one: its slot is opened, and then the old one closed.
use Rattle.std.proofs.Common.{◌≡◌, ◌≢◌, inl, inr, ◌⊎◌, ⊎_elim, ◌==◌, ◌&&◌, Bool, true, ℕ, ◌+◌, ◌-◌, ◌<◌, ◌∷◌, [], List, ◌++◌, length, take, drop, Some, None, if◌then◌else◌, refl, sym, subst, ◌∙◌, ap, arith}
use Rattle.std.proofs.lemmas.Bool.{cases_eq}
use Rattle.std.proofs.lemmas.Bool.Decides.{nat_tests}
use Rattle.disk_model.specs.Places.{Outside}
use Rattle.disk_model.specs.Writes.{Torn, written}
use Rattle.disk_model.proofs.Agreeing.{Torn-agrees}
use Rattle.disk_model.proofs.Parting.{Torn-beyond}
use Rattle.disk_model.proofs.Tearing.{Torn-written}
use Rattle.disk_model.proofs.FourBytes.{written_one}
use Rattle.intent_journal.specs.declared.found.Found.{Found}
use Rattle.disk_model.specs.Numbers.{byte_at, number_8}
use Rattle.intent_journal.specs.Parts.{Kept, Slot, batches_of, is_second, is_whole, kept_in, new_front, open_batch, size_of}
use Rattle.intent_journal.specs.Images.{first_side, is_live, is_placed, journal_in, kept_at, live_part, open_journal, open_slot, second_side, slot_at}
use Rattle.intent_journal.specs.Phases.{IsFresh, IsOldOrNew, Planned, home_of}
use Rattle.intent_journal.specs.Renewals.{IsBoth, IsMoved, IsNamed, IsOpened, new_home, new_slot, new_start}
use Rattle.intent_journal.specs.States.{Home, IsAlone, IsAtRest, Stands, with_more}
use Rattle.intent_journal.proofs.Alone.{alone_keeps, first_part, placed_start}
use Rattle.intent_journal.proofs.Batches.{batches_closed}
use Rattle.intent_journal.proofs.Closings.{keeps_no_more, other_apart, side_small}
use Rattle.intent_journal.proofs.Committing.{rest_keeps}
use Rattle.intent_journal.proofs.Fronts.{part_long, with_more-nothing}
use Rattle.intent_journal.proofs.Gates.{agreed_slot, torn_same}

-- a part with a closed gate after its front, in an open slot
module _ (slot : Slot) (image front behind : List ℕ) (mark : ℕ) (kept : Kept) (stands : Stands slot front kept) (part : drop slot.start image ≡ front ++ (mark ∷ behind)) where
  pub live_is : slot.gate ≡ open_slot → is_placed slot ≡ true → is_live slot image ≡ true
  live_is gate placed =
      let ajar : (slot.gate == open_slot) ≡ true = grind (arith, nat_tests, gate) in
      ap (λ (b : Bool). b && (is_placed slot && is_whole slot (drop slot.start image))) ajar
      ∙ ap (λ (b : Bool). b && is_whole slot (drop slot.start image)) placed
      ∙ ap (is_whole slot) part ∙ stands.whole (mark ∷ behind) (omega arith)

  pub keeps_is : mark ≢ open_batch → kept_at slot image ≡ kept
  keeps_is closed =
      ap (kept_in slot) part ∙ stands.keeps (mark ∷ behind) (omega arith)
      ∙ ap (with_more kept) (batches_closed mark (size_of slot - length front) behind closed) ∙ with_more-nothing kept

pub not_open : 0 ≢ open_batch
not_open same = absurd (omega (arith, same))

-- a journal whose live part is known
journal_is : (image : List ℕ) (kept : Kept) → byte_at 0 image ≡ open_journal → live_part image ≡ Some kept → journal_in image ≡ Some kept
journal_is image kept journal live =
    let ajar : (byte_at 0 image == open_journal) ≡ true = grind (arith, nat_tests, journal) in
    ap (λ (b : Bool). if b then live_part image else None) ajar ∙ live

-- the other slot names the new part: both parts stand
pub named_both : (found : Found) (part : Planned) (image : List ℕ) → (is : IsNamed found part image) → (r : IsBoth found part image) × (r.kept ≡ is.laid.rest.kept)
named_both found part image is = (
  record {
    sides = is.laid.rest.alone.sides;
    journal = is.laid.rest.alone.journal;
    old_is = is.laid.rest.alone.is;
    old_placed = is.laid.rest.alone.placed;
    front = is.laid.rest.front;
    mark = is.laid.rest.mark;
    behind = is.laid.rest.behind;
    kept = is.laid.rest.kept;
    old_stands = is.laid.rest.stands;
    old_part = is.laid.rest.part;
    old_closed = is.laid.rest.closed;
    placed = is.laid.placed;
    stands = is.laid.stands;
    more = is.laid.more;
    there = is.laid.there;
    named = is.named;
  },
  refl,
)

module _ (found : Found) (part : Planned) (image : List ℕ) (is : IsBoth found part image) where
  pub both_long : found.start + length is.front < length image
  both_long = part_long found.start image is.front (is.mark ∷ is.behind) is.old_part (omega arith)

  -- while the other slot is closed, the image keeps what it kept
  both_closed : byte_at found.other image ≢ open_slot → journal_in image ≡ Some is.kept
  both_closed shut =
      let alone : IsAlone (home_of found) image =
      record { sides = is.sides; journal = is.journal; is = is.old_is; gate = refl; placed = is.old_placed; other_closed = shut } in
      alone_keeps (home_of found) image alone is.front (is.mark ∷ is.behind) is.kept is.old_stands is.old_part (omega arith)
      ∙ keeps_no_more is.kept (batches_of (take (size_of (home_of found).slot - length is.front) (is.mark ∷ is.behind)))
      (batches_closed is.mark (size_of (home_of found).slot - length is.front) is.behind is.old_closed)

  other_is : byte_at found.other image ≡ open_slot → slot_at found.other image ≡ new_slot found part
  other_is ajar = is.named ∙ ap (λ (g : ℕ). record (new_slot found part) { gate = g }) ajar

  -- once it is open, that or what the new part keeps
  both_open : byte_at found.other image ≡ open_slot → IsOldOrNew (Some is.kept) part.kept image
  both_open ajar = ⊎_elim
      (λ sides. inl (journal_is image is.kept is.journal (
      first_part image (home_of found).slot (subst (λ (n : ℕ). slot_at n image ≡ (home_of found).slot) sides.0 is.old_is)
      (live_is (home_of found).slot image is.front is.behind is.mark is.kept is.old_stands is.old_part refl is.old_placed)
      ∙ ap Some (keeps_is (home_of found).slot image is.front is.behind is.mark is.kept is.old_stands is.old_part is.old_closed))))
      (λ sides. inr (journal_is image part.kept is.journal (
      first_part image (new_slot found part) (subst (λ (n : ℕ). slot_at n image ≡ new_slot found part) sides.1 (other_is ajar))
      (live_is (new_slot found part) image (new_front part.kept) is.more 0 part.kept is.stands is.there refl is.placed)
      ∙ ap Some (keeps_is (new_slot found part) image (new_front part.kept) is.more 0 part.kept is.stands is.there not_open))))
      is.sides

  pub both_keeps : IsOldOrNew (Some is.kept) part.kept image
  both_keeps = ⊎_elim both_open (λ shut. inl (both_closed shut)) (cases_eq (byte_at found.other image) open_slot)

  pub this_inside : found.this < length image
  this_inside = omega (arith, both_long, placed_start (home_of found).slot is.old_placed, (side_small found.this found.other is.sides).0)

  -- the other slot's gate is torn over, and may be anything
  pub both_torn : (c : List ℕ) → Torn found.other 1 image c → (r : IsBoth found part c) × (r.kept ≡ is.kept)
  both_torn c torn =
      let small = side_small found.this found.other is.sides in
      let start = placed_start (home_of found).slot is.old_placed in
      let new = placed_start (new_slot found part) is.placed in
      let agrees = Torn-agrees found.other 1 image c torn in
      let same_start = ap number_8 (Torn-beyond (found.other + 1) found.other 1 image c (omega arith) torn) ∙ ap (λ (s : Slot). s.start) is.named in
      let same_field = ap number_8 (Torn-beyond (found.other + 9) found.other 1 image c (omega arith) torn) ∙ ap (λ (s : Slot). s.field) is.named in (
        record {
          sides = is.sides;
          journal = agrees.same 0 (inl small.3) (omega (arith, both_long)) ∙ is.journal;
          old_is = agreed_slot (Outside found.other 1) found.this image c agrees (omega (arith, both_long, start, small.0))
              (λ i low high. other_apart found.this found.other found.other 1 i is.sides (omega arith) (omega arith) low high) ∙ is.old_is;
          old_placed = is.old_placed;
          front = is.front;
          mark = is.mark;
          behind = is.behind;
          kept = is.kept;
          old_stands = is.old_stands;
          old_part = Torn-beyond found.start found.other 1 image c (omega (arith, start, small.1)) torn ∙ is.old_part;
          old_closed = is.old_closed;
          placed = is.placed;
          stands = is.stands;
          more = is.more;
          there = Torn-beyond (new_start found part.size) found.other 1 image c (omega (arith, new, small.1)) torn ∙ is.there;
          named = λ k. record { gate = byte_at found.other c; start = same_start k; field = same_field k };
        },
        refl,
      )

  swapped : ((found.other ≡ first_side) × (found.this ≡ second_side)) ⊎ ((found.other ≡ second_side) × (found.this ≡ first_side))
  swapped = ⊎_elim (λ sides. inr (sides.1, sides.0)) (λ sides. inl (sides.1, sides.0)) is.sides

  -- the old slot's gate is torn over, and opens nothing
  pub this_shut : (c : List ℕ) → byte_at found.other image ≡ open_slot → Torn found.this 1 image c → byte_at found.this c ≢ open_slot → IsMoved (new_home found part) part c
  this_shut c ajar torn shut =
      let small = side_small found.this found.other is.sides in
      let start = placed_start (home_of found).slot is.old_placed in
      let new = placed_start (new_slot found part) is.placed in
      let agrees = Torn-agrees found.this 1 image c torn in
      record {
        alone = record {
          sides = swapped;
          journal = agrees.same 0 (inl small.2) (omega (arith, both_long)) ∙ is.journal;
          is = agreed_slot (Outside found.this 1) found.other image c agrees (omega (arith, both_long, start, small.1))
              (λ i low high. other_apart found.other found.this found.this 1 i swapped (omega arith) (omega arith) low high) ∙ other_is ajar;
          gate = refl;
          placed = is.placed;
          other_closed = shut;
        };
        stands = is.stands;
        more = is.more;
        there = Torn-beyond (new_start found part.size) found.this 1 image c (omega (arith, new, small.0)) torn ∙ is.there;
      }

-- the new part is at rest after its list
module _ (home : Home) (part : Planned) (image : List ℕ) (is : IsMoved home part image) where
  pub moved_rest : (r : IsAtRest home (home.slot.start + length (new_front part.kept)) image) × (r.kept ≡ part.kept)
  moved_rest = (
    record {
      alone = is.alone;
      front = new_front part.kept;
      mark = 0;
      behind = is.more;
      kept = part.kept;
      stands = is.stands;
      part = is.there;
      closed = not_open;
      at = refl;
    },
    refl,
  )

  pub moved_keeps : journal_in image ≡ Some part.kept
  moved_keeps = rest_keeps home (home.slot.start + length (new_front part.kept)) image moved_rest.0 ∙ ap Some moved_rest.1

  pub moved_fresh : is_second home.slot ≡ true → IsFresh part.kept image
  moved_fresh second = record { home = home; more = is.more; alone = is.alone; second = second; part = is.there; keeps = moved_keeps }

module _ (found : Found) (part : Planned) (image : List ℕ) (is : IsNamed found part image) where
  named_old : journal_in image ≡ Some is.laid.rest.kept
  named_old = rest_keeps (home_of found) found.gate image is.laid.rest

  other_inside : found.other < length image
  other_inside =
      let both = (named_both found part image is).0 in
      omega (arith, both_long found part image both, placed_start (home_of found).slot both.old_placed, (side_small found.this found.other both.sides).1)

  -- a crash while the new slot is opened
  pub open_torn : (c : List ℕ) → Torn found.other 1 image c → IsOldOrNew (journal_in image) part.kept c
  open_torn c torn =
      let both = named_both found part image is in
      let after = both_torn found part image both.0 c torn in
      ⊎_elim (λ old. inl (old ∙ ap Some (after.1 ∙ both.1) ∙ sym named_old)) inr (both_keeps found part c after.0)

  pub open_done : IsOpened found part (written found.other (open_slot ∷ []) image)
  open_done =
      let both = named_both found part image is in
      let now = written found.other (open_slot ∷ []) image in
      ((both_torn found part image both.0 now (Torn-written found.other (open_slot ∷ []) image)).0, written_one found.other open_slot image)

module _ (found : Found) (part : Planned) (image : List ℕ) (is : IsOpened found part image) where
  -- a crash while the old slot is closed
  pub shut_torn : (c : List ℕ) → Torn found.this 1 image c → IsOldOrNew (journal_in image) part.kept c
  shut_torn c torn = ⊎_elim
      (λ still. inl (ap journal_in (torn_same found.this image c (this_inside found part image is.0) torn (still ∙ sym (ap (λ (s : Slot). s.gate) is.0.old_is)))))
      (λ shut. inr (moved_keeps (new_home found part) part c (this_shut found part image is.0 c is.1 torn shut)))
      (cases_eq (byte_at found.this c) open_slot)

  pub shut_done : IsMoved (new_home found part) part (written found.this (0 ∷ []) image)
  shut_done =
      let zero = written_one found.this 0 image in
      this_shut found part image is.0 (written found.this (0 ∷ []) image) is.1 (Torn-written found.this (0 ∷ []) image) (λ same. absurd (omega (arith, zero, same)))
