-- The new part that is written beside the live one, and the other slot that comes to name it.
use Rattle.std.proofs.Common.{◌≡◌, inl, inr, ◌⊎◌, ⊎_elim, nat_le, Bool, true, ℕ, ◌+◌, ◌-◌, ◌<◌, ◌≤◌, ◌^◌, ◌∷◌, [], List, ◌++◌, length, take, drop, replicate, Some, if◌then◌else◌, refl, sym, ◌∙◌, ap, arith, length-append}
use Rattle.std.proofs.lemmas.Bool.{cases_Bool}
use Rattle.std.proofs.lemmas.Bool.Decides.{nat_tests}
use Rattle.std.proofs.lemmas.List.{append_assoc, drop-drop, drop_at, take_at}
use Rattle.std.proofs.lemmas.Nat.{from_be_bytes-to_be_bytes_8}
use Rattle.std.specs.Int.{w64, from_be_bytes, to_be_bytes}
use Rattle.disk_model.specs.Places.{Outside}
use Rattle.disk_model.specs.Writes.{Torn, written}
use Rattle.disk_model.proofs.Agreeing.{Torn-agrees}
use Rattle.disk_model.proofs.Parting.{Torn-beyond}
use Rattle.disk_model.proofs.Tearing.{Torn-written, drop-written}
use Rattle.disk_model.proofs.Tears.{torn_wider}
use Rattle.intent_journal.specs.declared.found.Found.{Found}
use Rattle.disk_model.specs.Numbers.{byte_at, bytes_8, number_8}
use Rattle.intent_journal.specs.Parts.{is_second, new_front, size_of}
use Rattle.intent_journal.specs.Images.{is_placed, journal_in}
use Rattle.intent_journal.specs.Makings.{name_of}
use Rattle.intent_journal.specs.Phases.{IsOld, IsPlanned, Planned, end_of, home_of, slot_for}
use Rattle.intent_journal.specs.Renewals.{IsFilled, IsLaid, IsNamed, new_slot, new_start}
use Rattle.intent_journal.specs.States.{IsAtRest}
use Rattle.intent_journal.proofs.Alone.{alone_same, placed_start}
use Rattle.intent_journal.proofs.Closings.{other_apart, side_small}
use Rattle.intent_journal.proofs.Fronts.{part_long}
use Rattle.intent_journal.proofs.Committing.{rest_keeps, torn_rest}
use Rattle.intent_journal.proofs.Gates.{agreed_slot, torn_front}
use Rattle.intent_journal.proofs.NewParts.{Stands-new}

-- a slot of the second format
pub second_is : (start size : ℕ) → is_second (slot_for start size) ≡ true
second_is start size = grind (arith, nat_tests)

pub second_size : (start size : ℕ) → size_of (slot_for start size) ≡ size
second_size start size = ap (λ (b : Bool). if b then 2 ^ 62 + size - 2 ^ 62 else 2 ^ 62 + size) (second_is start size) ∙ omega arith

pub second_placed : (start size : ℕ) → 35 ≤ start → start < 2 ^ 62 → size ≤ 1000000000 → is_placed (slot_for start size) ≡ true
unfolding is_placed
second_placed start size low high small = grind (arith, nat_tests, low, high, small, second_size start size)

-- where the new part stands: in front of the live one, or after it
pub either_start : (found : Found) (size : ℕ) → ((35 + size ≤ found.start) × (new_start found size ≡ 35)) ⊎ (new_start found size ≡ end_of found)
either_start found size = ⊎_elim
    (λ fits. inl (grind (arith, nat_tests, fits), ap (λ (b : Bool). if b then 35 else end_of found) fits))
    (λ full. inr (ap (λ (b : Bool). if b then 35 else end_of found) full))
    (cases_Bool (nat_le (35 + size) found.start))

pub start_small : (found : Found) (size : ℕ) → end_of found < 2 ^ 62 → new_start found size < 2 ^ 62
start_small found size small = ⊎_elim (λ front. omega (arith, front.1)) (λ behind. omega (arith, behind, small)) (either_start found size)

pub long_8 : (n : ℕ) → length (bytes_8 n) ≡ 8
unfolding bytes_8
long_8 n = refl

-- the number that was written is read
pub number_8-bytes_8 : (n : ℕ) (tail : List ℕ) → n < 2 ^ 64 → number_8 (bytes_8 n ++ tail) ≡ n
unfolding number_8 bytes_8
number_8-bytes_8 n tail small =
    ap (λ (l : List ℕ). from_be_bytes w64 (take 8 l)) (append_assoc (to_be_bytes w64 n) tail (replicate 8 0))
    ∙ ap (from_be_bytes w64) (take_at (to_be_bytes w64 n) (tail ++ replicate 8 0) 8 refl)
    ∙ from_be_bytes-to_be_bytes_8 n small

module _ (found : Found) (part : Planned) (image : List ℕ) (is : IsFilled found image) (bytes : List ℕ) (planned : IsPlanned part bytes) (small : end_of found < 2 ^ 62) where
  abbrev at : ℕ
  at = new_start found part.size

  live_start : 35 ≤ found.start
  live_start = placed_start (home_of found).slot is.0.alone.placed

  low : 35 ≤ at
  low = ⊎_elim (λ front. omega (arith, front.1)) (λ behind. omega (arith, behind, live_start)) (either_start found part.size)

  high : at < 2 ^ 62
  high = start_small found part.size small

  -- the write leaves the journal at rest
  lay_rest : (c : List ℕ) → Torn at (length bytes) image c → (r : IsAtRest (home_of found) found.gate c) × (r.kept ≡ is.0.kept)
  lay_rest c torn =
      let long = part_long found.start image is.0.front (is.0.mark ∷ is.0.behind) is.0.part (omega arith) in
      ⊎_elim
      (λ front. (
        record {
          alone = alone_same (home_of found) image is.0.alone c (omega (arith, long, live_start)) (omega (arith, long, live_start, torn.no_shorter))
              (torn_front at (length bytes) image c low (omega (arith, front.1, long, live_start)) torn);
          front = is.0.front;
          mark = is.0.mark;
          behind = is.0.behind;
          kept = is.0.kept;
          stands = is.0.stands;
          part = Torn-beyond found.start at (length bytes) image c (omega (arith, front.0, front.1, planned.fits)) torn ∙ is.0.part;
          closed = is.0.closed;
          at = is.0.at;
        },
        refl,
      ))
      (λ behind.
      let before : found.gate + 1 ≤ at = omega (arith, behind, is.0.at, is.0.stands.fits) in
      let rest = torn_rest (home_of found) found.gate image is.0 (at + length bytes - (found.gate + 1)) c (torn_wider at (length bytes) (found.gate + 1) (at + length bytes - (found.gate + 1)) image c before (omega (arith, before)) torn) in
      (rest.0, rest.1))
      (either_start found part.size)

  pub lay_torn : (c : List ℕ) → Torn at (length bytes) image c → IsOld (journal_in image) c
  lay_torn c torn =
      let rest = lay_rest c torn in
      rest_keeps (home_of found) found.gate c rest.0 ∙ ap Some rest.1 ∙ sym (rest_keeps (home_of found) found.gate image is.0)

  -- where it is done, the part stands there
  pub lay_done : IsLaid found part (written at bytes image)
  lay_done = record {
    rest = (lay_rest (written at bytes image) (Torn-written at bytes image)).0;
    placed = second_placed at part.size low high planned.small;
    stands = Stands-new part.kept planned.can_be (new_slot found part) (second_is at part.size)
        (omega (arith, ap length planned.is, length-append (new_front part.kept) (0 ∷ []), planned.fits, second_size at part.size));
    more = drop (at + length bytes) image;
    there =
        drop-written at bytes image
        ∙ ap (λ (l : List ℕ). l ++ drop (at + length bytes) image) planned.is
        ∙ append_assoc (new_front part.kept) (0 ∷ []) (drop (at + length bytes) image);
  }

-- the bytes of the place and the size
abbrev pub name_bytes : Found → Planned → List ℕ
name_bytes found part = name_of (new_start found part.size) part.size

pub long_name : (found : Found) (part : Planned) → length (name_bytes found part) ≡ 16
long_name found part =
    omega (arith, length-append (bytes_8 (new_start found part.size)) (bytes_8 (2 ^ 62 + part.size)), long_8 (new_start found part.size), long_8 (2 ^ 62 + part.size))

module _ (found : Found) (part : Planned) (image : List ℕ) (is : IsLaid found part image) where
  abbrev place : ℕ
  place = new_start found part.size

  abbrev name : List ℕ
  name = name_bytes found part

  laid_long : found.start + length is.rest.front < length image
  laid_long = part_long found.start image is.rest.front (is.rest.mark ∷ is.rest.behind) is.rest.part (omega arith)

  -- a write over the other slot's place and size leaves all else
  pub name_laid : (c : List ℕ) → Torn (found.other + 1) 16 image c → (r : IsLaid found part c) × (r.rest.kept ≡ is.rest.kept)
  name_laid c torn =
      let alone = is.rest.alone in
      let small = side_small found.this found.other alone.sides in
      let start = placed_start (home_of found).slot alone.placed in
      let new = placed_start (new_slot found part) is.placed in
      let agrees = Torn-agrees (found.other + 1) 16 image c torn in (
        record {
          rest = record {
            alone = record {
              sides = alone.sides;
              journal = agrees.same 0 (inl (omega arith)) (omega (arith, laid_long)) ∙ alone.journal;
              is = agreed_slot (Outside (found.other + 1) 16) found.this image c agrees (omega (arith, laid_long, start, small.0))
                  (λ i low high. other_apart found.this found.other (found.other + 1) 16 i alone.sides (omega arith) (omega arith) low high) ∙ alone.is;
              gate = alone.gate;
              placed = alone.placed;
              other_closed = rw (agrees.same found.other (inl (omega arith)) (omega (arith, laid_long, start, small.1))) alone.other_closed;
            };
            front = is.rest.front;
            mark = is.rest.mark;
            behind = is.rest.behind;
            kept = is.rest.kept;
            stands = is.rest.stands;
            part = Torn-beyond found.start (found.other + 1) 16 image c (omega (arith, start, small.1)) torn ∙ is.rest.part;
            closed = is.rest.closed;
            at = is.rest.at;
          };
          placed = is.placed;
          stands = is.stands;
          more = is.more;
          there = Torn-beyond place (found.other + 1) 16 image c (omega (arith, new, small.1)) torn ∙ is.there;
        },
        refl,
      )

  pub name_torn : (c : List ℕ) → Torn (found.other + 1) 16 image c → IsOld (journal_in image) c
  name_torn c torn =
      let laid = name_laid c torn in
      rest_keeps (home_of found) found.gate c laid.0.rest ∙ ap Some laid.1 ∙ sym (rest_keeps (home_of found) found.gate image is.rest)

  pub name_done : place < 2 ^ 64 → part.size ≤ 1000000000 → IsNamed found part (written (found.other + 1) (name_bytes found part) image)
  name_done low small =
      let now = written (found.other + 1) name image in
      let long : length name ≡ 16 = long_name found part in
      let torn : Torn (found.other + 1) 16 image now = rw (← long) (Torn-written (found.other + 1) name image) in
      let rest = drop (found.other + 1 + length name) image in
      let there : drop (found.other + 1) now ≡ bytes_8 place ++ (bytes_8 (2 ^ 62 + part.size) ++ rest) =
      drop-written (found.other + 1) name image ∙ append_assoc (bytes_8 place) (bytes_8 (2 ^ 62 + part.size)) rest in
      let later : drop (found.other + 9) now ≡ bytes_8 (2 ^ 62 + part.size) ++ rest =
      let is_place : found.other + 1 + 8 ≡ found.other + 9 = omega arith in
      ap (λ (i : ℕ). drop i now) (sym is_place) ∙ sym (drop-drop 8 (found.other + 1) now) ∙ ap (drop 8) there
      ∙ drop_at (bytes_8 place) (bytes_8 (2 ^ 62 + part.size) ++ rest) 8 (long_8 place) in
      let start = ap number_8 there ∙ number_8-bytes_8 place (bytes_8 (2 ^ 62 + part.size) ++ rest) low in
      let field = ap number_8 later ∙ number_8-bytes_8 (2 ^ 62 + part.size) rest (omega (arith, small)) in
      record { laid = (name_laid now torn).0; named = λ k. record { gate = byte_at found.other now; start = start k; field = field k } }
