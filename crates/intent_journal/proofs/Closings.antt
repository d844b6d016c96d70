-- The gates that are closed where a journal was found: the other slot's, and then that of a batch that is cut.
use Rattle.std.proofs.Common.{◌≡◌, ◌≢◌, inl, inr, ◌⊎◌, ⊎_elim, ℕ, ◌+◌, ◌-◌, ◌<◌, ◌≤◌, ◌==◌, ◌&&◌, Bool, true, false, List, [], ◌∷◌, ◌++◌, length, take, drop, get_or, Some, None, if◌then◌else◌, refl, sym, subst, ◌∙◌, ap, arith, length-append, length-drop}
use Rattle.std.proofs.lemmas.Bool.{cases_eq}
use Rattle.std.proofs.lemmas.Bool.Decides.{nat_tests}
use Rattle.std.proofs.lemmas.List.{get_or-drop}
use Rattle.std.proofs.Math.Seq.{get_or-append_seam}
use Rattle.disk_model.specs.Places.{Outside}
use Rattle.disk_model.specs.Writes.{Torn, written}
use Rattle.disk_model.proofs.Agreeing.{Torn-agrees}
use Rattle.disk_model.proofs.Parting.{Torn-beyond, Torn-byte, Torn-drop}
use Rattle.disk_model.proofs.Tearing.{Torn-written, length-written}
use Rattle.disk_model.proofs.Tears.{torn_wider}
use Rattle.disk_model.proofs.FourBytes.{written_one}
use Rattle.intent_journal.specs.declared.found.Found.{Found}
use Rattle.disk_model.specs.Numbers.{byte_at}
use Rattle.intent_journal.specs.Parts.{Kept, batches_of, is_whole, kept_in, open_batch, size_of}
use Rattle.intent_journal.specs.Images.{is_live, journal_in, kept_at, live_part, open_journal, open_slot, slot_at}
use Rattle.intent_journal.specs.Phases.{IsFound, IsOld, end_of, home_of}
use Rattle.intent_journal.specs.Renewals.{IsClosed, IsCut, IsFilled}
use Rattle.intent_journal.specs.States.{IsAtRest, with_more}
use Rattle.intent_journal.proofs.Alone.{alone_keeps, alone_same, first_part, placed_start, second_part}
use Rattle.intent_journal.proofs.Committing.{first_crash, rest_keeps, torn_rest}
use Rattle.intent_journal.proofs.Fronts.{part_long, with_more-nothing}
use Rattle.intent_journal.proofs.Gates.{agreed_slot, torn_front, torn_same}

-- the byte of a test that says no, and of one that says yes
pub is_other : (a b : ℕ) → (a == b) ≡ false → a ≢ b
is_other a b test same = absurd (grind (arith, nat_tests, test, same))

pub is_that : (a b : ℕ) → (a == b) ≡ true → a ≡ b
is_that a b test = grind (arith, nat_tests, test)

-- the places of the two slots
pub other_apart : (this other at n i : ℕ) → ((this ≡ 1) × (other ≡ 18)) ⊎ ((this ≡ 18) × (other ≡ 1)) → other ≤ at → at + n ≤ other + 17 → this ≤ i → i < this + 17 → Outside at n i
other_apart this other at n i (inl sides) from to low high = inl (omega (arith, sides.0, sides.1, from, to, low, high))
other_apart this other at n i (inr sides) from to low high = inr (omega (arith, sides.0, sides.1, from, to, low, high))

pub side_small : (this other : ℕ) → ((this ≡ 1) × (other ≡ 18)) ⊎ ((this ≡ 18) × (other ≡ 1)) → (this ≤ 18) × (other ≤ 18) × (0 < this) × (0 < other)
side_small this other (inl sides) = (omega (arith, sides.0), omega (arith, sides.1), omega (arith, sides.0), omega (arith, sides.1))
side_small this other (inr sides) = (omega (arith, sides.0), omega (arith, sides.1), omega (arith, sides.0), omega (arith, sides.1))

-- a write within an image leaves its length
pub torn_length : (at n : ℕ) (image c : List ℕ) → at + n ≤ length image → Torn at n image c → length c ≡ length image
torn_length at n image c inside torn = omega (arith, torn.no_shorter, torn.no_longer, inside)

-- nothing is added where no batch is after
pub keeps_no_more : (kept : Kept) (more : List (List ℕ)) → more ≡ [] → Some (with_more kept more) ≡ Some kept
keeps_no_more kept more none = ap (λ (m : List (List ℕ)). Some (with_more kept m)) none ∙ ap Some (with_more-nothing kept)

-- where one slot is open, and no batch is after the list
pub cut_keeps : (found : Found) (image : List ℕ) → (is : IsCut found image) → journal_in image ≡ Some is.kept
cut_keeps found image is =
    alone_keeps (home_of found) image is.alone is.front (is.mark ∷ is.behind) is.kept is.stands is.part (omega arith)
    ∙ keeps_no_more is.kept (batches_of (take (size_of (home_of found).slot - length is.front) (is.mark ∷ is.behind))) is.none

module _ (found : Found) (image : List ℕ) (is : IsFound found image) where
  pub found_long : found.start + length is.front < length image
  found_long = part_long found.start image is.front (is.mark ∷ is.behind) is.part (omega arith)

  found_live : is_live (home_of found).slot image ≡ true
  found_live =
      let whole : is_whole (home_of found).slot (drop found.start image) ≡ true = ap (is_whole (home_of found).slot) is.part ∙ is.stands.whole (is.mark ∷ is.behind) (omega arith) in
      ap (λ (b : Bool). b && is_whole (home_of found).slot (drop found.start image)) is.placed ∙ whole

  found_part : live_part image ≡ Some (kept_at (home_of found).slot image)
  found_part = ⊎_elim
      (λ sides. first_part image (home_of found).slot (subst (λ (n : ℕ). slot_at n image ≡ (home_of found).slot) sides.0 is.is) found_live)
      (λ sides. second_part image (home_of found).slot (is.first_dead sides.0) (subst (λ (n : ℕ). slot_at n image ≡ (home_of found).slot) sides.0 is.is) found_live)
      is.sides

  -- what the image keeps
  pub found_keeps : journal_in image ≡ Some is.kept
  found_keeps =
      let ajar : (byte_at 0 image == open_journal) ≡ true = grind (arith, nat_tests, is.journal) in
      ap (λ (b : Bool). if b then live_part image else None) ajar
      ∙ found_part
      ∙ ap (λ (p : List ℕ). Some (kept_in (home_of found).slot p)) is.part
      ∙ ap Some (is.stands.keeps (is.mark ∷ is.behind) (omega arith))
      ∙ keeps_no_more is.kept (batches_of (take (size_of (home_of found).slot - length is.front) (is.mark ∷ is.behind))) is.none

  -- where the other slot is closed
  pub found_closed : found.also ≡ false → IsCut found image
  found_closed shut = record {
    alone = record {
      sides = is.sides;
      journal = is.journal;
      is = is.is;
      gate = refl;
      placed = is.placed;
      other_closed = is_other (byte_at found.other image) open_slot (is.also_open ∙ shut);
    };
    front = is.front;
    mark = is.mark;
    behind = is.behind;
    kept = is.kept;
    stands = is.stands;
    part = is.part;
    at = is.at;
    cut_open = is.cut_open;
    none = is.none;
    long = is.long;
  }

  other_inside : found.other < length image
  other_inside = omega (arith, found_long, placed_start (home_of found).slot is.placed, (side_small found.this found.other is.sides).1)

  -- the other slot's gate is torn over, and is another than an open one
  pub other_shut : (c : List ℕ) → Torn found.other 1 image c → byte_at found.other c ≢ open_slot → length c ≡ length image → (r : IsCut found c) × (r.kept ≡ is.kept)
  other_shut c torn shut long =
      let small = side_small found.this found.other is.sides in
      let start = placed_start (home_of found).slot is.placed in
      let agrees = Torn-agrees found.other 1 image c torn in (
        record {
          alone = record {
            sides = is.sides;
            journal = agrees.same 0 (inl small.3) (omega (arith, found_long)) ∙ is.journal;
            is = agreed_slot (Outside found.other 1) found.this image c agrees (omega (arith, found_long, start, small.0)) (λ i low high. other_apart found.this found.other found.other 1 i is.sides (omega arith) (omega arith) low high) ∙ is.is;
            gate = refl;
            placed = is.placed;
            other_closed = shut;
          };
          front = is.front;
          mark = is.mark;
          behind = is.behind;
          kept = is.kept;
          stands = is.stands;
          part = Torn-beyond found.start found.other 1 image c (omega (arith, start, small.1)) torn ∙ is.part;
          at = is.at;
          cut_open = is.cut_open;
          none = is.none;
          long = is.long ∙ sym long;
        },
        refl,
      )

  -- in either case the image keeps what it kept
  pub also_torn : found.also ≡ true → (c : List ℕ) → Torn found.other 1 image c → IsOld (journal_in image) c
  also_torn open_too c torn = ⊎_elim
      (λ ajar.
      ap journal_in (torn_same found.other image c other_inside torn (ajar ∙ sym (is_that (byte_at found.other image) open_slot (is.also_open ∙ open_too)))))
      (λ shut.
      let closed = other_shut c torn shut (torn_length found.other 1 image c (omega (arith, other_inside)) torn) in
      cut_keeps found c closed.0 ∙ ap Some closed.1 ∙ sym found_keeps)
      (cases_eq (byte_at found.other c) open_slot)

  pub also_done : IsCut found (written found.other (0 ∷ []) image)
  also_done =
      let torn = Torn-written found.other (0 ∷ []) image in
      let zero = written_one found.other 0 image in
      (other_shut (written found.other (0 ∷ []) image) torn (λ same. absurd (omega (arith, zero, same))) (torn_length found.other 1 image (written found.other (0 ∷ []) image) (omega (arith, other_inside)) torn)).0

module _ (found : Found) (image : List ℕ) (is : IsCut found image) where
  pub cut_long : found.start + length is.front < length image
  cut_long = part_long found.start image is.front (is.mark ∷ is.behind) is.part (omega arith)

  pub gate_inside : found.gate < length image
  gate_inside = omega (arith, cut_long, is.at)

  -- where the gate is closed
  pub cut_closed : found.cut ≡ false → IsClosed found image
  cut_closed shut = (
    record {
      alone = is.alone;
      front = is.front;
      mark = is.mark;
      behind = is.behind;
      kept = is.kept;
      stands = is.stands;
      part = is.part;
      closed = is_other is.mark open_batch (is.cut_open ∙ shut);
      at = is.at;
    },
    is.long,
  )

  -- the gate is torn over, and is another than an open one
  pub gate_shut : (c : List ℕ) → Torn found.gate 1 image c → byte_at found.gate c ≢ open_batch → (r : IsAtRest (home_of found) found.gate c) × (r.kept ≡ is.kept)
  gate_shut c torn shut =
      let start = placed_start (home_of found).slot is.alone.placed in
      let at = found.gate - found.start in
      let place : at ≡ length is.front = omega (arith, is.at) in
      let inner = Torn-drop found.start found.gate 1 image c (omega (arith, is.at)) (omega (arith, cut_long)) torn in
      let same : get_or (drop found.start c) at 0 ≡ byte_at found.gate c =
      let there : found.start + at ≡ found.gate = omega (arith, is.at) in
      get_or-drop found.start c at 0 ∙ ap (λ (i : ℕ). get_or c i 0) there in (
        record {
          alone = alone_same (home_of found) image is.alone c (omega (arith, start, cut_long)) (omega (arith, start, cut_long, torn.no_shorter)) (torn_front found.gate 1 image c (omega (arith, is.at, start)) (omega (arith, gate_inside)) torn);
          front = is.front;
          mark = get_or (drop found.start c) at 0;
          behind = is.behind;
          kept = is.kept;
          stands = is.stands;
          part = Torn-byte is.front is.behind (drop found.start c) is.mark at place (subst (λ (l : List ℕ). Torn at 1 l (drop found.start c)) is.part inner);
          closed = subst (λ (b : ℕ). b ≢ open_batch) (sym same) shut;
          at = is.at;
        },
        refl,
      )

  is_mark : byte_at found.gate image ≡ is.mark
  is_mark =
      let there : found.start + length is.front ≡ found.gate = omega (arith, is.at) in
      ap (λ (i : ℕ). get_or image i 0) (sym there) ∙ sym (get_or-drop found.start image (length is.front) 0) ∙ ap (λ (l : List ℕ). get_or l (length is.front) 0) is.part
      ∙ get_or-append_seam is.front is.mark is.behind 0

  pub cut_torn : found.cut ≡ true → (c : List ℕ) → Torn found.gate 1 image c → IsOld (journal_in image) c
  cut_torn ajar c torn = ⊎_elim
      (λ still. ap journal_in (torn_same found.gate image c gate_inside torn (still ∙ sym (is_that is.mark open_batch (is.cut_open ∙ ajar)) ∙ sym is_mark)))
      (λ shut.
      let rest = gate_shut c torn shut in
      rest_keeps (home_of found) found.gate c rest.0 ∙ ap Some rest.1 ∙ sym (cut_keeps found image is))
      (cases_eq (byte_at found.gate c) open_batch)

  pub cut_done : IsClosed found (written found.gate (0 ∷ []) image)
  cut_done =
      let torn = Torn-written found.gate (0 ∷ []) image in
      let zero = written_one found.gate 0 image in (
        (gate_shut (written found.gate (0 ∷ []) image) torn (λ same. absurd (omega (arith, zero, same)))).0,
        is.long ∙ sym (torn_length found.gate 1 image (written found.gate (0 ∷ []) image) (omega (arith, gate_inside)) torn),
      )

module _ (found : Found) (image : List ℕ) (is : IsClosed found image) where
  -- where the image reaches the end of the part
  pub reaches : end_of found ≤ found.length → IsFilled found image
  reaches long = (is.0, omega (arith, long, is.1))

  gate_before : found.length < end_of found → found.gate + 1 ≤ end_of found - 1
  gate_before short =
      omega (arith, short, is.1, is.0.at, part_long found.start image is.0.front (is.0.mark ∷ is.0.behind) is.0.part (omega arith))

  wide_torn : found.length < end_of found → (c : List ℕ) → Torn (end_of found - 1) 1 image c → Torn (found.gate + 1) (end_of found - (found.gate + 1)) image c
  wide_torn short c torn =
      torn_wider (end_of found - 1) 1 (found.gate + 1) (end_of found - (found.gate + 1)) image c (gate_before short) (omega (arith, gate_before short)) torn

  -- where it doesn't, its last byte is written after the image
  pub fill_torn : found.length < end_of found → (c : List ℕ) → Torn (end_of found - 1) 1 image c → IsOld (journal_in image) c
  fill_torn short c torn = first_crash (home_of found) found.gate (end_of found - (found.gate + 1)) image c is.0 (wide_torn short c torn)

  pub fill_done : found.length < end_of found → IsFilled found (written (end_of found - 1) (0 ∷ []) image)
  fill_done short =
      let now = written (end_of found - 1) (0 ∷ []) image in
      let torn = wide_torn short now (Torn-written (end_of found - 1) (0 ∷ []) image) in (
        (torn_rest (home_of found) found.gate image is.0 (end_of found - (found.gate + 1)) now torn).0,
        omega (arith, length-written (end_of found - 1) (0 ∷ []) image, short),
      )
