-- What was read of a journal is what the writes after it rest on.
use Rattle.std.proofs.Common.{◌≡◌, ◌⊎◌, inl, inr, ⊎_elim, if◌then◌else◌, ◌==◌, ℕ, suc, ◌+◌, ◌-◌, List, ◌∷◌, ◌++◌, length, take, drop, Some, sym, subst, ◌∙◌, ap, arith, take-append-drop}
use Rattle.std.proofs.lemmas.List.{length-take-le}
use Rattle.std.proofs.Math.Seq.{drop-cons}
use Rattle.intent_journal.specs.declared.found.Found.{Found}
use Rattle.disk_model.specs.Numbers.{byte_at}
use Rattle.intent_journal.specs.Parts.{Slot, batches_of, kept_in, open_batch, size_of}
use Rattle.intent_journal.specs.Images.{first_side, is_placed, open_journal, open_slot, second_side, slot_at}
use Rattle.intent_journal.specs.Phases.{IsFound, home_of}
use Rattle.intent_journal.specs.Reading.{IsRead, Listed, live_side}
use Rattle.intent_journal.specs.States.{Stands}
use Rattle.intent_journal.proofs.Blanks.{is_found, live_tests}

-- the other side
pub sides_of : (image : List ℕ) (side other : ℕ) → live_side image ≡ Some side → other ≡ (if side == first_side then second_side else first_side)
    → ((side ≡ first_side) × (other ≡ second_side)) ⊎ ((side ≡ second_side) × (other ≡ first_side))
sides_of image side other live is = ⊎_elim
    (λ first. inl (first, is ∙ ap (λ (s : ℕ). if s == first_side then second_side else first_side) first))
    (λ second. inr (second, is ∙ ap (λ (s : ℕ). if s == first_side then second_side else first_side) second))
    (is_found image side live).sides

-- the fields of what was found, each by what was read
pub record IsNoted (image : List ℕ) (side : ℕ) (slot : Slot) (gate : ℕ) (found : Found) : Type 0 where
  pub this : found.this ≡ side
  pub sides : ((found.this ≡ first_side) × (found.other ≡ second_side)) ⊎ ((found.this ≡ second_side) × (found.other ≡ first_side))
  pub start : found.start ≡ slot.start
  pub field : found.field ≡ slot.field
  pub behind : found.gate ≡ slot.start + gate
  pub long : found.length ≡ length image
  pub also : found.also ≡ (byte_at found.other image == open_slot)
  pub cut : found.cut ≡ (byte_at gate (drop slot.start image) == open_batch)

module _ (image : List ℕ) (side : ℕ) (slot : Slot) (place : ℕ) (found : Found) (journal : byte_at 0 image ≡ open_journal) (live : live_side image ≡ Some side) (slot_is : slot ≡ slot_at side image)
    (noted : IsNoted image side slot place found) where
  abbrev part : List ℕ
  part = drop slot.start image

  home_is : (home_of found).slot ≡ slot
  home_is =
      let gate : slot.gate ≡ open_slot = ap (λ (s : Slot). s.gate) slot_is ∙ (live_tests (slot_at side image) image (is_found image side live).live).0 in
      λ i. record { gate = sym gate i; start = noted.start i; field = noted.field i }

  pub found_is : (listed : Listed) → IsRead slot part listed place → IsFound found image
  found_is listed read =
      let is = is_found image side live in
      let tests = live_tests (slot_at side image) image is.live in
      let next : suc place ≡ place + 1 = omega arith in
      let from : drop place part ≡ byte_at place part ∷ drop (place + 1) part =
      drop-cons part place 0 read.within ∙ ap (λ (k : ℕ). byte_at place part ∷ drop k part) next in
      let long : length (take place part) ≡ place = length-take-le place part (omega (arith, read.within)) in
      record {
        sides = noted.sides;
        journal = journal;
        is = ap (λ (n : ℕ). slot_at n image) noted.this ∙ sym slot_is ∙ sym home_is;
        placed = ap is_placed (home_is ∙ slot_is) ∙ tests.1;
        first_dead = λ second. is.first_dead (sym noted.this ∙ second);
        also_open = sym noted.also;
        front = take place part;
        mark = byte_at place part;
        behind = drop (place + 1) part;
        kept = kept_in slot part;
        stands = subst (λ (s : Slot). Stands s (take place part) (kept_in slot part)) (sym home_is) read.stands;
        part = ap (λ (n : ℕ). drop n image) noted.start ∙ sym (take-append-drop place part) ∙ ap (λ (l : List ℕ). take place part ++ l) from;
        at = omega (arith, noted.behind, noted.start, long);
        cut_open = sym noted.cut;
        none =
            ap (λ (s : Slot). batches_of (take (size_of s - length (take place part)) (byte_at place part ∷ drop (place + 1) part))) home_is
            ∙ ap (λ (k : ℕ). batches_of (take (size_of slot - k) (byte_at place part ∷ drop (place + 1) part))) long
            ∙ ap (λ (l : List ℕ). batches_of (take (size_of slot - place) l)) (sym from)
            ∙ read.none;
        long = noted.long;
      }
