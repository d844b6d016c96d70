-- Images of which no journal was made yet, and what the first writes make of them.
use Rattle.std.proofs.Common.{◌≡◌, ◌≢◌, inl, inr, ◌⊎◌, ⊎_elim, nat_le, ◌==◌, ◌&&◌, ◌||◌, not, Bool, true, false, ℕ, ◌+◌, ◌<◌, ◌≤◌, ◌∷◌, [], List, length, drop, refl, ◌∙◌, ap, arith}
use Rattle.std.proofs.lemmas.Bool.{cases_eq, cases_lt}
use Rattle.std.proofs.lemmas.Bool.Decides.{nat_tests}
use Rattle.disk_model.specs.Writes.{Torn, written}
use Rattle.disk_model.proofs.Agreeing.{Torn-agrees}
use Rattle.disk_model.proofs.Tearing.{length-written}
use Rattle.disk_model.specs.Numbers.{byte_at}
use Rattle.disk_model.proofs.FourBytes.{written_one}
use Rattle.intent_journal.specs.Images.{blank_most, journal_in, keeps_nothing, live_part, open_journal, opened}
use Rattle.intent_journal.specs.Makings.{IsBlank, IsBlankOrTorn, IsClear}
use Rattle.intent_journal.specs.Phases.{IsBlankFound}

-- the test of a blank image, by its parts
blank_test : (n most first gate : ℕ) (empty : Bool) → n ≤ most → (first ≡ 0) ⊎ ((first ≢ gate) × (empty ≡ true)) → (nat_le n 1 || (nat_le n most && ((first == 0) || (not (first == gate) && empty)))) ≡ true
blank_test n most first gate empty few (inl zero) = grind (arith, nat_tests, few, zero)
blank_test n most first gate empty few (inr torn) = grind (arith, nat_tests, few, torn.0, torn.1)

blank_few : (n most first gate : ℕ) (empty : Bool) → 1 ≤ most → (nat_le n 1 || (nat_le n most && ((first == 0) || (not (first == gate) && empty)))) ≡ true → n ≤ most
blank_few n most first gate empty one test = grind (arith, nat_tests, one, test)

blank_torn : (n most first gate : ℕ) (empty : Bool) → 1 < n → (first == 0) ≡ false → (nat_le n 1 || (nat_le n most && ((first == 0) || (not (first == gate) && empty)))) ≡ true → empty ≡ true
blank_torn n most first gate true long other test = refl
blank_torn n most first gate false long other test = grind (arith, nat_tests, long, other, test)

pub is_blank_by : (c : List ℕ) → length c ≤ blank_most → (byte_at 0 c ≡ 0) ⊎ ((byte_at 0 c ≢ open_journal) × (keeps_nothing (live_part (opened c)) ≡ true)) → IsBlank c
is_blank_by c few either = blank_test (length c) blank_most (byte_at 0 c) open_journal (keeps_nothing (live_part (opened c))) few either

one_most : 1 ≤ blank_most
unfolding blank_most
one_most = omega arith

-- an image of one byte at most
pub short_blank : (c : List ℕ) → length c ≤ 1 → IsBlank c
short_blank c short = grind (arith, nat_tests, short)

pub few_of_blank : (image : List ℕ) → IsBlank image → length image ≤ blank_most
few_of_blank image blank = blank_few (length image) blank_most (byte_at 0 image) open_journal (keeps_nothing (live_part (opened image))) one_most blank

-- what begins with 0 is blank, whatever is written after that byte
pub clear_blank : (c : List ℕ) → IsClear c → IsBlank c
clear_blank c clear = is_blank_by c clear.few (inl clear.first)

pub clear_torn : (at n : ℕ) (image c : List ℕ) → 1 ≤ at → at + n ≤ blank_most → IsClear image → Torn at n image c → IsClear c
clear_torn at n image c behind within clear torn = record {
  some = omega (arith, clear.some, torn.no_shorter);
  first = (Torn-agrees at n image c torn).same 0 (inl behind) clear.some ∙ clear.first;
  few = omega (arith, clear.few, torn.no_longer, within);
}

-- an image whose first byte is another
module _ (image c : List ℕ) (same : drop 1 c ≡ drop 1 image) (some : 0 < length c) where
  opened_same : opened c ≡ opened image
  opened_same = ap (λ (l : List ℕ). open_journal ∷ l) same

  opened_is : byte_at 0 c ≡ open_journal → c ≡ opened image
  opened_is ajar = first_of c some ∙ ap (λ (b : ℕ). b ∷ drop 1 c) ajar ∙ opened_same
    where
      first_of : (l : List ℕ) → 0 < length l → l ≡ byte_at 0 l ∷ drop 1 l
      first_of [] none = absurd (omega (arith, none))
      first_of (b ∷ l) any = refl

module _ (image : List ℕ) (blank : IsBlankFound false image) where
  gate_torn : (c : List ℕ) → 1 < length image → Torn 0 1 image c → IsBlankOrTorn image c
  gate_torn c long torn =
      let same : drop 1 c ≡ drop 1 image = torn.after in
      let some : 0 < length c = omega (arith, long, torn.no_shorter) in
      let few : length c ≤ blank_most = omega (arith, long, torn.no_longer, few_of_blank image blank.0) in
      let other : (byte_at 0 image == 0) ≡ false = grind (arith, nat_tests, blank.1, long) in
      let nothing = blank_torn (length image) blank_most (byte_at 0 image) open_journal (keeps_nothing (live_part (opened image))) long other blank.0 in
      ⊎_elim
      (λ ajar. inr (nothing, ap journal_in (opened_is image c same some ajar)))
      (λ shut. inl (is_blank_by c few (inr (shut, ap (λ (l : List ℕ). keeps_nothing (live_part l)) (opened_same image c same some) ∙ nothing))))
      (cases_eq (byte_at 0 c) open_journal)

  -- a crash while the first byte is written as 0
  pub first_torn : (c : List ℕ) → Torn 0 1 image c → IsBlankOrTorn image c
  first_torn c torn = ⊎_elim
      (λ long. gate_torn c long torn)
      (λ short. inl (short_blank c (omega (arith, torn.no_longer, short))))
      (cases_lt 1 (length image))

  pub first_done : IsClear (written 0 (0 ∷ []) image)
  first_done = record {
    some = omega (arith, length-written 0 (0 ∷ []) image);
    first = written_one 0 0 image;
    few = omega (arith, length-written 0 (0 ∷ []) image, few_of_blank image blank.0, one_most);
  }

-- where it is 0 already
pub clear_found : (image : List ℕ) → IsBlankFound true image → IsClear image
clear_found image blank = record {
  some = grind (arith, nat_tests, blank.1);
  first = grind (arith, nat_tests, blank.1);
  few = few_of_blank image blank.0;
}
