-- A part that was found whole stands on its head: what stands in front of its first gate says what it keeps, whatever follows.
use Rattle.std.proofs.Common.{◌≡◌, ⊎_elim, ℕ, zero, suc, ◌+◌, ◌-◌, ◌*◌, ◌<◌, ◌≤◌, ◌&&◌, nat_lt, Bool, true, List, ◌∷◌, ◌++◌, length, take, drop, if◌then◌else◌, refl, sym, ◌∙◌, ap, arith, length-append, length-drop}
use Rattle.std.proofs.lemmas.Bool.{cases_Bool, lt-ltb, ltb-true}
use Rattle.std.proofs.lemmas.List.{drop-append-le, drop-drop, drop_at, length-take-le, take-append-drop, take-append-le}
use Rattle.lists.proofs.Conditions.{and_both}
use Rattle.disk_model.specs.Numbers.{number_4}
use Rattle.disk_model.proofs.FourBytes.{number_4-front}
use Rattle.intent_journal.specs.Parts.{Slot, batches_of, count_of, count_place, digest_in, first_gate, is_second, is_whole, kept_in, listed_in, migration_in, numbers, rows, size_of, start_count, starts_in}
use Rattle.intent_journal.specs.States.{Stands, with_more}

number_4-in : (place : ℕ) (front tail : List ℕ) → place + 4 ≤ length front → number_4 (drop place (front ++ tail)) ≡ number_4 (drop place front)
number_4-in place front tail long =
    ap number_4 (drop-append-le place front tail (omega arith)) ∙ number_4-front (drop place front) tail (omega (arith, length-drop place front))

numbers-in : (n place : ℕ) (front tail : List ℕ) → place + 4 * n ≤ length front → numbers n (drop place (front ++ tail)) ≡ numbers n (drop place front)
numbers-in zero place front tail long = refl
numbers-in (suc n) place front tail long =
    let first = number_4-in place front tail (omega (arith, long)) in
    let later = numbers-in n (place + 4) front tail (omega (arith, long)) in
    ap (λ (m : ℕ). m ∷ numbers n (drop 4 (drop place (front ++ tail)))) first
    ∙ ap (λ (l : List ℕ). number_4 (drop place front) ∷ numbers n l) (drop-drop 4 place (front ++ tail))
    ∙ ap (λ (l : List ℕ). number_4 (drop place front) ∷ l) later
    ∙ ap (λ (l : List ℕ). number_4 (drop place front) ∷ numbers n l) (sym (drop-drop 4 place front))

pub rows-in : (n place : ℕ) (front tail : List ℕ) → place + 9 * n ≤ length front → rows n (drop place (front ++ tail)) ≡ rows n (drop place front)
rows-in zero place front tail long = refl
rows-in (suc n) place front tail long =
    let inside : drop place (front ++ tail) ≡ drop place front ++ tail = drop-append-le place front tail (omega (arith, long)) in
    let first : take 9 (drop place (front ++ tail)) ≡ take 9 (drop place front) =
    ap (take 9) inside ∙ take-append-le 9 (drop place front) tail (omega (arith, long, length-drop place front)) in
    let later = rows-in n (place + 9) front tail (omega (arith, long)) in
    ap (λ (r : List ℕ). r ∷ rows n (drop 9 (drop place (front ++ tail)))) first
    ∙ ap (λ (l : List ℕ). take 9 (drop place front) ∷ rows n l) (drop-drop 9 place (front ++ tail))
    ∙ ap (λ (l : List (List ℕ)). take 9 (drop place front) ∷ l) later
    ∙ ap (λ (l : List ℕ). take 9 (drop place front) ∷ rows n l) (sym (drop-drop 9 place front))

-- two parts with one front, which ends at the first gate of the first of them
module _ (slot : Slot) (front s t : List ℕ) (ends : length front ≡ first_gate slot (front ++ s)) where
  same_number : (place : ℕ) → place + 4 ≤ length front → number_4 (drop place (front ++ t)) ≡ number_4 (drop place (front ++ s))
  same_number place long = number_4-in place front t long ∙ sym (number_4-in place front s long)

  second_long : is_second slot ≡ true → 44 + 4 * start_count slot (front ++ s) + 9 * count_of slot (front ++ s) ≡ length front
  second_long second =
      let place : count_place slot (front ++ s) ≡ 40 + 4 * start_count slot (front ++ s) = ap (λ (b : Bool). if b then 40 + 4 * start_count slot (front ++ s) else 32) second in
      omega (arith, ends, place)

  same_migration : migration_in slot (front ++ t) ≡ migration_in slot (front ++ s)
  same_migration = ⊎_elim
      (λ second.
      ap (λ (b : Bool). if b then number_4 (drop 32 (front ++ t)) else 0) second ∙ same_number 32 (omega (arith, second_long second))
      ∙ sym (ap (λ (b : Bool). if b then number_4 (drop 32 (front ++ s)) else 0) second))
      (λ first. ap (λ (b : Bool). if b then number_4 (drop 32 (front ++ t)) else 0) first ∙ sym (ap (λ (b : Bool). if b then number_4 (drop 32 (front ++ s)) else 0) first))
      (cases_Bool (is_second slot))

  same_start_count : start_count slot (front ++ t) ≡ start_count slot (front ++ s)
  same_start_count = ⊎_elim
      (λ second.
      ap (λ (b : Bool). if b then number_4 (drop 36 (front ++ t)) else 0) second ∙ same_number 36 (omega (arith, second_long second))
      ∙ sym (ap (λ (b : Bool). if b then number_4 (drop 36 (front ++ s)) else 0) second))
      (λ first. ap (λ (b : Bool). if b then number_4 (drop 36 (front ++ t)) else 0) first ∙ sym (ap (λ (b : Bool). if b then number_4 (drop 36 (front ++ s)) else 0) first))
      (cases_Bool (is_second slot))

  same_count_place : count_place slot (front ++ t) ≡ count_place slot (front ++ s)
  same_count_place = ap (λ (n : ℕ). if is_second slot then 40 + 4 * n else 32) same_start_count

  same_count : count_of slot (front ++ t) ≡ count_of slot (front ++ s)
  same_count = ap (λ (n : ℕ). number_4 (drop n (front ++ t))) same_count_place ∙ same_number (count_place slot (front ++ s)) (omega (arith, ends))

  pub same_first_gate : first_gate slot (front ++ t) ≡ length front
  same_first_gate = omega (arith, same_count_place, same_count, ends)

  same_starts : starts_in slot (front ++ t) ≡ starts_in slot (front ++ s)
  same_starts = ap (λ (n : ℕ). numbers n (drop 40 (front ++ t))) same_start_count ∙ ⊎_elim
      (λ second.
      let long = second_long second in
      numbers-in (start_count slot (front ++ s)) 40 front t (omega (arith, long)) ∙ sym (numbers-in (start_count slot (front ++ s)) 40 front s (omega (arith, long))))
      (λ first.
      let none : start_count slot (front ++ s) ≡ 0 = ap (λ (b : Bool). if b then number_4 (drop 36 (front ++ s)) else 0) first in
      ap (λ (n : ℕ). numbers n (drop 40 (front ++ t))) none ∙ sym (ap (λ (n : ℕ). numbers n (drop 40 (front ++ s))) none))
      (cases_Bool (is_second slot))

  least_place : 32 ≤ count_place slot (front ++ s)
  least_place = ⊎_elim
      (λ second. omega (arith, ap (λ (b : Bool). if b then 40 + 4 * start_count slot (front ++ s) else 32) second))
      (λ first. omega (arith, ap (λ (b : Bool). if b then 40 + 4 * start_count slot (front ++ s) else 32) first))
      (cases_Bool (is_second slot))

  same_digest : digest_in (front ++ t) ≡ digest_in (front ++ s)
  same_digest =
      let long : 32 ≤ length front = omega (arith, ends, least_place) in
      take-append-le 32 front t long ∙ sym (take-append-le 32 front s long)

  same_rows : rows (count_of slot (front ++ t)) (drop (count_place slot (front ++ t) + 4) (front ++ t)) ≡ rows (count_of slot (front ++ s)) (drop (count_place slot (front ++ s) + 4) (front ++ s))
  same_rows =
      let long : count_place slot (front ++ s) + 4 + 9 * count_of slot (front ++ s) ≤ length front = omega (arith, ends) in
      ap (λ (n : ℕ). rows n (drop (count_place slot (front ++ t) + 4) (front ++ t))) same_count
      ∙ ap (λ (n : ℕ). rows (count_of slot (front ++ s)) (drop (n + 4) (front ++ t))) same_count_place
      ∙ rows-in (count_of slot (front ++ s)) (count_place slot (front ++ s) + 4) front t long
      ∙ sym (rows-in (count_of slot (front ++ s)) (count_place slot (front ++ s) + 4) front s long)

  same_whole : length front < size_of slot → 0 < length t → is_whole slot (front ++ t) ≡ true
  same_whole room some =
      ap (λ (b : Bool). b && nat_lt (first_gate slot (front ++ t)) (length (front ++ t))) (lt-ltb _ _ (omega (arith, same_first_gate, room)))
      ∙ lt-ltb _ _ (omega (arith, same_first_gate, length-append front t, some))

  same_kept : kept_in slot (front ++ t) ≡ with_more (listed_in slot (front ++ s)) (batches_of (take (size_of slot - length front) t))
  same_kept =
      let behind : batches_of (take (size_of slot - first_gate slot (front ++ t)) (drop (first_gate slot (front ++ t)) (front ++ t))) ≡ batches_of (take (size_of slot - length front) t) =
      ap (λ (n : ℕ). batches_of (take (size_of slot - n) (drop n (front ++ t)))) same_first_gate
      ∙ ap (λ (l : List ℕ). batches_of (take (size_of slot - length front) l)) (drop_at front t (length front) refl) in
      λ k. record { digest = same_digest k; migration = same_migration k; starts = same_starts k; rows = same_rows k ++ behind k }

-- a part that was found whole
pub Stands-found : (slot : Slot) (part : List ℕ) → is_whole slot part ≡ true → Stands slot (take (first_gate slot part) part) (listed_in slot part)
Stands-found slot part whole =
    let gate = first_gate slot part in
    let front = take gate part in
    let rest = drop gate part in
    let is : front ++ rest ≡ part = take-append-drop gate part in
    let tests = and_both (nat_lt (first_gate slot part) (size_of slot)) (nat_lt (first_gate slot part) (length part)) whole in
    let room : gate < size_of slot = ltb-true _ _ tests.0 in
    let within : gate < length part = ltb-true _ _ tests.1 in
    let long : length front ≡ gate = length-take-le gate part (omega (arith, within)) in
    let ends : length front ≡ first_gate slot (front ++ rest) = long ∙ ap (first_gate slot) (sym is) in
    record {
      fits = omega (arith, long, room);
      whole = λ tail some. same_whole slot front rest tail ends (omega (arith, long, room)) some;
      keeps = λ tail some. same_kept slot front rest tail ends ∙ ap (λ (p : List ℕ). with_more (listed_in slot p) (batches_of (take (size_of slot - length front) tail))) is;
    }
