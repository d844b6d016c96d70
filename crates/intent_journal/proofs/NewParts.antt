-- A part of the second format as it is written anew: whatever stands after it, it keeps what it was written for.
use Rattle.std.proofs.Common.{◌≡◌, ◌&&◌, nat_lt, Bool, true, ℕ, ◌+◌, ◌-◌, ◌*◌, ◌<◌, List, [], ◌∷◌, ◌++◌, length, take, drop, if◌then◌else◌, refl, sym, ◌∙◌, ap, arith, length-append}
use Rattle.std.proofs.lemmas.Bool.{lt-ltb}
use Rattle.std.proofs.lemmas.List.{append_assoc, drop-drop, drop_at, take_at}
use Rattle.disk_model.specs.Numbers.{bytes_4, number_4}
use Rattle.disk_model.proofs.FourBytes.{length-bytes_4, number_4-bytes_4}
use Rattle.intent_journal.specs.Parts.{Kept, Slot, batches_of, count_of, count_place, digest_in, first_gate, is_second, is_whole, joined, kept_in, migration_in, new_front, number_bytes, numbers, part_rows, rows, size_of, start_count, starts_in}
use Rattle.intent_journal.specs.States.{AreSmall, CanBeKept, Stands, with_more}
use Rattle.intent_journal.proofs.Batches.{length-joined, rows-joined}

length-number_bytes : (ns : List ℕ) → length (number_bytes ns) ≡ 4 * length ns
length-number_bytes [] = refl
length-number_bytes (n ∷ ns) = omega (arith, length-append (bytes_4 n) (number_bytes ns), length-bytes_4 n, length-number_bytes ns)

-- numbers that were written are read
numbers-number_bytes : (ns tail : List ℕ) → AreSmall ns → numbers (length ns) (number_bytes ns ++ tail) ≡ ns
numbers-number_bytes [] tail small = refl
numbers-number_bytes (n ∷ ns) tail small =
    let apart : (bytes_4 n ++ number_bytes ns) ++ tail ≡ bytes_4 n ++ (number_bytes ns ++ tail) = append_assoc (bytes_4 n) (number_bytes ns) tail in
    let first : number_4 ((bytes_4 n ++ number_bytes ns) ++ tail) ≡ n = ap number_4 apart ∙ number_4-bytes_4 n (number_bytes ns ++ tail) small.0 in
    let rest : drop 4 ((bytes_4 n ++ number_bytes ns) ++ tail) ≡ number_bytes ns ++ tail = ap (drop 4) apart ∙ drop_at (bytes_4 n) (number_bytes ns ++ tail) 4 (length-bytes_4 n) in
    ap (λ (m : ℕ). m ∷ numbers (length ns) (drop 4 ((bytes_4 n ++ number_bytes ns) ++ tail))) first
    ∙ ap (λ (l : List ℕ). n ∷ numbers (length ns) l) rest
    ∙ ap (λ (l : List ℕ). n ∷ l) (numbers-number_bytes ns tail small.1)

-- what stands after a head, from the place where it ends
pub after_head : (bytes head rest : List ℕ) (place long : ℕ) → drop place bytes ≡ head ++ rest → length head ≡ long → drop (place + long) bytes ≡ rest
after_head bytes head rest place long there is = sym (drop-drop long place bytes) ∙ ap (drop long) there ∙ drop_at head rest long is

module _ (kept : Kept) (fits : CanBeKept kept) where
  pub length-new_front : length (new_front kept) ≡ 44 + 4 * length kept.starts + 9 * length kept.rows
  length-new_front = omega (
    arith,
    length-append kept.digest (bytes_4 kept.migration ++ (bytes_4 (length kept.starts) ++ (number_bytes kept.starts ++ (bytes_4 (length kept.rows) ++ joined kept.rows)))),
    length-append (bytes_4 kept.migration) (bytes_4 (length kept.starts) ++ (number_bytes kept.starts ++ (bytes_4 (length kept.rows) ++ joined kept.rows))),
    length-append (bytes_4 (length kept.starts)) (number_bytes kept.starts ++ (bytes_4 (length kept.rows) ++ joined kept.rows)),
    length-append (number_bytes kept.starts) (bytes_4 (length kept.rows) ++ joined kept.rows),
    length-append (bytes_4 (length kept.rows)) (joined kept.rows),
    fits.digest,
    length-bytes_4 kept.migration,
    length-bytes_4 (length kept.starts),
    length-bytes_4 (length kept.rows),
    length-number_bytes kept.starts,
    length-joined kept.rows fits.are_rows,
  )

  module _ (slot : Slot) (second : is_second slot ≡ true) (room : length (new_front kept) < size_of slot) (tail : List ℕ) (some : 0 < length tail) where
    abbrev part : List ℕ
    part = new_front kept ++ tail

    -- what stands from each place on
    abbrev from_rows : List ℕ
    from_rows = joined kept.rows ++ tail

    abbrev from_count : List ℕ
    from_count = bytes_4 (length kept.rows) ++ from_rows

    abbrev from_starts : List ℕ
    from_starts = number_bytes kept.starts ++ from_count

    abbrev from_items : List ℕ
    from_items = bytes_4 (length kept.starts) ++ from_starts

    abbrev from_migration : List ℕ
    from_migration = bytes_4 kept.migration ++ from_items

    apart : part ≡ kept.digest ++ from_migration
    apart =
        append_assoc kept.digest (bytes_4 kept.migration ++ (bytes_4 (length kept.starts) ++ (number_bytes kept.starts ++ (bytes_4 (length kept.rows) ++ joined kept.rows)))) tail
        ∙ ap (λ (l : List ℕ). kept.digest ++ l) (
        append_assoc (bytes_4 kept.migration) (bytes_4 (length kept.starts) ++ (number_bytes kept.starts ++ (bytes_4 (length kept.rows) ++ joined kept.rows))) tail
        ∙ ap (λ (l : List ℕ). bytes_4 kept.migration ++ l) (
        append_assoc (bytes_4 (length kept.starts)) (number_bytes kept.starts ++ (bytes_4 (length kept.rows) ++ joined kept.rows)) tail
        ∙ ap (λ (l : List ℕ). bytes_4 (length kept.starts) ++ l) (
        append_assoc (number_bytes kept.starts) (bytes_4 (length kept.rows) ++ joined kept.rows) tail
        ∙ ap (λ (l : List ℕ). number_bytes kept.starts ++ l) (append_assoc (bytes_4 (length kept.rows)) (joined kept.rows) tail))))

    at_migration : drop 32 part ≡ from_migration
    at_migration = ap (drop 32) apart ∙ drop_at kept.digest from_migration 32 fits.digest

    at_items : drop 36 part ≡ from_items
    at_items = after_head part (bytes_4 kept.migration) from_items 32 4 at_migration (length-bytes_4 kept.migration)

    at_starts : drop 40 part ≡ from_starts
    at_starts = after_head part (bytes_4 (length kept.starts)) from_starts 36 4 at_items (length-bytes_4 (length kept.starts))

    at_count : drop (40 + 4 * length kept.starts) part ≡ from_count
    at_count = after_head part (number_bytes kept.starts) from_count 40 (4 * length kept.starts) at_starts (length-number_bytes kept.starts)

    at_rows : drop (40 + 4 * length kept.starts + 4) part ≡ from_rows
    at_rows = after_head part (bytes_4 (length kept.rows)) from_rows (40 + 4 * length kept.starts) 4 at_count (length-bytes_4 (length kept.rows))

    is_digest : digest_in part ≡ kept.digest
    is_digest = ap (take 32) apart ∙ take_at kept.digest from_migration 32 fits.digest

    is_migration : migration_in slot part ≡ kept.migration
    is_migration = ap (λ (b : Bool). if b then number_4 (drop 32 part) else 0) second ∙ ap number_4 at_migration ∙ number_4-bytes_4 kept.migration from_items fits.migration

    is_start_count : start_count slot part ≡ length kept.starts
    is_start_count = ap (λ (b : Bool). if b then number_4 (drop 36 part) else 0) second ∙ ap number_4 at_items ∙ number_4-bytes_4 (length kept.starts) from_starts fits.few_starts

    are_starts : starts_in slot part ≡ kept.starts
    are_starts = ap (λ (n : ℕ). numbers n (drop 40 part)) is_start_count ∙ ap (numbers (length kept.starts)) at_starts ∙ numbers-number_bytes kept.starts from_count fits.starts

    is_count_place : count_place slot part ≡ 40 + 4 * length kept.starts
    is_count_place = ap (λ (b : Bool). if b then 40 + 4 * start_count slot part else 32) second ∙ ap (λ (n : ℕ). 40 + 4 * n) is_start_count

    is_count : count_of slot part ≡ length kept.rows
    is_count = ap (λ (n : ℕ). number_4 (drop n part)) is_count_place ∙ ap number_4 at_count ∙ number_4-bytes_4 (length kept.rows) from_rows fits.few_rows

    is_first_gate : first_gate slot part ≡ length (new_front kept)
    is_first_gate = omega (arith, is_count_place, is_count, length-new_front)

    are_rows : rows (count_of slot part) (drop (count_place slot part + 4) part) ≡ kept.rows
    are_rows =
        ap (λ (n : ℕ). rows n (drop (count_place slot part + 4) part)) is_count
        ∙ ap (λ (n : ℕ). rows (length kept.rows) (drop (n + 4) part)) is_count_place
        ∙ ap (rows (length kept.rows)) at_rows
        ∙ rows-joined kept.rows tail fits.are_rows

    are_all : part_rows slot part ≡ kept.rows ++ batches_of (take (size_of slot - length (new_front kept)) tail)
    are_all =
        ap (λ (l : List (List ℕ)). l ++ batches_of (take (size_of slot - first_gate slot part) (drop (first_gate slot part) part))) are_rows
        ∙ ap (λ (n : ℕ). kept.rows ++ batches_of (take (size_of slot - n) (drop n part))) is_first_gate
        ∙ ap (λ (l : List ℕ). kept.rows ++ batches_of (take (size_of slot - length (new_front kept)) l)) (drop_at (new_front kept) tail (length (new_front kept)) refl)

    new_whole : is_whole slot part ≡ true
    new_whole =
        ap (λ (b : Bool). b && nat_lt (first_gate slot part) (length part)) (lt-ltb _ _ (omega (arith, is_first_gate, room)))
        ∙ lt-ltb _ _ (omega (arith, is_first_gate, length-append (new_front kept) tail, some))

    new_keeps : kept_in slot part ≡ with_more kept (batches_of (take (size_of slot - length (new_front kept)) tail))
    new_keeps = λ k. record { digest = is_digest k; migration = is_migration k; starts = are_starts k; rows = are_all k }

  pub Stands-new : (slot : Slot) → is_second slot ≡ true → length (new_front kept) < size_of slot → Stands slot (new_front kept) kept
  Stands-new slot second room = record {
    fits = room;
    whole = λ tail some. new_whole slot second room tail some;
    keeps = λ tail some. new_keeps slot second room tail some;
  }
