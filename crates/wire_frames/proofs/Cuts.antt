-- The front of a frame, as far as it has come, is the front of some frame.
use Rattle.std.proofs.Common.{◌≡◌, ℕ, zero, suc, ◌+◌, ◌-◌, ◌*◌, ◌<◌, ◌≤◌, List, [], ◌∷◌, ◌++◌, length, slice_index, take, drop, replicate, Option, Some, None, Result, Ok, Err, true, refl, sym, ap, subst, ◌∙◌, append_assoc, arith, inl, inr, length-append}
use Rattle.std.proofs.lemmas.Bool.{cases_lt, true≢false}
use Rattle.std.proofs.lemmas.List.{get_or_append_left, get_or-append_right, get_or-replicate, get_or_at, get_or_past, drop-drop, length-replicate}
use Rattle.byteorder.specs.Endian.{big_number, IsRead}
use Rattle.wan_edge.specs.Frames.{AnswerFrame, CommandFrame, IsAnswer, IsCommand, IsCutAnswer, IsCutCommand, answer_bytes, answer_kind, command_bytes, command_kind}
use Rattle.wire_frames.specs.Contents.{content_of}
use Rattle.wire_frames.specs.Reading.{IsBegun, IsBegunAnswer, IsWhole, Reader, ReadsAnswer, ReadsCommand}
use Rattle.wire_frames.specs.declared.fault.FrameFault.{FrameFault}
use Rattle.wire_frames.proofs.Numbers.{IsBytes, number_fits}
use Rattle.wire_frames.proofs.Spelling.{answer_spelled, command_made}

pub IsBytes-append : (xs ys : List ℕ) → IsBytes xs → IsBytes ys → IsBytes (xs ++ ys)
IsBytes-append xs ys front behind i =
    elim (cases_lt i (length xs)) [
      | inl lt ↦ rw (get_or_append_left xs ys 0 i lt) (front i)
      | inr le ↦ rw (get_or-append_right xs ys (length xs) i 0 refl le) (behind (i - length xs))
    ]

-- bytes of 0
abbrev zeros : ℕ → List ℕ
zeros n = replicate n 0

IsBytes-replicate : (n byte : ℕ) → byte < 256 → IsBytes (replicate n byte)
IsBytes-replicate n byte small i =
    elim (cases_lt i n) [
      | inl lt ↦ rw (get_or-replicate n i byte 0 lt) small
      | inr le ↦ rw (get_or_past (replicate n byte) i 0 (omega (arith, length-replicate n byte))) (omega arith)
    ]

length-zeros : (n : ℕ) → length (zeros n) ≡ n
length-zeros n = length-replicate {A = ℕ} n 0

-- 13 bytes with an answer's kind are an answer
answer_of : (bytes : List ℕ) → length bytes ≡ 13 → slice_index bytes 0 ≡ answer_kind → IsBytes bytes → (a : AnswerFrame) × IsAnswer a × (answer_bytes a ≡ bytes)
answer_of bytes long kind each =
    let migration = big_number 4 (take (length bytes - 1) (drop 1 bytes)) in
    let item = big_number 4 (take (length bytes - 5) (drop 5 bytes)) in
    let held = big_number 4 (take (length bytes - 9) (drop 9 bytes)) in (
      (migration, record { item = item; held = held }),
      record { migration = number_fits bytes 1 migration each refl; item = number_fits bytes 5 item each refl; held = number_fits bytes 9 held each refl },
      answer_spelled bytes migration item held long kind each refl refl refl,
    )

pub cut_answer : (kept : List ℕ) → IsBytes kept → IsBegunAnswer kept → IsCutAnswer kept
cut_answer [] each begun =
    let a = answer_of (answer_kind ∷ replicate 12 0) refl refl (IsBytes-append (answer_kind ∷ []) (replicate 12 0) (IsBytes-replicate 1 answer_kind (omega arith)) (IsBytes-replicate 12 0 (omega arith))) in
    record { frame = a.0; fits = a.1; missing = answer_kind ∷ replicate 12 0; some = omega arith; begins = a.2 }
cut_answer (x ∷ kept) each begun =
    let missing = zeros (12 - length kept) in
    let short = begun.short in
    let long : length ((x ∷ kept) ++ missing) ≡ 13 = omega (arith, length-append (x ∷ kept) missing, length-zeros (12 - length kept)) in
    let a = answer_of ((x ∷ kept) ++ missing) long (begun.kind (omega arith)) (IsBytes-append (x ∷ kept) missing each (IsBytes-replicate (12 - length kept) 0 (omega arith))) in
    record { frame = a.0; fits = a.1; missing = missing; some = omega (arith, length-zeros (12 - length kept)); begins = a.2 }

-- the numbers of eight bytes each, so many of them
numbers_at : ℕ → List ℕ → List ℕ
numbers_at zero bytes = []
numbers_at (suc n) bytes = big_number 8 bytes ∷ numbers_at n (drop 8 bytes)

length-numbers_at : (n : ℕ) (bytes : List ℕ) → length (numbers_at n bytes) ≡ n
unfolding numbers_at
length-numbers_at zero bytes = refl
length-numbers_at (suc n) bytes = ap suc (length-numbers_at n (drop 8 bytes))

numbers_at-read : (n : ℕ) (bytes : List ℕ) (k : ℕ) → k < n → slice_index (numbers_at n bytes) k ≡ big_number 8 (drop (8 * k) bytes)
unfolding numbers_at
numbers_at-read zero bytes k inside = absurd (omega arith)
numbers_at-read (suc n) bytes zero inside = refl
numbers_at-read (suc n) bytes (suc k) inside =
    numbers_at-read n (drop 8 bytes) k (omega arith) ∙ ap (big_number 8) (drop-drop (8 * k) 8 bytes) ∙ ap (λ (at : ℕ). big_number 8 (drop at bytes)) (omega arith)

-- bytes that are all of a command are one
command_of : (bytes : List ℕ) → IsWhole bytes → IsBytes bytes → (c : CommandFrame) × IsCommand c × (command_bytes c ≡ bytes)
command_of bytes whole each =
    let count = slice_index bytes 17 in
    let behind = take (length bytes - 18) (drop 18 bytes) in
    let rates = numbers_at count behind in
    let long = length-numbers_at count behind in
    let read : IsRead big_number 8 behind rates = λ k inside. numbers_at-read count behind k (omega (arith, long)) in
    let migration = big_number 4 (take (length bytes - 1) (drop 1 bytes)) in
    let command : CommandFrame = (migration, record { item = big_number 4 (take (length bytes - 5) (drop 5 bytes)); number = big_number 4 (take (length bytes - 9) (drop 9 bytes)); scale = big_number 4 (take (length bytes - 13) (drop 13 bytes)); content = content_of count (rates ++ drop count []) }) in
    let made = command_made bytes _ _ _ _ count rates [] whole each refl refl refl refl refl long read command refl in
    (command, made.0, made.1)

-- what has come and what is missing is all of a command
cut_by : (kept missing : List ℕ) → 0 < length missing → IsWhole (kept ++ missing) → IsBytes (kept ++ missing) → IsCutCommand kept
cut_by kept missing some whole each =
    let c = command_of (kept ++ missing) whole each in
    record { frame = c.0; fits = c.1; missing = missing; some = some; begins = c.2 }

-- a count of 1 and a rate of 0
one_rate : List ℕ
one_rate = 1 ∷ replicate 8 0

-- before the count
cut_early : (x : ℕ) (kept : List ℕ) → x ≡ command_kind → length kept ≤ 16 → IsBytes (x ∷ kept) → IsCutCommand (x ∷ kept)
unfolding one_rate
cut_early x kept kind short each =
    let missing = zeros (16 - length kept) in
    let before : length ((x ∷ kept) ++ missing) ≡ 17 = omega (arith, length-append (x ∷ kept) missing, length-zeros (16 - length kept)) in
    let count : slice_index ((x ∷ kept) ++ (missing ++ one_rate)) 17 ≡ 1
    = ap (λ (bytes : List ℕ). slice_index bytes 17) (sym (append_assoc (x ∷ kept) missing one_rate)) ∙ get_or_at ((x ∷ kept) ++ missing) 1 (replicate 8 0) 0 17 before in
    cut_by (x ∷ kept) (missing ++ one_rate) (omega (arith, length-append missing one_rate))
    (record {
      kind = kind;
      some = omega (arith, count);
      few = omega (arith, count);
      long = omega (arith, count, length-append (x ∷ kept) (missing ++ one_rate), length-append missing one_rate, length-zeros (16 - length kept));
    })
    (IsBytes-append (x ∷ kept) (missing ++ one_rate) each (IsBytes-append missing one_rate (IsBytes-replicate (16 - length kept) 0 (omega arith)) (IsBytes-append (1 ∷ []) (replicate 8 0) (IsBytes-replicate 1 1 (omega arith)) (IsBytes-replicate 8 0 (omega arith)))))

-- after the count
cut_late : (kept : List ℕ) → 17 < length kept → IsBegun kept → IsBytes kept → IsCutCommand kept
cut_late kept late begun each =
    let count = slice_index kept 17 in
    let n = 18 + 8 * count - length kept in
    let short = begun.short late in
    let same : slice_index (kept ++ zeros n) 17 ≡ count = get_or_append_left kept (zeros n) 0 17 late in
    cut_by kept (zeros n) (omega (arith, length-zeros n))
    (record {
      kind = get_or_append_left kept (zeros n) 0 0 (omega arith) ∙ begun.kind (omega arith);
      some = omega (arith, same, begun.some late);
      few = omega (arith, same, begun.few late);
      long = omega (arith, same, length-append kept (zeros n), length-zeros n);
    })
    (IsBytes-append kept (zeros n) each (IsBytes-replicate n 0 (omega arith)))

-- before the first byte
pub cut_none : IsCutCommand []
unfolding one_rate
cut_none =
    cut_by [] (command_kind ∷ (replicate 16 0 ++ one_rate)) (omega arith)
    (record { kind = refl; some = omega arith; few = omega arith; long = refl })
    (IsBytes-append (command_kind ∷ []) (replicate 16 0 ++ one_rate) (IsBytes-replicate 1 command_kind (omega arith)) (IsBytes-append (replicate 16 0 ++ (1 ∷ [])) (replicate 8 0) (IsBytes-append (replicate 16 0) (1 ∷ []) (IsBytes-replicate 16 0 (omega arith)) (IsBytes-replicate 1 1 (omega arith))) (IsBytes-replicate 8 0 (omega arith))))

pub cut_command : (kept : List ℕ) → IsBytes kept → IsBegun kept → IsCutCommand kept
cut_command [] each begun = cut_none
cut_command (x ∷ kept) each begun =
    elim (cases_lt (length kept) 17) [
      | inl early ↦ cut_early x kept (begun.kind (omega arith)) (omega arith) each
      | inr late ↦ cut_late (x ∷ kept) (omega arith) begun each
    ]

-- what a reader keeps is the front of a frame, as long as there was no fault
pub cut_kept : (kept piece : List ℕ) (result : Result (ℕ × Option CommandFrame) FrameFault) (now : Reader) → ReadsCommand kept piece result now → now.live ≡ true → IsCutCommand now.kept
cut_kept kept piece (Err fault) now read live = absurd (true≢false (sym live ∙ read.now_dead))
cut_kept kept piece (Ok (n, Some frame)) now read live = subst IsCutCommand (ap (λ (r : Reader). r.kept) (sym read.now_fresh)) cut_none
cut_kept kept piece (Ok (n, None)) now read live = subst IsCutCommand (ap (λ (r : Reader). r.kept) (sym read.now_longer)) read.cut

pub cut_no_answer : IsCutAnswer []
cut_no_answer = cut_answer [] (λ i. omega arith) (record { kind = λ some. absurd (omega arith); short = omega arith })

pub cut_kept_answer : (kept piece : List ℕ) (result : Result (ℕ × Option AnswerFrame) FrameFault) (now : Reader) → ReadsAnswer kept piece result now → now.live ≡ true → IsCutAnswer now.kept
cut_kept_answer kept piece (Err fault) now read live = absurd (true≢false (sym live ∙ read.now_dead))
cut_kept_answer kept piece (Ok (n, Some frame)) now read live = subst IsCutAnswer (ap (λ (r : Reader). r.kept) (sym read.now_fresh)) cut_no_answer
cut_kept_answer kept piece (Ok (n, None)) now read live = subst IsCutAnswer (ap (λ (r : Reader). r.kept) (sym read.now_longer)) read.cut
