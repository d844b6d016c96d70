-- What a reader keeps after a piece, from what it kept before it and how many bytes it took.
use Rattle.std.proofs.Common.{◌≡◌, ℕ, ◌+◌, ◌-◌, ◌*◌, ◌<◌, ◌≤◌, ◌⊎◌, min, List, [], ◌∷◌, ◌++◌, length, slice_index, take, drop, true, sym, ap, ap₂, subst, ◌∙◌, append_assoc, arith, inl, inr, length-append, length-drop}
use Rattle.std.proofs.Math.Seq.{take-add}
use Rattle.std.proofs.lemmas.Bool.{cases_lt}
use Rattle.std.proofs.lemmas.List.{take_all, take_rest, take-append-drop, length-take-le, get_or_append_left, get_or-take, drop_more}
use Rattle.wan_edge.specs.Frames.{CommandFrame, HasOtherCount, IsAnswer, IsCommand, answer_bytes, answer_kind, command_bytes, command_kind}
use Rattle.wire_frames.specs.Reading.{Ends, GoesOn, IsAnswerFault, IsBegun, IsCommandFault, IsWhole, Reader}
use Rattle.wire_frames.proofs.Numbers.{IsBytes, IsBytes-take}
use Rattle.wire_frames.proofs.Cuts.{cut_answer, cut_command}

reader : List ℕ → Reader
reader kept = record { kept = kept; live = true }

-- what was kept grew by the whole piece
all_taken : (kept piece new : List ℕ) (n : ℕ) → n ≡ length piece → new ≡ kept ++ take n piece → new ≡ kept ++ piece
all_taken kept piece new n all is = is ∙ ap (λ (xs : List ℕ). kept ++ xs) (take_all n piece (omega arith))

length_of : (kept piece new : List ℕ) (n : ℕ) → n ≤ length piece → new ≡ kept ++ take n piece → length new ≡ length kept + n
length_of kept piece new n within is = ap length is ∙ length-append kept (take n piece) ∙ ap (λ (m : ℕ). length kept + m) (length-take-le n piece within)

pub answer_goes_on : (kept piece new : List ℕ) (n : ℕ) → IsBytes (kept ++ piece) → (0 < length (kept ++ piece) → slice_index (kept ++ piece) 0 ≡ answer_kind)
    → n ≡ min (13 - length kept) (length piece) → new ≡ kept ++ take n piece → length new < 13 → GoesOn answer_bytes IsAnswer IsAnswerFault kept piece n (record { kept = new; live = true })
unfolding reader
answer_goes_on kept piece new n each first count is short =
    let grown = length_of kept piece new n (omega arith) is in
    let all : n ≡ length piece = omega arith in
    record {
      all = all;
      now_longer = ap reader (all_taken kept piece new n all is);
      cut = cut_answer (kept ++ piece) each (record { kind = first; short = omega (arith, length-append kept piece) });
    }

module _ (kept piece : List ℕ) (each : IsBytes (kept ++ piece)) (begun : IsBegun kept) (first : 0 < length (kept ++ piece) → slice_index (kept ++ piece) 0 ≡ command_kind) where
  module _ (new : List ℕ) (n : ℕ) (count : n ≡ min (18 - length kept) (length piece)) (is : new ≡ kept ++ take n piece) where
    pub head_goes_on : length new < 18 → GoesOn command_bytes IsCommand IsCommandFault kept piece n (record { kept = new; live = true })
    unfolding reader
    head_goes_on short =
        let grown = length_of kept piece new n (omega arith) is in
        let all : n ≡ length piece = omega arith in
        let long = length-append kept piece in
        record {
          all = all;
          now_longer = ap reader (all_taken kept piece new n all is);
          cut = cut_command (kept ++ piece) each (record { kind = first; some = λ late. absurd (omega arith); few = λ late. absurd (omega arith); short = λ late. absurd (omega arith) });
        }

    -- the bytes so far begin with what is kept
    front_of : kept ++ piece ≡ new ++ drop n piece
    front_of =
        ap (λ (xs : List ℕ). kept ++ xs) (sym (take-append-drop n piece)) ∙ sym (append_assoc kept (take n piece) (drop n piece)) ∙ ap (λ (xs : List ℕ). xs ++ drop n piece) (sym is)

    count_of : 18 ≤ length new → slice_index (kept ++ piece) 17 ≡ slice_index new 17
    count_of late = ap (λ (xs : List ℕ). slice_index xs 17) front_of ∙ get_or_append_left new (drop n piece) 0 17 (omega arith)

    pub other_count : 18 ≤ length new → (slice_index new 17 ≡ 0) ⊎ (16 < slice_index new 17) → HasOtherCount (kept ++ piece) (slice_index new 17)
    other_count late other =
        let bytes = kept ++ piece in
        let long : 18 ≤ length bytes = omega (arith, ap length front_of, length-append new (drop n piece)) in
        let head = take 17 bytes in
        let head_long : length head ≡ 17 = length-take-le 17 bytes (omega arith) in
        record {
          head = head;
          begins = cut_command head (IsBytes-take 17 bytes each) (record { kind = λ some. get_or-take 17 bytes 0 0 (omega arith) ∙ first (omega arith); some = λ more. absurd (omega arith); few = λ more. absurd (omega arith); short = λ more. absurd (omega arith) });
          long = head_long;
          other = other;
          behind = drop 18 bytes;
          parts = sym (take-append-drop 17 bytes) ∙ ap (λ (xs : List ℕ). head ++ xs) (drop_more bytes 17 0 (omega arith) ∙ ap (λ (byte : ℕ). byte ∷ drop 18 bytes) (count_of late));
        }

    module _ (late : 18 ≤ length new) (longer : List ℕ) (m rates : ℕ) (rates_are : rates ≡ slice_index new 17) (some : 0 < rates) (few : rates ≤ 16)
        (more : m ≡ min (18 + 8 * rates - length new) (length (take (length piece - n) (drop n piece)))) (longer_is : longer ≡ new ++ take m (take (length piece - n) (drop n piece))) where
      taken : longer ≡ kept ++ take (n + m) piece
      taken =
          longer_is ∙ ap₂ (λ (xs ys : List ℕ). xs ++ take m ys) is (take_rest piece n) ∙ append_assoc kept (take n piece) (take m (drop n piece))
          ∙ ap (λ (xs : List ℕ). kept ++ xs) (sym (take-add n m piece))

      rest_long : length (take (length piece - n) (drop n piece)) ≡ length piece - n
      rest_long = ap length (take_rest piece n) ∙ length-drop n piece

      within : n + m ≤ length piece
      within = omega (arith, rest_long)

      long : length longer ≡ length kept + (n + m)
      long = length_of kept piece longer (n + m) within taken

      grown : length new ≡ length kept + n
      grown = length_of kept piece new n (omega arith) is

      rates_of : slice_index (kept ++ piece) 17 ≡ rates
      rates_of = count_of late ∙ sym rates_are

      -- the bytes so far begin with what is kept now
      longer_front : kept ++ piece ≡ longer ++ drop (n + m) piece
      longer_front =
          ap (λ (xs : List ℕ). kept ++ xs) (sym (take-append-drop (n + m) piece)) ∙ sym (append_assoc kept (take (n + m) piece) (drop (n + m) piece))
          ∙ ap (λ (xs : List ℕ). xs ++ drop (n + m) piece) (sym taken)

      longer_count : slice_index longer 17 ≡ rates
      longer_count = sym (get_or_append_left longer (drop (n + m) piece) 0 17 (omega (arith, long, grown))) ∙ ap (λ (xs : List ℕ). slice_index xs 17) (sym longer_front) ∙ rates_of

      longer_first : slice_index longer 0 ≡ command_kind
      longer_first =
          sym (get_or_append_left longer (drop (n + m) piece) 0 0 (omega (arith, long, grown))) ∙ ap (λ (xs : List ℕ). slice_index xs 0) (sym longer_front)
          ∙ first (omega (arith, length-append kept piece, grown))

      -- what was kept before ends before the command does: where it has the count, it tells so
      kept_short : length kept < 18 + 8 * rates
      kept_short =
          elim (cases_lt 17 (length kept)) [
            | inl more ↦
                let same : slice_index kept 17 ≡ rates = sym (get_or_append_left kept piece 0 17 more) ∙ rates_of in
                omega (arith, begun.short more, same)
            | inr less ↦ omega arith
          ]

      pub body_begun : length longer < 18 + 8 * rates → IsBegun longer
      body_begun short = record {
        kind = λ some. longer_first;
        some = λ late. omega (arith, longer_count);
        few = λ late. omega (arith, longer_count);
        short = λ late. omega (arith, longer_count);
      }

      pub body_goes_on : length longer < 18 + 8 * rates → GoesOn command_bytes IsCommand IsCommandFault kept piece (n + m) (record { kept = longer; live = true })
      unfolding reader
      body_goes_on short =
          let all : n + m ≡ length piece = omega (arith, rest_long, long, grown, kept_short) in
          let whole = all_taken kept piece longer (n + m) all taken in
          record {
            all = all;
            now_longer = ap reader whole;
            cut = cut_command (kept ++ piece) each (subst IsBegun whole (body_begun short));
          }

      pub body_whole : 18 + 8 * rates ≤ length longer → IsWhole longer
      body_whole reached = record {
        kind = longer_first;
        some = omega (arith, longer_count);
        few = omega (arith, longer_count);
        long = omega (arith, longer_count, rest_long, long, grown, kept_short);
      }

      pub ends : 18 + 8 * rates ≤ length longer → (command : CommandFrame) (cleared : List ℕ) → IsCommand command → command_bytes command ≡ longer → cleared ≡ []
          → Ends command_bytes IsCommand IsCommandFault kept piece (n + m) command (record { kept = cleared; live = true })
      unfolding reader
      ends reached command cleared fits spelled empty = record {
        fits = fits;
        some = omega (arith, long, grown, kept_short);
        within = within;
        whole = spelled ∙ taken;
        now_fresh = ap reader empty;
      }
