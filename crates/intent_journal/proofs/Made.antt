-- A journal that is made of a blank image: what stands before its gate is opened, and after.
use Rattle.std.proofs.Common.{◌≡◌, inl, inr, ⊎_elim, ◌==◌, true, ℕ, ◌+◌, ◌*◌, ◌<◌, ◌≤◌, ◌^◌, ◌∷◌, [], List, ◌++◌, length, drop, get_or, replicate, Option, Some, None, IfSome, refl, sym, ◌∙◌, ap, arith, length-append}
use Rattle.std.proofs.lemmas.Bool.{cases_eq}
use Rattle.std.proofs.lemmas.List.{append_assoc, get_or-drop}
use Rattle.disk_model.specs.Traces.{DiskTrace}
use Rattle.disk_model.specs.Crashes.{Holds, Stepped, Within}
use Rattle.disk_model.specs.Moments.{GoesOn, LeavesOnly}
use Rattle.disk_model.specs.Writes.{Torn, written}
use Rattle.disk_model.proofs.Parting.{written-behind, written-drop}
use Rattle.disk_model.proofs.Running.{LeavesOnly-durable, LeavesOnly-goes_on, Stepped-only}
use Rattle.disk_model.proofs.Tearing.{Torn-written, drop-written}
use Rattle.disk_model.specs.Numbers.{byte_at, bytes_8, number_8}
use Rattle.disk_model.proofs.FourBytes.{written_one}
use Rattle.intent_journal.specs.Parts.{new_front}
use Rattle.intent_journal.specs.Images.{blank_most, first_start, is_placed, journal_in, keeps_nothing, live_part, open_journal, open_slot, opened, slot_at}
use Rattle.intent_journal.specs.Makings.{IsBlank, IsBlankOrNew, IsClear, IsReady, first_home, name_of, slots_bytes}
use Rattle.intent_journal.specs.Phases.{IsPlanned, Planned, slot_for}
use Rattle.intent_journal.specs.Renewals.{IsMoved}
use Rattle.intent_journal.specs.States.{Stands}
use Rattle.intent_journal.proofs.Clearings.{clear_blank, clear_torn, is_blank_by}
use Rattle.intent_journal.proofs.Laying.{long_8, number_8-bytes_8, second_is, second_placed, second_size}
use Rattle.intent_journal.proofs.NewParts.{Stands-new, length-new_front, after_head}
use Rattle.intent_journal.proofs.Switches.{moved_keeps}

pub long_slots : (size : ℕ) → length (slots_bytes size) ≡ 34
long_slots size =
    omega (
      arith,
      length-append (name_of first_start size) (replicate 17 0),
      length-append (bytes_8 first_start) (bytes_8 (2 ^ 62 + size)),
      long_8 first_start,
      long_8 (2 ^ 62 + size),
    )

-- an image after whose open gate these slots and this part stand
module _ (part : Planned) (image behind : List ℕ) (stands : Stands (first_home part).slot (new_front part.kept) part.kept) (placed : is_placed (first_home part).slot ≡ true)
    (small : part.size ≤ 1000000000) (gate : byte_at 0 image ≡ open_journal) (there : drop 1 image ≡ slots_bytes part.size ++ (new_front part.kept ++ (0 ∷ behind))) where
  abbrev rest : List ℕ
  rest = new_front part.kept ++ (0 ∷ behind)

  abbrev second : List ℕ
  second = replicate 17 0

  at_name : drop 2 image ≡ bytes_8 first_start ++ (bytes_8 (2 ^ 62 + part.size) ++ (second ++ rest))
  at_name =
      after_head image (open_slot ∷ []) ((name_of first_start part.size ++ second) ++ rest) 1 1 there refl
      ∙ append_assoc (name_of first_start part.size) second rest
      ∙ append_assoc (bytes_8 first_start) (bytes_8 (2 ^ 62 + part.size)) (second ++ rest)

  at_size : drop 10 image ≡ bytes_8 (2 ^ 62 + part.size) ++ (second ++ rest)
  at_size = after_head image (bytes_8 first_start) (bytes_8 (2 ^ 62 + part.size) ++ (second ++ rest)) 2 8 at_name (long_8 first_start)

  at_second : drop 18 image ≡ second ++ rest
  at_second = after_head image (bytes_8 (2 ^ 62 + part.size)) (second ++ rest) 10 8 at_size (long_8 (2 ^ 62 + part.size))

  at_part : drop 35 image ≡ rest
  at_part = after_head image second rest 18 17 at_second refl

  first_is : slot_at 1 image ≡ slot_for first_start part.size
  first_is =
      let mark : byte_at 1 image ≡ open_slot = sym (get_or-drop 1 image 0 0) ∙ ap (λ (l : List ℕ). get_or l 0 0) there in
      let start : number_8 (drop 2 image) ≡ first_start = ap number_8 at_name ∙ number_8-bytes_8 first_start (bytes_8 (2 ^ 62 + part.size) ++ (second ++ rest)) (omega arith) in
      let field : number_8 (drop 10 image) ≡ 2 ^ 62 + part.size = ap number_8 at_size ∙ number_8-bytes_8 (2 ^ 62 + part.size) (second ++ rest) (omega (arith, small)) in
      λ i. record { gate = mark i; start = start i; field = field i }

  pub made_moved : IsMoved (first_home part) part image
  made_moved =
      let zero : byte_at 18 image ≡ 0 = sym (get_or-drop 18 image 0 0) ∙ ap (λ (l : List ℕ). get_or l 0 0) at_second in
      record {
        alone = record {
          sides = inl (refl, refl);
          journal = gate;
          is = first_is;
          gate = refl;
          placed = placed;
          other_closed = λ same. absurd (omega (arith, zero, same));
        };
        stands = stands;
        more = behind;
        there = at_part;
      }

-- the slots are written after the first byte
pub slots_clear : (image c : List ℕ) → IsClear image → Torn 1 34 image c → IsClear c
unfolding blank_most
slots_clear image c clear torn = clear_torn 1 34 image c (omega arith) (omega arith) clear torn

-- and then the part
module _ (part : Planned) (bytes : List ℕ) (planned : IsPlanned part bytes) (rows : part.kept.rows ≡ []) (few : 80 + 4 * length part.kept.starts ≤ blank_most) where
  pub long_part : length bytes ≡ 45 + 4 * length part.kept.starts
  long_part = omega (arith, ap length planned.is, length-append (new_front part.kept) (0 ∷ []), length-new_front part.kept planned.can_be, ap length rows)

  pub part_clear : (image c : List ℕ) → IsClear image → Torn 35 (length bytes) image c → IsClear c
  part_clear image c clear torn = clear_torn 35 (length bytes) image c (omega arith) (omega (arith, few, long_part)) clear torn

  pub ready : (image : List ℕ) → IsClear image → IsReady part (written 35 bytes (written 1 (slots_bytes part.size) image))
  ready image clear =
      let slots = slots_bytes part.size in
      let between = written 1 slots image in
      let now = written 35 bytes between in
      let torn : Torn 1 34 image between = rw (← long_slots part.size) (Torn-written 1 slots image) in
      let middle : IsClear between = slots_clear image between clear torn in
      let behind = drop (1 + length slots) image in
      let is_behind : drop 1 between ≡ slots ++ behind = drop-written 1 slots image in
      let there : drop 1 now ≡ slots ++ (new_front part.kept ++ (0 ∷ drop (length bytes) behind)) =
      written-drop 1 35 bytes between (omega arith) (omega (arith, middle.some))
      ∙ ap (written 34 bytes) is_behind
      ∙ written-behind slots behind bytes 34 (sym (long_slots part.size))
      ∙ ap (λ (l : List ℕ). slots ++ (l ++ drop (length bytes) behind)) planned.is
      ∙ ap (λ (l : List ℕ). slots ++ l) (append_assoc (new_front part.kept) (0 ∷ []) (drop (length bytes) behind)) in
      record {
        clear = part_clear between now middle (Torn-written 35 bytes between);
        small = planned.small;
        placed = second_placed first_start part.size (omega arith) (omega arith) planned.small;
        stands = Stands-new part.kept planned.can_be (first_home part).slot (second_is first_start part.size)
            (omega (arith, ap length planned.is, length-append (new_front part.kept) (0 ∷ []), planned.fits, second_size first_start part.size));
        behind = drop (length bytes) behind;
        there = there;
      }

module _ (part : Planned) (image : List ℕ) (is : IsReady part image) (rows : part.kept.rows ≡ []) where
  -- with the gate opened it is the new journal
  new_journal : (c : List ℕ) → byte_at 0 c ≡ open_journal → drop 1 c ≡ drop 1 image → journal_in c ≡ Some part.kept
  new_journal c gate same = moved_keeps (first_home part) part c (made_moved part c is.behind is.stands is.placed is.small gate (same ∙ is.there))

  -- a crash while its gate is opened
  pub made_torn : (c : List ℕ) → Torn 0 1 image c → IsBlankOrNew part.kept c
  made_torn c torn =
      let same : drop 1 c ≡ drop 1 image = torn.after in
      let some : 0 < length c = omega (arith, is.clear.some, torn.no_shorter) in
      let few : length c ≤ blank_most = omega (arith, is.clear.some, is.clear.few, torn.no_longer) in
      ⊎_elim
      (λ ajar. inr (new_journal c ajar same))
      (λ shut.
      let live : live_part (opened c) ≡ Some part.kept = new_journal (opened c) refl same in
      let none : keeps_nothing (Some part.kept) ≡ true = ap (λ (r : List (List ℕ)). length r == 0) rows in
      inl (is_blank_by c few (inr (shut, ap keeps_nothing live ∙ none))))
      (cases_eq (byte_at 0 c) open_journal)

  pub made_done : IsMoved (first_home part) part (written 0 (open_journal ∷ []) image)
  made_done =
      let now = written 0 (open_journal ∷ []) image in
      made_moved part now is.behind is.stands is.placed is.small (written_one 0 open_journal image) ((Torn-written 0 (open_journal ∷ []) image).after ∙ is.there)

-- two writes and one sync after the first byte, done or not
module _ {D : Type 0} (trace : D → DiskTrace) where
  pub slots_run : (told : Option (List ℕ)) (old mid : D) (at n : ℕ) → ((c : List ℕ) → (trace old).left_since (trace old).moment c → (trace old).may_leave c) → Holds IsClear told (trace old).may_leave
      → Within (trace mid).may_leave (Stepped (Torn at n) (trace old).may_leave) → GoesOn (trace old) (trace mid) (trace mid).may_leave
      → ((image c : List ℕ) → IsClear image → Torn at n image c → IsClear c) → IfSome told (λ image. LeavesOnly trace old mid IsClear)
  slots_run None old mid at n now holds crash time torn = tt
  slots_run (Some image) old mid at n now holds crash time torn =
      LeavesOnly-goes_on trace old old mid IsClear (trace mid).may_leave (LeavesOnly-durable trace (trace old).may_leave old image IsClear now holds.1 holds.0) time
      (λ c left. torn image c holds.0 (Stepped-only (Torn at n) image (trace old).may_leave holds.1 c (crash c left)))

  pub both_run : (told : Option (List ℕ)) (old mid new : D) (at n : ℕ) → ((t : ℕ) (c : List ℕ) → t ≤ (trace mid).moment → (trace mid).may_leave c → (trace mid).left_since t c)
      → IfSome told (λ image. LeavesOnly trace old mid IsClear) → GoesOn (trace mid) (trace new) (Stepped (Torn at n) (trace mid).may_leave)
      → ((image c : List ℕ) → IsClear image → Torn at n image c → IsClear c) → IfSome told (λ image. LeavesOnly trace old new IsClear)
  both_run None old mid new at n counts first time torn = tt
  both_run (Some image) old mid new at n counts first time torn =
      LeavesOnly-goes_on trace old mid new IsClear (Stepped (Torn at n) (trace mid).may_leave) first time
      (λ c stepped. torn stepped.0 c (first.each stepped.0 (counts (trace old).moment stepped.0 first.later stepped.1)) stepped.2)

  pub clear_run : (told : Option (List ℕ)) (old new : D) → IfSome told (λ image. LeavesOnly trace old new IsClear) → IfSome told (λ image. LeavesOnly trace old new IsBlank)
  clear_run None old new run = tt
  clear_run (Some image) old new run = record {
    later = run.later;
    each = λ c left. clear_blank c (run.each c left);
    before = λ t c earlier left. ⊎_elim inl (λ now. inr (clear_blank c now)) (run.before t c earlier left);
  }
