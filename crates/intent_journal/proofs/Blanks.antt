-- What stands in an image after its first byte does not hang on that byte.
use Rattle.std.proofs.Common.{◌≡◌, ◌⊎◌, inl, inr, ◌==◌, ◌&&◌, Bool, true, false, ℕ, zero, suc, ◌<◌, ◌≤◌, List, [], ◌∷◌, ◌++◌, length, drop, Option, Some, None, if◌then◌else◌, refl, sym, subst, ◌∙◌, ap, arith, length-append}
use Rattle.std.proofs.lemmas.Bool.{cases_Bool, eqb-true, ne_eqb}
use Rattle.std.specs.Option.{option_map}
use mathlib.Core.Logic.{⊎_elim}
use Rattle.lists.proofs.Conditions.{and_both, and_with_false}
use Rattle.rollout_rules.specs.declared.op.Entry.{Entry}
use Rattle.intent_journal.specs.Entries.{entry_in}
use Rattle.intent_journal.specs.Parts.{Kept, Slot, is_whole, kept_in, part_rows}
use Rattle.intent_journal.specs.Images.{first_side, is_live, is_placed, keeps_nothing, kept_at, live_part, open_journal, open_slot, opened, second_side, slot_at}
use Rattle.intent_journal.specs.Reading.{IsRead, Listed, is_empty, live_side, nothing_read, with_row, with_rows}
use Rattle.intent_journal.proofs.Alone.{placed_start}

module _ (image : List ℕ) where
  abbrev first : Slot
  first = slot_at first_side image

  abbrev second : Slot
  second = slot_at second_side image

  abbrev kept : ℕ → Kept
  kept side = kept_at (slot_at side image) image

  abbrev part_for : Bool → Bool → Option Kept
  part_for a b = if a then Some (kept_at first image) else if b then Some (kept_at second image) else None

  abbrev side_for : Bool → Bool → Option ℕ
  side_for a b = if a then Some first_side else if b then Some second_side else None

  part_side : (a b : Bool) → part_for a b ≡ option_map kept (side_for a b)
  part_side true b = refl
  part_side false true = refl
  part_side false false = refl

  -- the first live part is that of the first live slot
  pub live_part-side : live_part image ≡ option_map kept (live_side image)
  live_part-side = part_side (is_live first image) (is_live second image)

  -- a slot that was found is open, placed and whole
  pub record IsLive (side : ℕ) : Type 0 where
    pub sides : (side ≡ first_side) ⊎ (side ≡ second_side)
    pub live : is_live (slot_at side image) image ≡ true
    pub first_dead : side ≡ second_side → is_live first image ≡ false

  side_found : (a b : Bool) (side : ℕ) → is_live first image ≡ a → is_live second image ≡ b → side_for a b ≡ Some side → IsLive side
  side_found true b side is_a is_b found =
      let is : first_side ≡ side = cc found in
      subst IsLive is (record { sides = inl refl; live = is_a; first_dead = λ same. absurd (omega (arith, same)) })
  side_found false true side is_a is_b found =
      let is : second_side ≡ side = cc found in
      subst IsLive is (record { sides = inr refl; live = is_b; first_dead = λ same. is_a })
  side_found false false side is_a is_b found = absurd (cc found)

  pub is_found : (side : ℕ) → live_side image ≡ Some side → IsLive side
  is_found side found = side_found (is_live first image) (is_live second image) side refl refl found

-- what the three tests of a live slot say
pub live_tests : (slot : Slot) (image : List ℕ) → is_live slot image ≡ true → (slot.gate ≡ open_slot) × (is_placed slot ≡ true) × (is_whole slot (drop slot.start image) ≡ true)
live_tests slot image live =
    let outer = and_both (slot.gate == open_slot) (is_placed slot && is_whole slot (drop slot.start image)) live in
    let inner = and_both (is_placed slot) (is_whole slot (drop slot.start image)) outer.1 in
    (eqb-true _ _ outer.0, inner.0, inner.1)

pub side_whole : (image : List ℕ) (side : ℕ) (slot : Slot) → live_side image ≡ Some side → slot ≡ slot_at side image → is_whole slot (drop slot.start image) ≡ true
side_whole image side slot found is = ap (λ (s : Slot). is_whole s (drop s.start image)) is ∙ (live_tests (slot_at side image) image (is_found image side found).live).2

pub side_small : (image : List ℕ) (side : ℕ) → live_side image ≡ Some side → side ≤ 18
side_small image side found = ⊎_elim (λ (is : side ≡ first_side). omega (arith, is)) (λ (is : side ≡ second_side). omega (arith, is)) (is_found image side found).sides

drop_behind : (n x y : ℕ) (rest : List ℕ) → 0 < n → drop n (x ∷ rest) ≡ drop n (y ∷ rest)
drop_behind zero x y rest some = absurd (omega (arith, some))
drop_behind (suc n) x y rest some = refl

module _ (x y : ℕ) (rest : List ℕ) where
  same_live : (slot : Slot) → is_live slot (x ∷ rest) ≡ is_live slot (y ∷ rest)
  same_live slot = ⊎_elim
      (λ placed. ap (λ (p : List ℕ). (slot.gate == open_slot) && (is_placed slot && is_whole slot p)) (drop_behind slot.start x y rest (omega (arith, placed_start slot placed))))
      (λ not_placed.
      ap (λ (b : Bool). (slot.gate == open_slot) && (b && is_whole slot (drop slot.start (x ∷ rest)))) not_placed
      ∙ sym (ap (λ (b : Bool). (slot.gate == open_slot) && (b && is_whole slot (drop slot.start (y ∷ rest)))) not_placed))
      (cases_Bool (is_placed slot))

  same_sides : live_side (x ∷ rest) ≡ live_side (y ∷ rest)
  same_sides =
      let first = slot_at first_side (y ∷ rest) in
      let second = slot_at second_side (y ∷ rest) in
      ap (λ (b : Bool). if b then Some first_side else if is_live second (x ∷ rest) then Some second_side else None) (same_live first)
      ∙ ap (λ (b : Bool). if is_live first (y ∷ rest) then Some first_side else if b then Some second_side else None) (same_live second)

  same_slot : (side : ℕ) → (side ≡ first_side) ⊎ (side ≡ second_side) → slot_at side (x ∷ rest) ≡ slot_at side (y ∷ rest)
  same_slot side sides = ⊎_elim
      (λ (is : side ≡ first_side). ap (λ (n : ℕ). slot_at n (x ∷ rest)) is ∙ sym (ap (λ (n : ℕ). slot_at n (y ∷ rest)) is))
      (λ (is : side ≡ second_side). ap (λ (n : ℕ). slot_at n (x ∷ rest)) is ∙ sym (ap (λ (n : ℕ). slot_at n (y ∷ rest)) is))
      sides

  same_part : (side : ℕ) → live_side (y ∷ rest) ≡ Some side → live_part (x ∷ rest) ≡ Some (kept_at (slot_at side (y ∷ rest)) (y ∷ rest))
  same_part side found =
      let live = is_found (y ∷ rest) side found in
      let slot = slot_at side (y ∷ rest) in
      let placed = (live_tests slot (y ∷ rest) live.live).1 in
      live_part-side (x ∷ rest)
      ∙ ap (option_map (λ (s : ℕ). kept_at (slot_at s (x ∷ rest)) (x ∷ rest))) (same_sides ∙ found)
      ∙ ap (λ (s : Slot). Some (kept_at s (x ∷ rest))) (same_slot side live.sides)
      ∙ ap (λ (p : List ℕ). Some (kept_in slot p)) (drop_behind slot.start x y rest (omega (arith, placed_start slot placed)))

  no_part : live_side (y ∷ rest) ≡ None → live_part (x ∷ rest) ≡ None
  no_part none = live_part-side (x ∷ rest) ∙ ap (option_map (λ (s : ℕ). kept_at (slot_at s (x ∷ rest)) (x ∷ rest))) (same_sides ∙ none)

-- what is found does not hang on the first byte
pub opened_part : (image : List ℕ) (side : ℕ) → 0 < length image → live_side image ≡ Some side → live_part (opened image) ≡ Some (kept_at (slot_at side image) image)
opened_part [] side some found = absurd (omega (arith, some))
opened_part (y ∷ rest) side some found = same_part open_journal y rest side found

pub opened_none : (image : List ℕ) → 0 < length image → live_side image ≡ None → live_part (opened image) ≡ None
opened_none [] some none = absurd (omega (arith, some))
opened_none (y ∷ rest) some none = no_part open_journal y rest none

-- an entry more, or a row that is none, and the list is no longer empty
broken_stays : (listed : Listed) (rows : List (List ℕ)) → listed.whole ≡ false → (with_rows listed rows).whole ≡ false
broken_stays listed [] broken = broken
broken_stays listed (row ∷ rows) broken = broken_stays (with_row listed (entry_in row)) rows (still (entry_in row))
  where
    still : (entry : Option Entry) → (with_row listed entry).whole ≡ false
    still None = refl
    still (Some e) = ap (λ (b : Bool). (if b then record { entries = listed.entries ++ e ∷ []; whole = true } else listed).whole) broken ∙ broken

some_stay : (listed : Listed) (rows : List (List ℕ)) → 0 < length listed.entries → 0 < length (with_rows listed rows).entries
some_stay listed [] some = some
some_stay listed (row ∷ rows) some = some_stay (with_row listed (entry_in row)) rows (still (entry_in row) listed.whole refl)
  where
    still : (entry : Option Entry) (whole : Bool) → listed.whole ≡ whole → 0 < length (with_row listed entry).entries
    still None whole is = some
    still (Some e) true is =
        let more : with_row listed (Some e) ≡ record { entries = listed.entries ++ e ∷ []; whole = true } = ap (λ (b : Bool). if b then record { entries = listed.entries ++ e ∷ []; whole = true } else listed) is in
        omega (arith, ap (λ (l : Listed). length l.entries) more, length-append listed.entries (e ∷ []))
    still (Some e) false is =
        let same : with_row listed (Some e) ≡ listed = ap (λ (b : Bool). if b then record { entries = listed.entries ++ e ∷ []; whole = true } else listed) is in
        omega (arith, ap (λ (l : Listed). length l.entries) same, some)

not_empty : (entry : Option Entry) (rows : List (List ℕ)) → is_empty (with_rows (with_row nothing_read entry) rows) ≡ false
not_empty None rows =
    let l = with_rows (with_row nothing_read None) rows in
    ap (λ (b : Bool). b && (length l.entries == 0)) (broken_stays (with_row nothing_read None) rows refl)
not_empty (Some e) rows =
    let l = with_rows (with_row nothing_read (Some e)) rows in
    let no : (length l.entries == 0) ≡ false = ne_eqb _ _ (λ is. omega (arith, is, some_stay (with_row nothing_read (Some e)) rows (omega arith))) in
    ap (λ (b : Bool). l.whole && b) no ∙ and_with_false l.whole

pub read_empty : (rows : List (List ℕ)) → is_empty (with_rows nothing_read rows) ≡ (length rows == 0)
read_empty [] = refl
read_empty (row ∷ rows) = not_empty (entry_in row) rows ∙ sym (ne_eqb (length (row ∷ rows)) 0 (λ is. omega (arith, is)))

pub empty_list : (slot : Slot) (part image : List ℕ) (listed : Listed) (gate : ℕ) (empty : Bool) → IsRead slot part listed gate → part ≡ drop slot.start image → empty ≡ is_empty listed
    → empty ≡ keeps_nothing (Some (kept_at slot image))
empty_list slot part image listed gate empty read is tested =
    tested ∙ ap is_empty read.all ∙ read_empty (part_rows slot part) ∙ ap (λ (p : List ℕ). length (part_rows slot p) == 0) is
