-- A journal at rest is judged by what it keeps.
use Rattle.std.proofs.Common.{◌≡◌, ◌≢◌, ⊎_elim, ℕ, ◌+◌, ◌-◌, ◌<◌, ◌==◌, ◌&&◌, Bool, true, false, List, ◌∷◌, length, drop, Option, Some, None, if◌then◌else◌, refl, sym, subst, ◌∙◌, ap, arith}
use Rattle.std.specs.Prelude.{bytes_eq, ◌||◌, nat_le, not}
use Rattle.std.proofs.lemmas.Bool.Decides.{nat_tests}
use Rattle.lists.proofs.Conditions.{and_with_false}
use Rattle.rollout_rules.specs.Wan.{Rollout}
use Rattle.rollout_rules.specs.History.{no_start}
use Rattle.intent_journal.specs.declared.digest.Digest.{Digest}
use Rattle.disk_model.specs.Numbers.{byte_at}
use Rattle.intent_journal.specs.Parts.{Kept, Slot, is_second, is_whole, kept_in, size_of}
use Rattle.intent_journal.specs.Images.{blank_most, first_side, is_blank, is_live, keeps_nothing, live_part, open_journal, open_slot, opened, second_side, slot_at}
use Rattle.intent_journal.specs.Reading.{live_side}
use Rattle.intent_journal.specs.States.{Home, IsAtRest, with_more}
use Rattle.intent_journal.specs.Verdicts.{OfAnother, Verdict, judged_part, judged_start, verdict}
use Rattle.intent_journal.proofs.Alone.{dead_slot, live_slot, placed_start}
use Rattle.intent_journal.proofs.Batches.{batches_closed}
use Rattle.intent_journal.proofs.Fronts.{with_more-nothing}
use Rattle.intent_journal.proofs.Judgements.{judged_side}
use Rattle.intent_journal.proofs.Recoveries.{verdict_journal}
use Rattle.intent_journal.proofs.Fronts.{part_long}

-- the verdict on a part of this slot that keeps this
abbrev pub judged_kept : Rollout → Digest → Slot → Kept → Verdict
judged_kept r digest slot kept =
    if bytes_eq kept.digest digest.bytes && (kept.migration == digest.migration)
    then judged_start r (if is_second slot then kept.starts else no_start r.problem) kept.rows
    else OfAnother kept.digest kept.migration

-- ---- the live side

first_live : (image : List ℕ) (slot : Slot) → slot_at first_side image ≡ slot → is_live slot image ≡ true → live_side image ≡ Some first_side
first_live image slot is live =
    let rest : Option ℕ = if is_live (slot_at second_side image) image then Some second_side else None in
    ap (λ (s : Slot). if is_live s image then Some first_side else rest) is ∙ ap (λ (b : Bool). if b then Some first_side else rest) live

second_live : (image : List ℕ) (slot : Slot) → is_live (slot_at first_side image) image ≡ false → slot_at second_side image ≡ slot → is_live slot image ≡ true → live_side image ≡ Some second_side
second_live image slot dead is live =
    ap (λ (b : Bool). if b then Some first_side else if is_live (slot_at second_side image) image then Some second_side else None) dead
    ∙ ap (λ (s : Slot). if is_live s image then Some second_side else None) is ∙ ap (λ (b : Bool). if b then Some second_side else None) live

-- ---- an image that is no blank one

no_blank : (short few nought ajar nothing : Bool) → short ≡ false → nought ≡ false → ajar ≡ true → (short || (few && (nought || (not ajar && nothing)))) ≡ false
no_blank short few nought ajar nothing long not_0 open_gate =
    ap (λ (b : Bool). b || (few && (nought || (not ajar && nothing)))) long
    ∙ ap (λ (b : Bool). few && (b || (not ajar && nothing))) not_0
    ∙ ap (λ (b : Bool). few && (not b && nothing)) open_gate
    ∙ and_with_false few

made : (image : List ℕ) → 1 < length image → byte_at 0 image ≡ open_journal → is_blank image ≡ false
made image long journal =
    let short : nat_le (length image) 1 ≡ false = grind (arith, nat_tests, long) in
    let nought : (byte_at 0 image == 0) ≡ false = ap (λ (b : ℕ). b == 0) journal in
    let ajar : (byte_at 0 image == open_journal) ≡ true = ap (λ (b : ℕ). b == open_journal) journal in
    no_blank (nat_le (length image) 1) (nat_le (length image) blank_most) (byte_at 0 image == 0) (byte_at 0 image == open_journal) (keeps_nothing (live_part (opened image))) short nought ajar

-- ---- the verdict

module _ (home : Home) (gate : ℕ) (image : List ℕ) (rest : IsAtRest home gate image) where
  long : home.slot.start + length rest.front < length image
  long = part_long home.slot.start image rest.front (rest.mark ∷ rest.behind) rest.part (omega arith)

  kept_is : kept_in home.slot (drop home.slot.start image) ≡ rest.kept
  kept_is =
      ap (kept_in home.slot) rest.part
      ∙ rest.stands.keeps (rest.mark ∷ rest.behind) (omega arith)
      ∙ ap (with_more rest.kept) (batches_closed rest.mark (size_of home.slot - length rest.front) rest.behind rest.closed)
      ∙ with_more-nothing rest.kept

  whole : is_whole home.slot (drop home.slot.start image) ≡ true
  whole = ap (is_whole home.slot) rest.part ∙ rest.stands.whole (rest.mark ∷ rest.behind) (omega arith)

  its_side : live_side image ≡ Some home.this
  its_side =
      let live = live_slot image home.slot rest.alone.gate rest.alone.placed whole in
      let is = rest.alone.is in
      let closed = rest.alone.other_closed in
      ⊎_elim
      (λ sides. first_live image home.slot (subst (λ (n : ℕ). slot_at n image ≡ home.slot) sides.0 is) live ∙ ap Some (sym sides.0))
      (λ sides.
      second_live image home.slot (dead_slot image (slot_at first_side image) (subst (λ (n : ℕ). byte_at n image ≢ open_slot) sides.1 closed)) (subst (λ (n : ℕ). slot_at n image ≡ home.slot) sides.0 is) live
      ∙ ap Some (sym sides.0))
      rest.alone.sides

  part_judged : (r : Rollout) (digest : Digest) → judged_part r digest home.slot (drop home.slot.start image) ≡ judged_kept r digest home.slot rest.kept
  part_judged r digest = ap (judged_kept r digest home.slot) kept_is

  pub rest_judged : (r : Rollout) (digest : Digest) → verdict r digest image ≡ judged_kept r digest home.slot rest.kept
  rest_judged r digest =
      let start = placed_start home.slot rest.alone.placed in
      verdict_journal r digest image (made image (omega (arith, long, start)) rest.alone.journal)
      ∙ judged_side r digest image home.this home.slot (drop home.slot.start image) (judged_kept r digest home.slot rest.kept) rest.alone.journal its_side (sym rest.alone.is) refl (part_judged r digest)
