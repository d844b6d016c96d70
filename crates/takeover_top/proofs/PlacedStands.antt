-- An image on which the journal of a takeover was placed is no refused one: its start and its empty list stand.
use Rattle.std.proofs.Common.{◌≡◌, ◌==◌, ℕ, Bool, true, List, [], length, drop, Option, Some, None, if◌then◌else◌, inl, inr, refl, sym, ap, ◌∙◌}
use Rattle.std.proofs.lemmas.Bool.{cases_Bool, eq-eqb}
use Rattle.std.proofs.lemmas.Slice.Eq.{bytes_eq-Decides}
use Rattle.std.specs.Option.{option_map}
use Rattle.std.specs.Prelude.{bytes_eq}
use Rattle.lists.proofs.Conditions.{some_same_is, and_true}
use Rattle.rollout_rules.specs.Items.{item_count}
use Rattle.rollout_rules.specs.Legal.{is_sound}
use Rattle.rollout_rules.specs.Wan.{Rollout}
use Rattle.intent_journal.specs.declared.digest.Digest.{Digest}
use Rattle.intent_journal.specs.Images.{journal_in, kept_at, live_part, open_journal, slot_at}
use Rattle.disk_model.specs.Numbers.{byte_at}
use Rattle.intent_journal.specs.Parts.{Kept, Slot, digest_in, migration_in, part_rows}
use Rattle.intent_journal.specs.Phases.{kept_of}
use Rattle.intent_journal.specs.Reading.{live_side, nothing_read, with_rows}
use Rattle.intent_journal.specs.Verdicts.{NoJournal, NoStart, OfAnother, Stands, is_own, is_start, judged_at, judged_list, judged_start, start_of, verdict}
use Rattle.intent_journal.proofs.Blanks.{live_part-side}
use Rattle.takeover_top.proofs.Placed.{judged, of-part}

none-kept : (kept : Kept) → ◌≡◌ {A = Option Kept} None (Some kept) → ⊥
none-kept kept is = cc is

module _ (r : Rollout) (digest : Digest) (start image : List ℕ) (is : journal_in image ≡ Some (kept_of digest start [])) (long : length start ≡ item_count r.problem) (sound : is_sound r.problem r.plan start ≡ true) where
  abbrev kept : Kept
  kept = kept_of digest start []

  gate-is : (byte_at 0 image == open_journal) ≡ true
  gate-is = elim (cases_Bool (byte_at 0 image == open_journal)) as (λ _. (byte_at 0 image == open_journal) ≡ true) [
    | inl opens ↦ opens
    | inr closed ↦ absurd (none-kept kept (sym (ap (λ (b : Bool). if b then live_part image else None) closed) ∙ is))
  ]

  part-is : live_part image ≡ Some kept
  part-is = sym (ap (λ (b : Bool). if b then live_part image else None) gate-is) ∙ is

  -- the live side, and that its part keeps this
  record IsLive : Type 0 where
    side : ℕ
    live : live_side image ≡ Some side
    keeps : kept_at (slot_at side image) image ≡ kept

  live-of : (o : Option ℕ) → live_side image ≡ o → IsLive
  live-of None none = absurd (none-kept kept (sym (live_part-side image ∙ ap (option_map (λ (n : ℕ). kept_at (slot_at n image) image)) none) ∙ part-is))
  live-of (Some side) live = record {
    side = side;
    live = live;
    keeps = some_same_is (kept_at (slot_at side image) image) kept (sym (live_part-side image ∙ ap (option_map (λ (n : ℕ). kept_at (slot_at n image) image)) live) ∙ part-is);
  }

  found : IsLive
  found = live-of (live_side image) refl

  abbrev slot : Slot
  slot = slot_at found.side image

  abbrev part : List ℕ
  part = drop slot.start image

  own-is : is_own digest slot part ≡ true
  own-is = and_true (bytes_eq (digest_in part) digest.bytes) (migration_in slot part == digest.migration)
      ((bytes_eq-Decides (digest_in part) digest.bytes).1 (ap (λ (k : Kept). k.digest) found.keeps)) (eq-eqb (migration_in slot part) digest.migration (ap (λ (k : Kept). k.migration) found.keeps))

  start-is : start_of r.problem slot part ≡ start
  start-is = of-part r digest start slot part (start_of r.problem slot part) long (ap (λ (k : Kept). k.starts) found.keeps) refl

  may-start : is_start r start ≡ true
  may-start = and_true (length start == item_count r.problem) (is_sound r.problem r.plan start) (eq-eqb (length start) (item_count r.problem) long) sound

  rows-are : part_rows slot part ≡ []
  rows-are = ap (λ (k : Kept). k.rows) found.keeps

  started-is : judged_start r (start_of r.problem slot part) (part_rows slot part) ≡ Stands start []
  started-is =
      ap (λ (s : List ℕ). judged_start r s (part_rows slot part)) start-is ∙ ap (judged_start r start) rows-are
      ∙ ap (λ (b : Bool). if b then judged_list r start (with_rows nothing_read []) else NoStart) may-start

  pub verdict-stands : verdict r digest image ≡ Stands start []
  verdict-stands =
      judged r digest image kept is
      ∙ ap (λ (b : Bool). if b then judged_at r digest image (live_side image) else NoJournal (byte_at 0 image)) gate-is
      ∙ ap (judged_at r digest image) found.live
      ∙ ap (λ (b : Bool). if b then judged_start r (start_of r.problem slot part) (part_rows slot part) else OfAnother (digest_in part) (migration_in slot part)) own-is
      ∙ started-is
