-- The verdict on a part, test by test.
use Rattle.std.proofs.Common.{◌≡◌, ◌&&◌, ◌==◌, Bool, true, false, ℕ, ◌<◌, nat_lt, List, length, drop, Some, if◌then◌else◌, sym, ◌∙◌, ap, arith, lt-ltb, ne_eqb}
use Rattle.std.specs.Prelude.{bytes_eq}
use Rattle.std.proofs.lemmas.Bool.Decides.{nat_tests}
use Rattle.std.proofs.lemmas.Bool.{and_parts}
use Rattle.rollout_rules.specs.Wan.{Rollout}
use Rattle.rollout_rules.specs.Items.{item_count}
use Rattle.rollout_rules.specs.History.{started}
use Rattle.rollout_rules.specs.Legal.{is_legal, is_sound}
use Rattle.rollout_laws.proofs.Histories.{started_is_legal}
use Rattle.intent_journal.specs.declared.digest.Digest.{Digest}
use Rattle.intent_journal.specs.declared.fault.JournalFault.{JournalFault}
use Rattle.intent_journal.specs.declared.fault.JournalFault.TheVariants.{BadStart, Disk, Illegal, Memory, NotJournal, OtherPlan}
use Rattle.disk_model.specs.Numbers.{byte_at}
use Rattle.intent_journal.specs.Parts.{Slot, digest_in, migration_in, part_rows}
use Rattle.intent_journal.specs.Images.{open_journal, slot_at}
use Rattle.intent_journal.specs.Reading.{IsRead, Listed, live_side, nothing_read, with_rows}
use Rattle.intent_journal.specs.Judging.{BeforeList, IsOfList}
use Rattle.intent_journal.specs.Verdicts.{NoJournal, NoStart, NotLegal, OfAnother, Stands, Verdict, is_own, is_start, judged_at, judged_journal, judged_list, judged_part, judged_start, legal_count, start_of}

module _ (r : Rollout) (start : List ℕ) (listed : Listed) where
  abbrev count : ℕ
  count = legal_count r.problem r.plan (started start) listed.entries

  abbrev behind : Verdict
  behind = if listed.whole then Stands start listed.entries else NotLegal (length listed.entries)

  pub list_stops : (place : ℕ) → count ≡ place → place < length listed.entries → judged_list r start listed ≡ NotLegal place
  list_stops place is more =
      ap (λ (b : Bool). if b then NotLegal count else behind) (lt-ltb count (length listed.entries) (omega (arith, is, more))) ∙ ap NotLegal is

  all_follow : count ≡ length listed.entries → judged_list r start listed ≡ behind
  all_follow is =
      let no : nat_lt count (length listed.entries) ≡ false = grind (arith, nat_tests, is) in
      ap (λ (b : Bool). if b then NotLegal count else behind) no

  pub list_stands : count ≡ length listed.entries → listed.whole ≡ true → judged_list r start listed ≡ Stands start listed.entries
  list_stands is whole = all_follow is ∙ ap (λ (b : Bool). if b then Stands start listed.entries else NotLegal (length listed.entries)) whole

  pub list_broken : count ≡ length listed.entries → listed.whole ≡ false → judged_list r start listed ≡ NotLegal (length listed.entries)
  list_broken is broken = all_follow is ∙ ap (λ (b : Bool). if b then Stands start listed.entries else NotLegal (length listed.entries)) broken

  pub start_legal : is_start r start ≡ true → is_legal r.problem r.plan (started start) ≡ true
  start_legal is = started_is_legal r.problem r.plan start (and_parts (length start == item_count r.problem) (is_sound r.problem r.plan start) is).1

module _ (r : Rollout) (digest kept : Digest) (slot : Slot) (part : List ℕ) (bytes : kept.bytes ≡ digest_in part) (migration : kept.migration ≡ migration_in slot part) where
  abbrev same : Bool
  same = bytes_eq kept.bytes digest.bytes && (kept.migration == digest.migration)

  own_is : is_own digest slot part ≡ same
  own_is =
      ap (λ (b : List ℕ). bytes_eq b digest.bytes && (migration_in slot part == digest.migration)) (sym bytes)
      ∙ ap (λ (m : ℕ). bytes_eq kept.bytes digest.bytes && (m == digest.migration)) (sym migration)

  pub part_another : same ≡ false → judged_part r digest slot part ≡ OfAnother kept.bytes kept.migration
  part_another fails =
      ap (λ (b : Bool). if b then judged_start r (start_of r.problem slot part) (part_rows slot part) else OfAnother (digest_in part) (migration_in slot part)) (own_is ∙ fails)
      ∙ ap (λ (b : List ℕ). OfAnother b (migration_in slot part)) (sym bytes) ∙ ap (OfAnother kept.bytes) (sym migration)

  part_own : same ≡ true → judged_part r digest slot part ≡ judged_start r (start_of r.problem slot part) (part_rows slot part)
  part_own does =
      ap (λ (b : Bool). if b then judged_start r (start_of r.problem slot part) (part_rows slot part) else OfAnother (digest_in part) (migration_in slot part)) (own_is ∙ does)

  module _ (own : same ≡ true) (start : List ℕ) (is : start ≡ start_of r.problem slot part) where
    part_start : judged_part r digest slot part ≡ judged_start r start (part_rows slot part)
    part_start = part_own own ∙ ap (λ (s : List ℕ). judged_start r s (part_rows slot part)) (sym is)

    pub part_no_start : is_start r start ≡ false → judged_part r digest slot part ≡ NoStart
    part_no_start fails =
        part_start ∙ ap (λ (b : Bool). if b then judged_list r start (with_rows nothing_read (part_rows slot part)) else NoStart) fails

    pub part_list : (listed : Listed) (gate : ℕ) → is_start r start ≡ true → IsRead slot part listed gate → judged_part r digest slot part ≡ judged_list r start listed
    part_list listed gate does read =
        part_start ∙ ap (λ (b : Bool). if b then judged_list r start (with_rows nothing_read (part_rows slot part)) else NoStart) does
        ∙ ap (judged_list r start) (sym read.all)

-- the verdict on an image whose gate is open, or isn't
pub journal_at : (r : Rollout) (digest : Digest) (image : List ℕ) → byte_at 0 image ≡ open_journal → judged_journal r digest image ≡ judged_at r digest image (live_side image)
journal_at r digest image is =
    let yes : (byte_at 0 image == open_journal) ≡ true = grind (arith, nat_tests, is) in
    ap (λ (b : Bool). if b then judged_at r digest image (live_side image) else NoJournal (byte_at 0 image)) yes

pub journal_none : (r : Rollout) (digest : Digest) (image : List ℕ) → (byte_at 0 image ≡ open_journal → ⊥) → judged_journal r digest image ≡ NoJournal (byte_at 0 image)
journal_none r digest image isnt =
    let no : (byte_at 0 image == open_journal) ≡ false = ne_eqb (byte_at 0 image) open_journal isnt in
    ap (λ (b : Bool). if b then judged_at r digest image (live_side image) else NoJournal (byte_at 0 image)) no

pub judged_side : (r : Rollout) (digest : Digest) (image : List ℕ) (side : ℕ) (slot : Slot) (part : List ℕ) (v : Verdict) → byte_at 0 image ≡ open_journal → live_side image ≡ Some side → slot ≡ slot_at side image
    → part ≡ drop slot.start image → judged_part r digest slot part ≡ v → judged_journal r digest image ≡ v
judged_side r digest image side slot part v journal live is part_is judged =
    journal_at r digest image journal
    ∙ ap (judged_at r digest image) live
    ∙ ap (λ (s : Slot). judged_part r digest s (drop s.start image)) (sym is)
    ∙ ap (judged_part r digest slot) (sym part_is)
    ∙ judged

-- a fault of the list comes late
pub of_list : (fault : JournalFault) (P : Type 0) → IsOfList fault → BeforeList fault P
of_list (Illegal place) P late = tt
of_list Memory P late = tt
of_list Disk P late = tt
of_list (NotJournal first) P late = absurd late
of_list (OtherPlan kept wanted) P late = absurd late
of_list BadStart P late = absurd late
