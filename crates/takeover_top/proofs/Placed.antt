-- What an opening finds on a disk on which the journal of a takeover was placed: its start, and no entry.
use Rattle.std.proofs.Common.{◌≡◌, ◌⊎◌, ⊎_elim, ◌==◌, nat_lt, ℕ, Bool, true, false, List, [], length, drop, Option, Some, None, if◌then◌else◌, refl, sym, ap, ◌∙◌, subst, inl, inr}
use Rattle.std.proofs.lemmas.Bool.{cases_Bool}
use Rattle.std.specs.Option.{option_map}
use Rattle.rollout_rules.specs.History.{History, no_start, started}
use Rattle.rollout_rules.specs.Items.{item_count}
use Rattle.rollout_rules.specs.Sums.{list_below}
use Rattle.rollout_rules.specs.Wan.{Rollout}
use Rattle.rollout_rules.specs.declared.op.Entry.{Entry}
use Rattle.intent_journal.specs.declared.digest.Digest.{Digest}
use Rattle.intent_journal.specs.Images.{is_blank, journal_in, kept_at, live_part, open_journal, slot_at}
use Rattle.disk_model.specs.Numbers.{byte_at, number_4}
use Rattle.intent_journal.specs.Openings.{found_by}
use Rattle.intent_journal.specs.Parts.{Kept, Slot, digest_in, is_second, migration_in, numbers, part_rows, starts_in}
use Rattle.intent_journal.specs.Phases.{kept_of}
use Rattle.intent_journal.specs.Reading.{Listed, Lists, live_side, nothing_read, with_rows}
use Rattle.intent_journal.specs.Verdicts.{Fresh, NoJournal, NoStart, NotLegal, OfAnother, Stands, Verdict, is_own, is_start, judged_at, judged_journal, judged_list, judged_part, judged_start, legal_count, start_of, verdict}
use Rattle.intent_journal.proofs.Blanks.{live_part-side}
use Rattle.intent_journal.proofs.Listings.{blank_none, keeps_list, verdict_stood}

-- ---- the start that a verdict names, and whether it is that there is no journal yet

abbrev start_in : Verdict → Option (List ℕ)
start_in Fresh = None
start_in (NoJournal first) = None
start_in (OfAnother bytes migration) = None
start_in NoStart = None
start_in (NotLegal place) = None
start_in (Stands start entries) = Some start

abbrev is_fresh : Verdict → Bool
is_fresh Fresh = true
is_fresh (NoJournal first) = false
is_fresh (OfAnother bytes migration) = false
is_fresh NoStart = false
is_fresh (NotLegal place) = false
is_fresh (Stands start entries) = false

-- a choice of two that are not so isn't so
neither : (b : Bool) (x y : Verdict) → is_fresh x ≡ false → is_fresh y ≡ false → is_fresh (if b then x else y) ≡ false
neither true x y one other = one
neither false x y one other = other

-- what holds of the start of either holds of that of the choice
either : (P : List ℕ → Type 0) (b : Bool) (x y : Verdict) → ((s : List ℕ) → start_in x ≡ Some s → P s) → ((s : List ℕ) → start_in y ≡ Some s → P s) → (s : List ℕ) → start_in (if b then x else y) ≡ Some s → P s
either P true x y first other s is = first s is
either P false x y first other s is = other s is

none-starts : (P : List ℕ → Type 0) (s : List ℕ) → ◌≡◌ {A = Option (List ℕ)} None (Some s) → P s
none-starts P s is = absurd (cc is)

-- ---- of a journal

module _ (r : Rollout) (digest : Digest) where
  list-not : (start : List ℕ) (listed : Listed) → is_fresh (judged_list r start listed) ≡ false
  list-not start listed =
      neither (nat_lt (legal_count r.problem r.plan (started start) listed.entries) (length listed.entries)) _ _ refl
      (neither listed.whole (Stands start listed.entries) (NotLegal (length listed.entries)) refl refl)

  start-not : (start : List ℕ) (rows : List (List ℕ)) → is_fresh (judged_start r start rows) ≡ false
  start-not start rows = neither (is_start r start) (judged_list r start (with_rows nothing_read rows)) NoStart (list-not start (with_rows nothing_read rows)) refl

  part-not : (slot : Slot) (part : List ℕ) → is_fresh (judged_part r digest slot part) ≡ false
  part-not slot part =
      neither (is_own digest slot part) (judged_start r (start_of r.problem slot part) (part_rows slot part)) (OfAnother (digest_in part) (migration_in slot part))
      (start-not (start_of r.problem slot part) (part_rows slot part)) refl

  at-not : (image : List ℕ) (side : Option ℕ) → is_fresh (judged_at r digest image side) ≡ false
  at-not image None = refl
  at-not image (Some side) = part-not (slot_at side image) (drop (slot_at side image).start image)

  journal-not : (image : List ℕ) → is_fresh (judged_journal r digest image) ≡ false
  journal-not image = neither (byte_at 0 image == open_journal) (judged_at r digest image (live_side image)) (NoJournal (byte_at 0 image)) (at-not image (live_side image)) refl

  list-starts : (start : List ℕ) (listed : Listed) (s : List ℕ) → start_in (judged_list r start listed) ≡ Some s → s ≡ start
  list-starts start listed =
      either (λ s. s ≡ start) (nat_lt (legal_count r.problem r.plan (started start) listed.entries) (length listed.entries)) _ _ (none-starts (λ s. s ≡ start))
      (either (λ s. s ≡ start) listed.whole (Stands start listed.entries) (NotLegal (length listed.entries)) (λ s is. cc is) (none-starts (λ s. s ≡ start)))

  start-starts : (start : List ℕ) (rows : List (List ℕ)) (s : List ℕ) → start_in (judged_start r start rows) ≡ Some s → s ≡ start
  start-starts start rows =
      either (λ s. s ≡ start) (is_start r start) (judged_list r start (with_rows nothing_read rows)) NoStart (list-starts start (with_rows nothing_read rows)) (none-starts (λ s. s ≡ start))

  part-starts : (slot : Slot) (part : List ℕ) (s : List ℕ) → start_in (judged_part r digest slot part) ≡ Some s → s ≡ start_of r.problem slot part
  part-starts slot part =
      either (λ s. s ≡ start_of r.problem slot part) (is_own digest slot part) (judged_start r (start_of r.problem slot part) (part_rows slot part)) (OfAnother (digest_in part) (migration_in slot part))
      (start-starts (start_of r.problem slot part) (part_rows slot part)) (none-starts (λ s. s ≡ start_of r.problem slot part))

  -- the part of the live side, and what it keeps
  record StartsFrom (image s : List ℕ) : Type 0 where
    pub side : ℕ
    pub live : live_side image ≡ Some side
    pub gate : (byte_at 0 image == open_journal) ≡ true
    pub start_is : s ≡ start_of r.problem (slot_at side image) (drop (slot_at side image).start image)

  at-starts : (image : List ℕ) → (byte_at 0 image == open_journal) ≡ true → (side : Option ℕ) → live_side image ≡ side → (s : List ℕ) → start_in (judged_at r digest image side) ≡ Some s → StartsFrom image s
  at-starts image gate None live s is = absurd (cc is)
  at-starts image gate (Some side) live s is = record { side = side; live = live; gate = gate; start_is = part-starts (slot_at side image) (drop (slot_at side image).start image) s is }

  journal-starts : (image : List ℕ) (s : List ℕ) → start_in (judged_journal r digest image) ≡ Some s → StartsFrom image s
  journal-starts image s is = ⊎_elim
      (λ yes. at-starts image yes (live_side image) refl s (sym (ap (λ (b : Bool). start_in (if b then judged_at r digest image (live_side image) else NoJournal (byte_at 0 image))) yes) ∙ is))
      (λ closed. none-starts (StartsFrom image) s (sym (ap (λ (b : Bool). start_in (if b then judged_at r digest image (live_side image) else NoJournal (byte_at 0 image))) closed) ∙ is))
      (cases_Bool (byte_at 0 image == open_journal))

  -- ---- of an image that keeps a start and no entry

  no-count : (slot : Slot) (part : List ℕ) → is_second slot ≡ false → starts_in slot part ≡ []
  no-count slot part first = ap (λ (b : Bool). numbers (if b then number_4 (drop 36 part) else 0) (drop 40 part)) first

  pub of-part : (start : List ℕ) (slot : Slot) (part s : List ℕ) → length start ≡ item_count r.problem → starts_in slot part ≡ start → s ≡ start_of r.problem slot part → s ≡ start
  of-part start slot part s long kept is = ⊎_elim
      (λ yes. is ∙ ap (λ (b : Bool). if b then starts_in slot part else no_start r.problem) yes ∙ kept)
      (λ no.
      let none : [] ≡ start = sym (no-count slot part no) ∙ kept in
      let few : 0 ≡ item_count r.problem = ap (λ (xs : List ℕ). length xs) none ∙ long in
      is ∙ ap (λ (b : Bool). if b then starts_in slot part else no_start r.problem) no ∙ ap (λ (n : ℕ). list_below n (λ k. 0)) (sym few) ∙ none)
      (cases_Bool (is_second slot))

  kept-part : (image : List ℕ) (kept : Kept) (s : List ℕ) (from : StartsFrom image s) → journal_in image ≡ Some kept → starts_in (slot_at from.side image) (drop (slot_at from.side image).start image) ≡ kept.starts
  kept-part image kept s from is =
      let part : journal_in image ≡ live_part image = ap (λ (b : Bool). if b then live_part image else None) from.gate in
      let at : live_part image ≡ Some (kept_at (slot_at from.side image) image) = live_part-side image ∙ ap (option_map (λ (n : ℕ). kept_at (slot_at n image) image)) from.live in
      let both : Some (kept_at (slot_at from.side image) image) ≡ Some kept = sym at ∙ (sym part ∙ is) in
      let same : kept_at (slot_at from.side image) image ≡ kept = cc both in
      ap (λ (k : Kept). k.starts) same

  -- ---- what is found

  unblank : (image : List ℕ) (kept : Kept) → journal_in image ≡ Some kept → is_blank image ≡ false
  unblank image kept is = ⊎_elim
      (λ blank. absurd (let no : ◌≡◌ {A = Option Kept} None (Some kept) = sym (blank_none image blank) ∙ is in cc))
      (λ not. not)
      (cases_Bool (is_blank image))

  pub judged : (image : List ℕ) (kept : Kept) → journal_in image ≡ Some kept → verdict r digest image ≡ judged_journal r digest image
  judged image kept is = ap (λ (b : Bool). if b then Fresh else judged_journal r digest image) (unblank image kept is)

  module _ (start image : List ℕ) (is : journal_in image ≡ Some (kept_of digest start [])) (long : length start ≡ item_count r.problem) where
    found-at : (v : Verdict) (found : History) → verdict r digest image ≡ v → found_by r v ≡ Some found → found ≡ started start
    found-at Fresh found is_v begins =
        absurd (let no : true ≡ false = sym (ap is_fresh (sym (judged image (kept_of digest start []) is) ∙ is_v)) ∙ journal-not image in cc)
    found-at (NoJournal first) found is_v begins = absurd (cc begins)
    found-at (OfAnother bytes migration) found is_v begins = absurd (cc begins)
    found-at NoStart found is_v begins = absurd (cc begins)
    found-at (NotLegal place) found is_v begins = absurd (cc begins)
    found-at (Stands s entries) found is_v begins =
        let journal : judged_journal r digest image ≡ Stands s entries = sym (judged image (kept_of digest start []) is) ∙ is_v in
        let from : StartsFrom image s = journal-starts image s (ap start_in journal) in
        let same : s ≡ start = of-part start (slot_at from.side image) (drop (slot_at from.side image).start image) s long (kept-part image (kept_of digest start []) s from is) from.start_is in
        let stood : Lists entries image = verdict_stood r digest image s entries is_v in
        let kept : Lists [] image = keeps_list [] (kept_of digest start []) image tt refl is in
        let none : entries ≡ [] = ap (λ (l : Listed). l.entries) (sym stood ∙ kept) in
        let there : record { start = s; entries = entries } ≡ found = cc begins in
        sym there ∙ ap (λ (xs : List ℕ). record { start = xs; entries = entries }) same ∙ ap (λ (es : List Entry). record { start = start; entries = es }) none

    pub found-taken : (found : History) → found_by r (verdict r digest image) ≡ Some found → found ≡ started start
    found-taken found begins = found-at (verdict r digest image) found refl begins
