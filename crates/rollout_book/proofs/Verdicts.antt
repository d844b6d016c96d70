-- A journal of this rollout with a legal list is judged to stand with just this list.
use Rattle.std.proofs.Common.{◌≡◌, ⊎_elim, ℕ, ◌+◌, Bool, true, false, ◌&&◌, ◌==◌, nat_lt, List, [], ◌∷◌, length, drop, Option, Some, None, if◌then◌else◌, refl, sym, subst, ap, ap₂, ◌∙◌, arith}
use Rattle.std.specs.Prelude.{bytes_eq}
use Rattle.std.proofs.lemmas.Bool.{cases_Bool, and_parts, and_from}
use Rattle.std.proofs.lemmas.Bool.Decides.{nat_tests}
use Rattle.std.proofs.lemmas.Slice.Eq.{bytes_eq-Decides}
use Rattle.std.specs.Option.{option_map}
use Rattle.rollout_rules.specs.Sums.{list_below}
use Rattle.rollout_rules.specs.Wan.{Plan, Problem, Rollout}
use Rattle.rollout_rules.specs.Items.{item_count}
use Rattle.rollout_rules.specs.History.{History, no_start, started, with_entries}
use Rattle.rollout_rules.specs.Legal.{is_legal, is_sound, may_add, may_follow}
use Rattle.rollout_rules.specs.declared.op.Entry.{Entry}
use Rattle.intent_journal.specs.declared.digest.Digest.{Digest}
use Rattle.intent_journal.specs.Images.{is_blank, is_live, journal_in, kept_at, live_part, open_journal, slot_at, first_side, second_side, rows_of_kept}
use Rattle.disk_model.specs.Numbers.{byte_at, number_4}
use Rattle.intent_journal.specs.Parts.{Kept, Slot, digest_in, is_second, kept_in, migration_in, numbers, part_rows, start_count, starts_in}
use Rattle.intent_journal.specs.Reading.{Listed, Lists, live_side, nothing_read, with_rows}
use Rattle.intent_journal.specs.Verdicts.{Fresh, NoJournal, NoStart, NotLegal, OfAnother, Stands, Verdict, is_own, is_start, judged_at, judged_journal, judged_list, judged_part, judged_start, legal_count, start_of, verdict}
use Rattle.intent_journal.proofs.Blanks.{live_part-side}
use Rattle.intent_journal.proofs.Listings.{blank_none}

-- each entry of a legal list may follow those before it
count-all : (p : Problem) (plan : Plan) (h : History) (es : List Entry) → may_follow p plan h es ≡ true → legal_count p plan h es ≡ length es
count-all p plan h [] follows = refl
count-all p plan h (e ∷ es) follows =
    let both = and_parts (may_add p plan h e) (may_follow p plan (with_entries h (e ∷ [])) es) follows in
    ap (λ (b : Bool). if b then 1 + legal_count p plan (with_entries h (e ∷ [])) es else 0) both.0 ∙ ap (λ n. 1 + n) (count-all p plan (with_entries h (e ∷ [])) es both.1) ∙ one
  where
    one : 1 + length es ≡ length (e ∷ es)
    one = omega arith

module _ (r : Rollout) (digest : Digest) (start : List ℕ) (entries : List Entry) (numbered : length start ≡ item_count r.problem)
    (legal : is_legal r.problem r.plan (record { start = start; entries = entries }) ≡ true) where
  parts : (is_sound r.problem r.plan start ≡ true) × (may_follow r.problem r.plan (started start) entries ≡ true)
  parts = and_parts (is_sound r.problem r.plan start) (may_follow r.problem r.plan (started start) entries) legal

  begins : is_start r start ≡ true
  begins = and_from (length start == item_count r.problem) (is_sound r.problem r.plan start) (grind (arith, nat_tests, numbered)) parts.0

  list-stands : judged_list r start (record { entries = entries; whole = true }) ≡ Stands start entries
  list-stands =
      let count = count-all r.problem r.plan (started start) entries parts.1 in
      let no : nat_lt (legal_count r.problem r.plan (started start) entries) (length entries) ≡ false = grind (arith, nat_tests, count) in
      ap (λ (b : Bool). if b then NotLegal (legal_count r.problem r.plan (started start) entries) else Stands start entries) no

  module _ (slot : Slot) (part : List ℕ) (own : digest_in part ≡ digest.bytes) (turn : migration_in slot part ≡ digest.migration) (starts : starts_in slot part ≡ start)
      (list : with_rows nothing_read (part_rows slot part) ≡ record { entries = entries; whole = true }) where
    start-is : (second : Bool) → is_second slot ≡ second → start_of r.problem slot part ≡ start
    start-is true is = ap (λ (b : Bool). if b then starts_in slot part else no_start r.problem) is ∙ starts
    start-is false is =
        let count : start_count slot part ≡ 0 = ap (λ (b : Bool). if b then number_4 (drop 36 part) else 0) is in
        let none : start ≡ [] = sym starts ∙ ap (λ (n : ℕ). numbers n (drop 40 part)) count in
        ap (λ (b : Bool). if b then starts_in slot part else no_start r.problem) is ∙ ap (λ (n : ℕ). list_below n (λ k. 0)) (sym numbered ∙ ap length none) ∙ sym none

    pub part-stands : judged_part r digest slot part ≡ Stands start entries
    part-stands =
        let mine : is_own digest slot part ≡ true =
        and_from (bytes_eq (digest_in part) digest.bytes) (migration_in slot part == digest.migration) ((bytes_eq-Decides (digest_in part) digest.bytes).1 own) (grind (arith, nat_tests, turn))
        in
        ap (λ (b : Bool). if b then judged_start r (start_of r.problem slot part) (part_rows slot part) else OfAnother (digest_in part) (migration_in slot part)) mine
        ∙ ap (λ (s : List ℕ). judged_start r s (part_rows slot part)) (start-is (is_second slot) refl)
        ∙ ap (λ (b : Bool). if b then judged_list r start (with_rows nothing_read (part_rows slot part)) else NoStart) begins
        ∙ ap (judged_list r start) list
        ∙ list-stands

  module _ (image : List ℕ) (kept : Kept) (keeps : journal_in image ≡ Some kept) (own : kept.digest ≡ digest.bytes) (turn : kept.migration ≡ digest.migration) (starts : kept.starts ≡ start) (lists : Lists entries image) where
    rows : with_rows nothing_read kept.rows ≡ record { entries = entries; whole = true }
    rows = ap (λ (k : Option Kept). with_rows nothing_read (rows_of_kept k)) (sym keeps) ∙ lists

    at-stands : (side : Option ℕ) → option_map (λ (s : ℕ). kept_at (slot_at s image) image) side ≡ Some kept → judged_at r digest image side ≡ Stands start entries
    at-stands None is = absurd (cc is)
    at-stands (Some s) is =
        let it : kept_at (slot_at s image) image ≡ kept = cc is in
        part-stands (slot_at s image) (drop (slot_at s image).start image) (ap (λ (k : Kept). k.digest) it ∙ own) (ap (λ (k : Kept). k.migration) it ∙ turn) (ap (λ (k : Kept). k.starts) it ∙ starts)
        (ap (λ (k : Kept). with_rows nothing_read k.rows) it ∙ rows)

    journal-stands : judged_journal r digest image ≡ Stands start entries
    journal-stands = ⊎_elim
        (λ yes.
        let live : live_part image ≡ Some kept = sym (ap (λ (b : Bool). if b then live_part image else None) yes) ∙ keeps in
        ap (λ (b : Bool). if b then judged_at r digest image (live_side image) else NoJournal (byte_at 0 image)) yes
        ∙ at-stands (live_side image) (sym (live_part-side image) ∙ live))
        (λ no. absurd (never (sym (ap (λ (b : Bool). if b then live_part image else None) no) ∙ keeps)))
        (cases_Bool (byte_at 0 image == open_journal))
      where
        never : None ≡ Some kept → ⊥
        never is = cc is

    pub image-stands : verdict r digest image ≡ Stands start entries
    image-stands = ⊎_elim
        (λ yes. absurd (never (sym (blank_none image yes) ∙ keeps)))
        (λ no. ap (λ (b : Bool). if b then Fresh else judged_journal r digest image) no ∙ journal-stands)
        (cases_Bool (is_blank image))
      where
        never : None ≡ Some kept → ⊥
        never is = cc is
