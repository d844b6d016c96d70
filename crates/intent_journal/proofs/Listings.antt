-- What list an image stands for, by what was judged of it and by what it keeps.
use Rattle.std.proofs.Common.{◌≡◌, ⊎_elim, ◌==◌, ◌&&◌, ◌||◌, not, nat_le, nat_lt, Bool, true, false, ℕ, List, [], ◌∷◌, ◌++◌, length, drop, Option, Some, None, IfSome, if◌then◌else◌, refl, sym, ◌∙◌, ap, arith}
use Rattle.std.proofs.lemmas.List.{append_assoc, append-nil}
use Rattle.std.proofs.lemmas.Bool.{cases_Bool, eqb-true}
use Rattle.std.proofs.lemmas.Bool.Decides.{nat_tests}
use Rattle.std.specs.Option.{option_map}
use Rattle.lists.proofs.Conditions.{if_either}
use Rattle.rollout_rules.specs.Wan.{Rollout}
use Rattle.rollout_rules.specs.History.{started}
use Rattle.rollout_rules.specs.declared.op.Entry.{Entry}
use Rattle.intent_journal.specs.declared.digest.Digest.{Digest}
use Rattle.intent_journal.specs.Entries.{AllSmall, entry_rows}
use Rattle.intent_journal.specs.Images.{blank_most, is_blank, journal_in, keeps_nothing, kept_at, live_part, open_journal, opened, rows_of_kept, slot_at}
use Rattle.disk_model.specs.Numbers.{byte_at}
use Rattle.intent_journal.specs.Parts.{Kept, Slot, digest_in, migration_in, part_rows}
use Rattle.intent_journal.specs.Reading.{Listed, Lists, live_side, nothing_read, with_row, with_rows}
use Rattle.intent_journal.specs.Verdicts.{Fresh, NoJournal, NoStart, NotLegal, OfAnother, Stands, is_own, is_start, judged_at, judged_journal, judged_list, judged_part, judged_start, legal_count, start_of, verdict}
use Rattle.intent_journal.proofs.Blanks.{live_part-side}
use Rattle.intent_journal.proofs.Rows.{entry_in-row_of}

abbrev whole_list : List Entry → Listed
whole_list entries = record { entries = entries; whole = true }

-- the rows of entries are read as these entries
rows_behind : (before later : List Entry) → AllSmall later → with_rows (whole_list before) (entry_rows later) ≡ whole_list (before ++ later)
rows_behind before [] small = ap whole_list (sym (append-nil before))
rows_behind before (entry ∷ later) small =
    ap (λ (e : Option Entry). with_rows (with_row (whole_list before) e) (entry_rows later)) (entry_in-row_of entry small.0)
    ∙ rows_behind (before ++ entry ∷ []) later small.1
    ∙ ap whole_list (append_assoc before (entry ∷ []) later)

pub rows_read : (entries : List Entry) → AllSmall entries → with_rows nothing_read (entry_rows entries) ≡ whole_list entries
rows_read entries small = rows_behind [] entries small

pub keeps_list : (entries : List Entry) (kept : Kept) (image : List ℕ) → AllSmall entries → kept.rows ≡ entry_rows entries → journal_in image ≡ Some kept → Lists entries image
keeps_list entries kept image small rows keeps = ap (λ (k : Option Kept). with_rows nothing_read (rows_of_kept k)) keeps ∙ ap (with_rows nothing_read) rows ∙ rows_read entries small

-- a choice that came to something which only one branch comes to
of_list : (r : Rollout) (start start_is : List ℕ) (list : List Entry) (listed : Listed) (more whole : Bool) (count : ℕ) → listed.whole ≡ whole
    → (if more then NotLegal count else if whole then Stands start listed.entries else NotLegal (length listed.entries)) ≡ Stands start_is list → listed ≡ whole_list list
of_list r start start_is list listed true whole count is stands = absurd (cc stands)
of_list r start start_is list listed false false count is stands = absurd (cc stands)
of_list r start start_is list listed false true count is stands =
    let entries : listed.entries ≡ list = cc stands in
    λ i. record { entries = entries i; whole = is i }

list_stood : (r : Rollout) (start start_is : List ℕ) (list : List Entry) (listed : Listed) → judged_list r start listed ≡ Stands start_is list → listed ≡ whole_list list
list_stood r start start_is list listed stands =
    of_list r start start_is list listed (nat_lt (legal_count r.problem r.plan (started start) listed.entries) (length listed.entries)) listed.whole
    (legal_count r.problem r.plan (started start) listed.entries) refl stands

start_stood : (r : Rollout) (start start_is : List ℕ) (list : List Entry) (rows : List (List ℕ)) → judged_start r start rows ≡ Stands start_is list → with_rows nothing_read rows ≡ whole_list list
start_stood r start start_is list rows stands = ⊎_elim
    (λ yes. list_stood r start start_is list (with_rows nothing_read rows) (sym (ap (λ (b : Bool). if b then judged_list r start (with_rows nothing_read rows) else NoStart) yes) ∙ stands))
    (λ no. absurd (never (sym (ap (λ (b : Bool). if b then judged_list r start (with_rows nothing_read rows) else NoStart) no) ∙ stands)))
    (cases_Bool (is_start r start))
  where
    never : NoStart ≡ Stands start_is list → ⊥
    never is = cc is

part_stood : (r : Rollout) (digest : Digest) (slot : Slot) (part start : List ℕ) (list : List Entry) → judged_part r digest slot part ≡ Stands start list → with_rows nothing_read (part_rows slot part) ≡ whole_list list
part_stood r digest slot part start list stands = ⊎_elim
    (λ yes. start_stood r (start_of r.problem slot part) start list (part_rows slot part)
    (sym (ap (λ (b : Bool). if b then judged_start r (start_of r.problem slot part) (part_rows slot part) else OfAnother (digest_in part) (migration_in slot part)) yes) ∙ stands))
    (λ no. absurd (never (sym (ap (λ (b : Bool). if b then judged_start r (start_of r.problem slot part) (part_rows slot part) else OfAnother (digest_in part) (migration_in slot part)) no) ∙ stands)))
    (cases_Bool (is_own digest slot part))
  where
    never : OfAnother (digest_in part) (migration_in slot part) ≡ Stands start list → ⊥
    never is = cc is

at_stood : (r : Rollout) (digest : Digest) (image start : List ℕ) (list : List Entry) (side : Option ℕ) → judged_at r digest image side ≡ Stands start list
    → with_rows nothing_read (rows_of_kept (option_map (λ (s : ℕ). kept_at (slot_at s image) image) side)) ≡ whole_list list
at_stood r digest image start list None stands = absurd (cc stands)
at_stood r digest image start list (Some side) stands = part_stood r digest (slot_at side image) (drop (slot_at side image).start image) start list stands

journal_stood : (r : Rollout) (digest : Digest) (image start : List ℕ) (list : List Entry) → judged_journal r digest image ≡ Stands start list → Lists list image
journal_stood r digest image start list stands = ⊎_elim
    (λ yes.
    ap (λ (b : Bool). with_rows nothing_read (rows_of_kept (if b then live_part image else None))) yes
    ∙ ap (λ (k : Option Kept). with_rows nothing_read (rows_of_kept k)) (live_part-side image)
    ∙ at_stood r digest image start list (live_side image) (sym (ap (λ (b : Bool). if b then judged_at r digest image (live_side image) else NoJournal (byte_at 0 image)) yes) ∙ stands))
    (λ no. absurd (never (sym (ap (λ (b : Bool). if b then judged_at r digest image (live_side image) else NoJournal (byte_at 0 image)) no) ∙ stands)))
    (cases_Bool (byte_at 0 image == open_journal))
  where
    never : NoJournal (byte_at 0 image) ≡ Stands start list → ⊥
    never is = cc is

-- an image of which this list was judged stands for it
pub verdict_stood : (r : Rollout) (digest : Digest) (image start : List ℕ) (list : List Entry) → verdict r digest image ≡ Stands start list → Lists list image
verdict_stood r digest image start list stands = ⊎_elim
    (λ yes. absurd (never (sym (ap (λ (b : Bool). if b then Fresh else judged_journal r digest image) yes) ∙ stands)))
    (λ no. journal_stood r digest image start list (sym (ap (λ (b : Bool). if b then Fresh else judged_journal r digest image) no) ∙ stands))
    (cases_Bool (is_blank image))
  where
    never : Fresh ≡ Stands start list → ⊥
    never is = cc is

not_blank : (a b c d e : Bool) → a ≡ false → c ≡ false → d ≡ true → (a || (b && (c || (not d && e)))) ≡ true → ⊥
not_blank true b c d e longer other is blank = cc longer
not_blank false b true d e longer other is blank = cc other
not_blank false b false false e longer other is blank = cc is
not_blank false false false true e longer other is blank = cc blank
not_blank false true false true e longer other is blank = cc blank

-- a blank image is no journal, but for its only byte
pub blank_none : (image : List ℕ) → is_blank image ≡ true → journal_in image ≡ None
blank_none [] blank = refl
blank_none (x ∷ []) blank = either (x == open_journal)
  where
    either : (b : Bool) → (if b then live_part (x ∷ []) else None) ≡ None
    either true = refl
    either false = refl
blank_none (x ∷ y ∷ rest) blank = ⊎_elim
    (λ yes.
    let is : x ≡ open_journal = eqb-true x open_journal yes in
    let longer : nat_le (length (x ∷ y ∷ rest)) 1 ≡ false = grind (arith, nat_tests) in
    let other : (x == 0) ≡ false = grind (arith, nat_tests, is) in
    absurd (not_blank (nat_le (length (x ∷ y ∷ rest)) 1) (nat_le (length (x ∷ y ∷ rest)) blank_most) (x == 0) (x == open_journal) (keeps_nothing (live_part (opened (x ∷ y ∷ rest)))) longer other yes blank))
    (λ no. ap (λ (b : Bool). if b then live_part (x ∷ y ∷ rest) else None) no)
    (cases_Bool (x == open_journal))

pub blank_lists : (image : List ℕ) → is_blank image ≡ true → Lists [] image
blank_lists image blank = ap (λ (k : Option Kept). with_rows nothing_read (rows_of_kept k)) (blank_none image blank)

-- no gate, and no list
pub no_journal_lists : (first : ℕ) (image : List ℕ) → first ≡ byte_at 0 image → (first == open_journal) ≡ false → Lists [] image
no_journal_lists first image is other = ap (λ (b : Bool). with_rows nothing_read (rows_of_kept (if b then live_part image else None))) (ap (λ (n : ℕ). n == open_journal) (sym is) ∙ other)

-- no part is live, and there is no list
pub no_side_lists : (image : List ℕ) → live_side image ≡ None → Lists [] image
no_side_lists image none =
    let part : live_part image ≡ None = live_part-side image ∙ ap (option_map (λ (s : ℕ). kept_at (slot_at s image) image)) none in
    ap (λ (k : Option Kept). with_rows nothing_read (rows_of_kept k)) (ap (λ (p : Option Kept). if byte_at 0 image == open_journal then p else None) part ∙ if_either (byte_at 0 image == open_journal) None)

-- the rows of the live part are the list
pub side_lists : (image part : List ℕ) (side : ℕ) (slot : Slot) (listed : Listed) (list : List Entry) → byte_at 0 image ≡ open_journal → live_side image ≡ Some side → slot ≡ slot_at side image → part ≡ drop slot.start image
    → listed ≡ with_rows nothing_read (part_rows slot part) → listed ≡ whole_list list → Lists list image
side_lists image part side slot listed list journal found is part_is read whole =
    let kept : live_part image ≡ Some (kept_at slot image) =
    live_part-side image ∙ ap (option_map (λ (s : ℕ). kept_at (slot_at s image) image)) found ∙ ap (λ (s : Slot). Some (kept_at s image)) (sym is) in
    let rows : with_rows nothing_read (part_rows slot (drop slot.start image)) ≡ whole_list list =
    ap (λ (p : List ℕ). with_rows nothing_read (part_rows slot p)) (sym part_is) ∙ sym read ∙ whole in
    ap (λ (n : ℕ). with_rows nothing_read (rows_of_kept (if n == open_journal then live_part image else None))) journal
    ∙ ap (λ (k : Option Kept). with_rows nothing_read (rows_of_kept k)) kept
    ∙ rows

-- of rows that were read, where each is an entry
pub side_listed : (image part : List ℕ) (side : ℕ) (slot : Slot) (listed : Listed) (answer : Option (List Entry)) → byte_at 0 image ≡ open_journal → live_side image ≡ Some side → slot ≡ slot_at side image → part ≡ drop slot.start image
    → listed ≡ with_rows nothing_read (part_rows slot part) → IfSome answer (λ list. listed ≡ record { entries = list; whole = true }) → IfSome answer (λ list. Lists list image)
side_listed image part side slot listed None journal found is part_is read whole = tt
side_listed image part side slot listed (Some list) journal found is part_is read whole = side_lists image part side slot listed list journal found is part_is read whole
