-- What is reported of a journal that was opened.
use Rattle.std.proofs.Common.{◌≡◌, ⊎_elim, Bool, true, false, ℕ, ◌+◌, ◌==◌, nat_lt, List, [], length, drop, Option, Some, None, Result, Ok, Err, IfErr, IfOk, IfSome, if◌then◌else◌, get_or, refl, sym, ap, ap₂, ◌∙◌, subst, arith}
use Rattle.std.specs.Prelude.{◌-◌}
use Rattle.std.proofs.lemmas.Bool.{and_parts, cases_Bool, eqb-true}
use Rattle.std.proofs.lemmas.List.{ext_get_or}
use Rattle.rollout_rules.specs.Sums.{list_below}
use Rattle.rollout_rules.specs.Wan.{Problem, Rollout}
use Rattle.rollout_rules.specs.Items.{item_count}
use Rattle.rollout_rules.specs.History.{History, dones_in, from_nothing, settled, started}
use Rattle.rollout_rules.specs.Legal.{is_sound}
use Rattle.rollout_rules.specs.declared.op.Entry.{Entry}
use Rattle.rollout_rules.proofs.Rows.{list_below-length, list_below-at}
use Rattle.dependency_graph.specs.Graph.{Followed}
use Rattle.intent_journal.specs.declared.digest.Digest.{Digest}
use Rattle.intent_journal.specs.declared.fault.JournalFault.{JournalFault}
use Rattle.intent_journal.specs.declared.fault.JournalFault.TheVariants.{BadStart, Disk, Illegal, Memory, NotJournal, OtherPlan}
use Rattle.intent_journal.specs.Images.{is_blank, open_journal, slot_at}
use Rattle.disk_model.specs.Numbers.{byte_at}
use Rattle.intent_journal.specs.Openings.{found_by}
use Rattle.intent_journal.specs.Parts.{Slot, digest_in, migration_in, part_rows}
use Rattle.intent_journal.specs.Reading.{Listed, live_side, nothing_read, with_rows}
use Rattle.intent_journal.specs.Recovered.{IsBroughtTo, IsCause, MayStand}
use Rattle.intent_journal.specs.Verdicts.{Fresh, NoJournal, NoStart, NotLegal, OfAnother, Stands, Verdict, is_own, is_start, judged_at, judged_journal, judged_list, judged_part, judged_start, legal_count, start_of, verdict, with_history}
use Rattle.rollout_report.specs.Report.{report_text}
use Rattle.rollout_report.specs.Counts.{AreCountsOf, Counted}
use Rattle.rollout_report.proofs.Tallying.{all_zero, zeros}
use Rattle.disk_model.specs.Traces.{DiskTrace}
use Rattle.disk_model.specs.Moments.{LeavesOnly}
use Rattle.intent_journal.proofs.Openings.{found_brought}
use Rattle.intent_journal.proofs.Recoveries.{still}
use Rattle.rollout_report.specs.Journals.{AreDones, Tells, digest_for, journal_report, text_before, told_by}

-- ---- a start that was judged sound has a number for each item

of_list : (start start_is : List ℕ) (list : List Entry) (listed : Listed) (more whole : Bool) (count : ℕ)
    → (if more then NotLegal count else if whole then Stands start listed.entries else NotLegal (length listed.entries)) ≡ Stands start_is list → start ≡ start_is
of_list start start_is list listed true whole count stands = absurd (cc stands)
of_list start start_is list listed false false count stands = absurd (cc stands)
of_list start start_is list listed false true count stands = cc stands

start_stood : (r : Rollout) (start start_is : List ℕ) (list : List Entry) (rows : List (List ℕ)) → judged_start r start rows ≡ Stands start_is list → length start_is ≡ item_count r.problem
start_stood r start start_is list rows stands = ⊎_elim
    (λ yes.
    let listed = with_rows nothing_read rows in
    let same : start ≡ start_is =
    of_list start start_is list listed (nat_lt (legal_count r.problem r.plan (started start) listed.entries) (length listed.entries)) listed.whole (legal_count r.problem r.plan (started start) listed.entries)
    (sym (ap (λ (b : Bool). if b then judged_list r start listed else NoStart) yes) ∙ stands) in
    ap length (sym same) ∙ eqb-true (length start) (item_count r.problem) (and_parts (length start == item_count r.problem) (is_sound r.problem r.plan start) yes).0)
    (λ no. absurd (never (sym (ap (λ (b : Bool). if b then judged_list r start (with_rows nothing_read rows) else NoStart) no) ∙ stands)))
    (cases_Bool (is_start r start))
  where
    never : NoStart ≡ Stands start_is list → ⊥
    never is = cc is

part_stood : (r : Rollout) (digest : Digest) (slot : Slot) (part start : List ℕ) (list : List Entry) → judged_part r digest slot part ≡ Stands start list → length start ≡ item_count r.problem
part_stood r digest slot part start list stands = ⊎_elim
    (λ yes. start_stood r (start_of r.problem slot part) start list (part_rows slot part)
    (sym (ap (λ (b : Bool). if b then judged_start r (start_of r.problem slot part) (part_rows slot part) else OfAnother (digest_in part) (migration_in slot part)) yes) ∙ stands))
    (λ no. absurd (never (sym (ap (λ (b : Bool). if b then judged_start r (start_of r.problem slot part) (part_rows slot part) else OfAnother (digest_in part) (migration_in slot part)) no) ∙ stands)))
    (cases_Bool (is_own digest slot part))
  where
    never : OfAnother (digest_in part) (migration_in slot part) ≡ Stands start list → ⊥
    never is = cc is

at_stood : (r : Rollout) (digest : Digest) (image start : List ℕ) (list : List Entry) (side : Option ℕ) → judged_at r digest image side ≡ Stands start list → length start ≡ item_count r.problem
at_stood r digest image start list None stands = absurd (cc stands)
at_stood r digest image start list (Some side) stands = part_stood r digest (slot_at side image) (drop (slot_at side image).start image) start list stands

journal_stood : (r : Rollout) (digest : Digest) (image start : List ℕ) (list : List Entry) → judged_journal r digest image ≡ Stands start list → length start ≡ item_count r.problem
journal_stood r digest image start list stands = ⊎_elim
    (λ yes. at_stood r digest image start list (live_side image) (sym (ap (λ (b : Bool). if b then judged_at r digest image (live_side image) else NoJournal (byte_at 0 image)) yes) ∙ stands))
    (λ no. absurd (never (sym (ap (λ (b : Bool). if b then judged_at r digest image (live_side image) else NoJournal (byte_at 0 image)) no) ∙ stands)))
    (cases_Bool (byte_at 0 image == open_journal))
  where
    never : NoJournal (byte_at 0 image) ≡ Stands start list → ⊥
    never is = cc is

pub stood_numbers : (r : Rollout) (digest : Digest) (image start : List ℕ) (list : List Entry) → verdict r digest image ≡ Stands start list → length start ≡ item_count r.problem
stood_numbers r digest image start list stands = ⊎_elim
    (λ yes. absurd (never (sym (ap (λ (b : Bool). if b then Fresh else judged_journal r digest image) yes) ∙ stands)))
    (λ no. journal_stood r digest image start list (sym (ap (λ (b : Bool). if b then Fresh else judged_journal r digest image) no) ∙ stands))
    (cases_Bool (is_blank image))
  where
    never : Fresh ≡ Stands start list → ⊥
    never is = cc is

-- ---- the start of a history is what is settled but for what its entries settled

back_again : (s d : ℕ) → s ≡ (s + d) - d
back_again s d = omega arith

start_is : (h : History) (n : ℕ) → length h.start ≡ n → h.start ≡ list_below n (λ k. settled h k - dones_in h.entries k)
start_is h n count =
    ext_get_or 0 h.start (list_below n (λ k. settled h k - dones_in h.entries k)) (count ∙ sym (list_below-length n (λ k. settled h k - dones_in h.entries k)))
    (λ k lt. back_again (get_or h.start k 0) (dones_in h.entries k) ∙ sym (list_below-at n (λ k. settled h k - dones_in h.entries k) k 0 (omega (arith, lt, count))))

text_is : (g : Followed) → length g.history.start ≡ item_count g.rollout.problem → report_text g.rollout.problem g.rollout.plan g.history ≡ text_before g g.history.entries
text_is g count = ap (λ s. report_text g.rollout.problem g.rollout.plan (record { start = s; entries = g.history.entries })) (start_is g.history (item_count g.rollout.problem) count)

zero_plus : (d : ℕ) → 0 + d ≡ d
zero_plus d = omega arith

-- of a history in which nothing is settled at the start, what is settled is what its entries settle
pub only_dones : (p : Problem) (entries : List Entry) (start : List ℕ) (n : ℕ) (c : Counted) → start ≡ zeros n → AreCountsOf p (record { start = start; entries = entries }) c → AreDones (item_count p) entries c
only_dones p entries start n c none counts = record {
  all = counts.all_settled;
  each = λ k lt.
      counts.counts.settled k (omega (arith, lt, counts.all_settled))
      ∙ ap (λ s. get_or s k 0 + dones_in entries k) none
      ∙ ap (λ z. z + dones_in entries k) (all_zero n k)
      ∙ zero_plus (dones_in entries k);
}

-- ---- what was found is what is told

brought_text : (r : Rollout) (digest : Digest) (v : Verdict) (h : History) (new : Followed) (list : List Entry)
    → ((start : List ℕ) (entries : List Entry) → v ≡ Stands start entries → length start ≡ item_count r.problem) → h ≡ from_nothing r.problem []
    → IsBroughtTo v list (record { rollout = r; history = h }) new → told_by r digest v ≡ Ok (text_before new list)
brought_text r digest Fresh h new list numbers empty brought =
    let is : new ≡ record { rollout = r; history = from_nothing r.problem [] } = brought.1 ∙ ap (λ h. record { rollout = r; history = h }) empty in
    ap Ok (text_is (record { rollout = r; history = from_nothing r.problem [] }) (list_below-length (item_count r.problem) (λ n. 0)) ∙ ap₂ text_before (sym is) (sym brought.0))
brought_text r digest (Stands start entries) h new list numbers empty brought =
    ap Ok (text_is (with_history (record { rollout = r; history = h }) start entries) (numbers start entries refl) ∙ ap₂ text_before (sym brought.1) (sym brought.0))
brought_text r digest (NoJournal first) h new list numbers empty brought = absurd brought
brought_text r digest (OfAnother bytes migration) h new list numbers empty brought = absurd brought
brought_text r digest NoStart h new list numbers empty brought = absurd brought
brought_text r digest (NotLegal place) h new list numbers empty brought = absurd brought

caused : (r : Rollout) (digest : Digest) (v : Verdict) (cause : JournalFault) → IsCause cause digest v → Tells (Err cause) (told_by r digest v)
caused r digest v (NotJournal first) is = ap (told_by r digest) is
caused r digest v (OtherPlan kept wanted) is = ap (told_by r digest) is.0 ∙ ap (λ w. Err (OtherPlan kept w)) (sym is.1)
caused r digest v BadStart is = ap (told_by r digest) is
caused r digest v (Illegal place) is = ap (told_by r digest) is
caused r digest v Disk is = tt
caused r digest v Memory is = tt

-- the graph of a rollout has the history that was found
pub told_text : (r : Rollout) (digest : Digest) (told : Option (List ℕ)) (new : Followed) (list entries : List Entry) (answer : Result (List ℕ) JournalFault) → new.rollout ≡ r → list ≡ new.history.entries
    → IfSome told (λ image. found_by r (verdict r digest image) ≡ Some new.history) → entries ≡ list
    → IfOk answer (λ text. text ≡ text_before new entries) → IfErr answer (λ cause. cause ≡ Memory) → IfSome told (λ image. Tells answer (told_by r digest (verdict r digest image)))
told_text r digest None new list entries answer same has found are ok err = tt
told_text r digest (Some image) new list entries (Ok text) same has found are ok err =
    brought_text r digest (verdict r digest image) (from_nothing r.problem []) new list (stood_numbers r digest image) refl (found_brought (verdict r digest image) r list new same has found)
    ∙ ap (λ l. Ok (text_before new l)) (sym are) ∙ ap Ok (sym ok)
told_text r digest (Some image) new list entries (Err cause) same has found are ok err = subst (λ x. Tells (Err x) (told_by r digest (verdict r digest image))) (sym err) tt

-- a cause that was found is the one that is told
pub told_cause : (r : Rollout) (digest : Digest) (told : Option (List ℕ)) (cause : JournalFault) → IfSome told (λ image. IsCause cause digest (verdict r digest image))
    → IfSome told (λ image. Tells (Err cause) (told_by r digest (verdict r digest image)))
told_cause r digest None cause is = tt
told_cause r digest (Some image) cause is = caused r digest (verdict r digest image) cause is

pub ok_each : {X : Type 0} (answer : Result X JournalFault) (P : Type 0) → P → IfOk answer (λ _. P)
ok_each (Ok x) P holds = holds
ok_each (Err cause) P holds = tt

-- what is said of an answer and of a disk, where memory ran out after the opening
pub left_short : {X : Type 0} (answer : Result X JournalFault) (P : JournalFault → Type 0) → IfErr answer (λ cause. cause ≡ Memory) → P Memory → IfErr answer P
left_short (Ok x) P is holds = tt
left_short (Err cause) P is holds = subst P (sym is) holds

-- ---- nothing was written

pub still_each : {D : Type 0} (trace : D → DiskTrace) (r : Rollout) (digest : Digest) (told : Option (List ℕ)) (old new : D)
    → ((c : List ℕ) → (trace old).left_since (trace old).moment c → (trace old).may_leave c) → new ≡ old
    → IfSome told (λ image. LeavesOnly trace old new (MayStand r digest image (verdict r digest image) (trace old).may_leave))
still_each trace r digest None old new now same = tt
still_each trace r digest (Some image) old new now same = still trace r digest image (verdict r digest image) (Some image) old new now same

-- what is told of a journal that is known as a plan's
pub told_known : (r : Rollout) (m : ℕ) (of : Rollout) (digest : Digest) (told : Option (List ℕ)) (answer : Result (List ℕ) JournalFault) → of ≡ r → digest ≡ digest_for r m
    → IfSome told (λ image. Tells answer (told_by of digest (verdict of digest image))) → IfSome told (λ image. Tells answer (journal_report r m image))
unfolding journal_report
told_known r m of digest None answer same known tells = tt
told_known r m of digest (Some image) answer same known tells =
    subst (λ d. Tells answer (told_by r d (verdict r d image))) known (subst (λ (o : Rollout). Tells answer (told_by o digest (verdict o digest image))) same tells)

pub memory_tells : (told : Option (List ℕ)) (report : List ℕ → Result (List ℕ) JournalFault) (answer : Result (List ℕ) JournalFault) → answer ≡ Err Memory → IfSome told (λ image. Tells answer (report image))
memory_tells None report answer is = tt
memory_tells (Some image) report answer is = subst (λ a. Tells a (report image)) (sym is) tt
