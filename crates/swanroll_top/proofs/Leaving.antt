-- What a report leaves on its disk.
use Rattle.std.proofs.Common.{◌≡◌, ◌⊎◌, ℕ, List, Option, Some, None, IfOk, IfErr, IfSome, Result, Ok, Err, sym, ap, ◌∙◌, subst, inl, inr, arith}
use Rattle.std.specs.Prelude.{IsErrOf}
use Rattle.rollout_rules.specs.Wan.{Rollout}
use Rattle.disk_model.specs.Traces.{DiskTrace}
use Rattle.disk_model.specs.Crashes.{Within}
use Rattle.disk_model.specs.Moments.{LeavesOnly}
use Rattle.wan_edge.specs.Streams.{Rose, SourceTrace}
use Rattle.intent_journal.specs.declared.digest.Digest.{Digest}
use Rattle.intent_journal.specs.declared.fault.JournalFault.{JournalFault}
use Rattle.intent_journal.specs.declared.fault.JournalFault.TheVariants as journal
use Rattle.intent_journal.specs.Openings.{IsLeft, IsOpenedOn}
use Rattle.intent_journal.specs.Recovered.{KeepsNow, MayStand, OnRefusal, kept_for}
use Rattle.intent_journal.specs.Verdicts.{verdict}
use Rattle.intent_journal.proofs.Recoveries.{told_all}
use Rattle.rollout_report.specs.Journals.{digest_for}
use Rattle.rollout_report.proofs.Journaling.{still_each}
use Rattle.text_commands.specs.CommandEnds.{ending_of_journal, status_of}
use Rattle.swanroll_top.specs.Leavings.{LeavesJournal, LeavesRead, LeavesReported}
use Rattle.text_commands.specs.Reading.{IsCut, IsShortInput}
use Rattle.text_commands.specs.Answers.{rollout_in, rollout_to}
use Rattle.swanroll_top.specs.Reports.{EndsJournal}
use Rattle.text_commands.specs.Runs.{EndsWith, Gives, IsTold}
use Rattle.text_commands.specs.declared.command_end.CommandEnd.{CommandEnd}
use Rattle.text_commands.specs.declared.command_end.CommandEnd.TheVariants.{Done, Usage, AboveLimit, Input, NotValid, NoPlan, Unshown, ReadFault, WriteFault, DiskFault, GuestFault, Refused, NotFinished, OutOfMemory}
use Rattle.text_commands.proofs.Inputs.{told-short}
use Rattle.swanroll_top.proofs.Reporting.{short-rollout}

-- ---- which statuses speak of the journal

-- a status other than those that say what became of the journal
abbrev IsSilent : ℕ → Type 0
IsSilent status = (status ≡ 0 → ⊥) × ((status ≡ 7 → ⊥) × (status ≡ 10 → ⊥))

text-not-refused : (text : List ℕ) (e : CommandEnd) (out now : Option (List ℕ)) → EndsWith (Ok text) e out now → status_of e ≡ 10 → ⊥
text-not-refused text e out now (inl done) ten = omega (arith, ap status_of done.0, ten)
text-not-refused text e out now (inr cut) ten = omega (arith, ap status_of cut.0, ten)

fault-not-reported : (cause : JournalFault) → (status_of (ending_of_journal cause) ≡ 0) ⊎ (status_of (ending_of_journal cause) ≡ 7) → ⊥
fault-not-reported journal.Disk (inl h) = omega (arith, h)
fault-not-reported journal.Disk (inr h) = omega (arith, h)
fault-not-reported journal.Memory (inl h) = omega (arith, h)
fault-not-reported journal.Memory (inr h) = omega (arith, h)
fault-not-reported (journal.NotJournal first) (inl h) = omega (arith, h)
fault-not-reported (journal.NotJournal first) (inr h) = omega (arith, h)
fault-not-reported (journal.OtherPlan kept wanted) (inl h) = omega (arith, h)
fault-not-reported (journal.OtherPlan kept wanted) (inr h) = omega (arith, h)
fault-not-reported (journal.Illegal place) (inl h) = omega (arith, h)
fault-not-reported (journal.Illegal place) (inr h) = omega (arith, h)
fault-not-reported journal.BadStart (inl h) = omega (arith, h)
fault-not-reported journal.BadStart (inr h) = omega (arith, h)

on-refusal : (cause : JournalFault) (U : Type 0) → status_of (ending_of_journal cause) ≡ 10 → OnRefusal cause U → U
on-refusal journal.Disk U h holds = absurd (omega (arith, h))
on-refusal journal.Memory U h holds = absurd (omega (arith, h))
on-refusal (journal.NotJournal first) U h holds = holds
on-refusal (journal.OtherPlan kept wanted) U h holds = holds
on-refusal (journal.Illegal place) U h holds = holds
on-refusal journal.BadStart U h holds = holds

cut-silent : (source source_now : SourceTrace) (e : CommandEnd) → IsCut source e source_now → IsSilent (status_of e)
cut-silent source source_now Done r = absurd r
cut-silent source source_now Usage r = absurd r
cut-silent source source_now AboveLimit r = (λ h. omega (arith, h), (λ h. omega (arith, h), λ h. omega (arith, h)))
cut-silent source source_now (Input f) r = absurd r
cut-silent source source_now (NotValid p b) r = absurd r
cut-silent source source_now (NoPlan u) r = absurd r
cut-silent source source_now (Unshown u) r = absurd r
cut-silent source source_now ReadFault r = (λ h. omega (arith, h), (λ h. omega (arith, h), λ h. omega (arith, h)))
cut-silent source source_now WriteFault r = absurd r
cut-silent source source_now DiskFault r = absurd r
cut-silent source source_now GuestFault r = absurd r
cut-silent source source_now (Refused f) r = absurd r
cut-silent source source_now (NotFinished u) r = absurd r
cut-silent source source_now OutOfMemory r = (λ h. omega (arith, h), (λ h. omega (arith, h), λ h. omega (arith, h)))

memory-silent : IsSilent 12
memory-silent = (λ h. omega (arith, h), (λ h. omega (arith, h), λ h. omega (arith, h)))

-- ---- of whatever is told

ok-each : (r : Result Rollout CommandEnd) (P : Rollout → Type 0) → ((o : Rollout) → P o) → IfOk r P
ok-each (Ok o) P each = each o
ok-each (Err e) P each = tt

ok-more : (r : Result Rollout CommandEnd) (P Q : Rollout → Type 0) → ((o : Rollout) → P o → Q o) → IfOk r P → IfOk r Q
ok-more (Ok o) P Q more h = more o h
ok-more (Err e) P Q more h = tt

some-more : (told : Option (List ℕ)) (P Q : List ℕ → Type 0) → ((bytes : List ℕ) → P bytes → Q bytes) → IfSome told P → IfSome told Q
some-more None P Q more h = tt
some-more (Some bytes) P Q more h = more bytes h

-- the status that is told
pub told-status : (e : CommandEnd) (status : ℕ) (before now : Option (List ℕ)) (faults faults_now : ℕ) → IsTold e status before now faults faults_now → (n : ℕ) → (n ≡ 12 → ⊥) → status ≡ n → status_of e ≡ n
told-status e status before now faults faults_now told n other is = elim told.is [
  | inl same ↦ ap status_of (sym same) ∙ (sym told.is_status ∙ is)
  | inr memory ↦ absurd (other (sym is ∙ (told.is_status ∙ ap status_of memory.0)))
]

-- ---- the disk

module _ {D : Type 0} (trace : D → DiskTrace) (old new : D) where
  -- a journal was opened, and its report made or refused
  journal-each : (o : Rollout) (d : Digest) (told : Option (List ℕ)) (answer : Result (List ℕ) JournalFault) (e : CommandEnd) (out now : Option (List ℕ)) → EndsJournal answer e out now
      → IfOk answer (λ _. IfSome told (λ image. KeepsNow (kept_for o d (verdict o d image)) (trace new).bytes (trace new).may_leave))
      → IfSome told (λ image. LeavesOnly trace old new (MayStand o d image (verdict o d image) (trace old).may_leave))
      → IfErr answer (λ cause. OnRefusal cause (((trace new).bytes ≡ (trace old).bytes) × Within (trace new).may_leave (trace old).may_leave))
      → IfSome told (λ image. LeavesJournal trace o d image (status_of e) old new)
  journal-each o d None answer e out now ends keeps any unwritten = tt
  journal-each o d (Some image) (Ok text) e out now ends keeps any unwritten = record {
    any_moment = any;
    reported = λ h. keeps;
    refused = λ h. absurd (text-not-refused text e out now ends h);
  }
  journal-each o d (Some image) (Err cause) e out now ends keeps any unwritten = record {
    any_moment = any;
    reported = λ h. absurd (fault-not-reported cause (subst (λ x. (status_of x ≡ 0) ⊎ (status_of x ≡ 7)) ends.0 h));
    refused = λ h. on-refusal cause _ (sym (ap status_of ends.0) ∙ h) unwritten;
  }

  -- a disk that is as it was, and a status that says nothing of it
  pub untouched-leaves : (m : ℕ) (r : Result Rollout CommandEnd) (status : ℕ) → ((c : List ℕ) → (trace old).left_since (trace old).moment c → (trace old).may_leave c) → new ≡ old → IsSilent status
      → LeavesReported trace m r status old new
  untouched-leaves m r status only same silent = ok-each r _ (λ o. told_all (trace old).bytes _ (λ image. record {
    any_moment = still_each trace o (digest_for o m) (Some image) old new only same;
    reported = λ h. absurd (elim h [ inl zero ↦ silent.0 zero | inr seven ↦ silent.1.0 seven ]);
    refused = λ h. absurd (silent.1.1 h);
  }))

  pub input-leaves : (m : ℕ) (source source_now : SourceTrace) (input : List ℕ) (status : ℕ) → IsShortInput source source_now input → LeavesReported trace m (rollout_in input) status old new
      → LeavesRead trace m source source_now status old new
  input-leaves m source source_now input status s h told tells =
      let short = subst (λ r. LeavesReported trace m r status old new) (sym (short-rollout input s.within)) h in
      subst (λ x. LeavesReported trace m (rollout_to x) status old new) (sym (told-short source source_now input told s.input s.within tells)) short

  pub cut-leaves : (m : ℕ) (source source_now : SourceTrace) (e : CommandEnd) → IsCut source e source_now → ((c : List ℕ) → (trace old).left_since (trace old).moment c → (trace old).may_leave c) → new ≡ old
      → LeavesRead trace m source source_now (status_of e) old new
  cut-leaves m source source_now e cut only same told tells = untouched-leaves m (rollout_to told) (status_of e) only same (cut-silent source source_now e cut)

  refused-leaves : (m : ℕ) (r : Result Rollout CommandEnd) (e : CommandEnd) → r ≡ Err e → LeavesReported trace m r (status_of e) old new
  refused-leaves m r e is = subst (λ x. LeavesReported trace m x (status_of e) old new) (sym is) tt

  pub unread-leaves : (m : ℕ) (r : Result Rollout CommandEnd) (e : CommandEnd) → Gives {A = Rollout} (Err e) r → ((c : List ℕ) → (trace old).left_since (trace old).moment c → (trace old).may_leave c) → new ≡ old
      → LeavesReported trace m r (status_of e) old new
  unread-leaves m r Done g only same = refused-leaves m r Done g
  unread-leaves m r Usage g only same = refused-leaves m r Usage g
  unread-leaves m r AboveLimit g only same = refused-leaves m r AboveLimit g
  unread-leaves m r (Input f) g only same = refused-leaves m r (Input f) g
  unread-leaves m r (NotValid p b) g only same = refused-leaves m r (NotValid p b) g
  unread-leaves m r (NoPlan u) g only same = refused-leaves m r (NoPlan u) g
  unread-leaves m r (Unshown u) g only same = refused-leaves m r (Unshown u) g
  unread-leaves m r ReadFault g only same = refused-leaves m r ReadFault g
  unread-leaves m r WriteFault g only same = refused-leaves m r WriteFault g
  unread-leaves m r DiskFault g only same = refused-leaves m r DiskFault g
  unread-leaves m r GuestFault g only same = refused-leaves m r GuestFault g
  unread-leaves m r (Refused f) g only same = refused-leaves m r (Refused f) g
  unread-leaves m r (NotFinished u) g only same = refused-leaves m r (NotFinished u) g
  unread-leaves m r OutOfMemory g only same = untouched-leaves m r 12 only same memory-silent

  pub read-leaves : (m : ℕ) (r : Result Rollout CommandEnd) (o : Rollout) (status : ℕ) → r ≡ Ok o
      → IfSome (trace old).bytes (λ image. LeavesJournal trace o (digest_for o m) image status old new) → LeavesReported trace m r status old new
  read-leaves m r o status is h = subst (λ x. LeavesReported trace m x status old new) (sym is) h

  pub told-leaves : (m : ℕ) (source source_now : SourceTrace) (e : CommandEnd) (status : ℕ) (before now : Option (List ℕ)) (faults faults_now : ℕ) → IsTold e status before now faults faults_now
      → LeavesRead trace m source source_now (status_of e) old new → LeavesRead trace m source source_now status old new
  told-leaves m source source_now e status before now faults faults_now told h input tells =
      ok-more (rollout_to input) _ _ (λ o. some-more (trace old).bytes _ _ (λ image j. record {
        any_moment = j.any_moment;
        reported = λ s. j.reported (elim s [
          | inl zero ↦ inl (told-status e status before now faults faults_now told 0 (λ n. omega (arith, n)) zero)
          | inr seven ↦ inr (told-status e status before now faults faults_now told 7 (λ n. omega (arith, n)) seven)
        ]);
        refused = λ s. j.refused (told-status e status before now faults faults_now told 10 (λ n. omega (arith, n)) s);
      })) (h input tells)

module _ {D : Type 0} (trace : D → DiskTrace) (old new : D) where
  pub journal-leaves : (o : Rollout) (m : ℕ) (answer : Result (List ℕ) JournalFault) (e : CommandEnd) (out now : Option (List ℕ)) → EndsJournal answer e out now
      → IfOk answer (λ _. IsOpenedOn trace o (digest_for o m) old new) → IfErr answer (λ cause. IsLeft trace o (digest_for o m) old cause new)
      → IfSome (trace old).bytes (λ image. LeavesJournal trace o (digest_for o m) image (status_of e) old new)
  journal-leaves o m (Ok text) e out now ends opened left =
      journal-each trace old new o (digest_for o m) (trace old).bytes (Ok text) e out now ends opened.keeps opened.meanwhile left
  journal-leaves o m (Err cause) e out now ends opened left =
      journal-each trace old new o (digest_for o m) (trace old).bytes (Err cause) e out now ends opened left.meanwhile left.unwritten

  pub journal-failed : (o : Rollout) (digest : Digest) (answer : Result (List ℕ) JournalFault) → IfErr answer (λ cause. IsLeft trace o digest old cause new)
      → IsErrOf answer journal.Disk → Rose (trace old).faults (trace new).faults
  journal-failed o digest (Ok text) left is = absurd (cc is)
  journal-failed o digest (Err cause) left is = left.failed (cc is)
