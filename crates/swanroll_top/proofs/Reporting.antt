-- How a report follows from its input and from the journal.
use Rattle.std.proofs.Common.{◌≡◌, ◌⊎◌, ℕ, ◌<◌, ◌≤◌, List, length, length-append, true, false, Option, Some, None, IfSome, Result, Ok, Err, refl, sym, ap, ◌∙◌, subst, inl, inr, arith}
use Rattle.std.proofs.lemmas.Bool.{cases_lt, le-ltb, lt-ltb}
use Rattle.wan_edge.specs.Streams.{SourceTrace}
use Rattle.rollout_rules.specs.Wan.{Rollout}
use Rattle.rollout_rules.specs.declared.limits.TheConstants.{MOST_INPUT}
use Rattle.wan_edge.specs.ReadAll.{GoesBeyond}
use Rattle.disk_mirror.specs.Openings.{IsTold}
use Rattle.plan_check.specs.FirstBroken.{first_broken}
use Rattle.plan_check.specs.declared.broken.Broken.{Broken}
use Rattle.plan_check.proofs.Firsts.{unbroken-valid, broken-invalid}
use Rattle.problem_json.specs.GrammarDocuments.{DocumentRead, document_in}
use Rattle.problem_json.specs.declared.fault.InputFault.{InputFault}
use Rattle.intent_journal.specs.declared.fault.JournalFault.{JournalFault}
use Rattle.intent_journal.specs.declared.fault.JournalFault.TheVariants as journal
use Rattle.rollout_report.specs.Journals.{Tells, journal_report}
use Rattle.text_commands.specs.Answers.{◌>>=◌, checked, or_ending, unless_broken, rollout_in, rollout_to}
use Rattle.text_commands.specs.CommandEnds.{ending_of, ending_of_journal, status_of}
use Rattle.text_commands.specs.Reading.{IsCut, IsShortInput}
use Rattle.swanroll_top.specs.Reports.{EndsJournal, EndsReport, FollowsReport, FollowsReported, IsLate, ReadsDocument, RunsReport, or_journal}
use Rattle.text_commands.specs.Runs.{EndsWith, Gives, IsInput, IsReadToEnd}
use Rattle.text_commands.specs.Taken.{IsValidDocument}
use Rattle.text_commands.specs.declared.command_end.CommandEnd.{CommandEnd}
use Rattle.text_commands.specs.declared.command_end.CommandEnd.TheVariants.{Done, Usage, AboveLimit, Input, NotValid, NoPlan, Unshown, ReadFault, WriteFault, DiskFault, GuestFault, Refused, NotFinished, OutOfMemory}
use Rattle.text_commands.proofs.Answering.{is_answer, rollout-answers, rollout-gives}
use Rattle.text_commands.proofs.Documents.{checked-by}
use Rattle.text_commands.proofs.Inputs.{beyond-input}
use Rattle.text_commands.proofs.Steps.{fault-ends}
use Rattle.text_commands.specs.declared.unfinished.Unfinished.{Unfinished}
use Rattle.text_commands.proofs.Statuses.{not-status}
use Rattle.text_commands.proofs.Refused.{same-document}

-- ---- whether an input is a document with a valid plan

abbrev pub IsJudgedAs : List ℕ → Result Rollout CommandEnd → Type 0
IsJudgedAs input (Ok o) = IsValidDocument input
IsJudgedAs input (Err e) = (e ≡ OutOfMemory) ⊎ ((IsValidDocument input → ⊥) × (status_of e ≡ 3))

broken-judged : (input : List ℕ) (d : DocumentRead) → document_in input ≡ Ok d → length input ≤ MOST_INPUT → (broken : Option Broken) → first_broken d.problem d.plan ≡ broken → IsJudgedAs input (unless_broken d broken)
broken-judged input d read within None is = record { within = within; document = d; read = read; valid = unbroken-valid d.problem d.plan is }
broken-judged input d read within (Some b) is = inr (λ t. let both : true ≡ false = sym (same-document input d read t) ∙ broken-invalid d.problem d.plan b is in cc, refl)

fault-judged : (input : List ℕ) (f : InputFault) → document_in input ≡ Err f → IsJudgedAs input (Err (ending_of f))
fault-judged input f is = elim (fault-ends f) [
  | inl input_is ↦ inr (λ t. no-both t.document t.read, ap status_of input_is)
  | inr memory ↦ inl memory
]
  where
    no-both : (d : DocumentRead) → document_in input ≡ Ok d → ⊥
    no-both d read = let both : Err f ≡ Ok d = sym is ∙ read in cc

read-judged : (input : List ℕ) (read : Result DocumentRead InputFault) → document_in input ≡ read → length input ≤ MOST_INPUT → IsJudgedAs input (or_ending read >>= checked)
read-judged input (Ok d) is within = subst (IsJudgedAs input) (sym (checked-by d (first_broken d.problem d.plan) refl)) (broken-judged input d is within (first_broken d.problem d.plan) refl)
read-judged input (Err f) is within = fault-judged input f is

pub rollout-judged : (input : List ℕ) → length input ≤ MOST_INPUT → IsJudgedAs input (rollout_in input)
unfolding rollout_in
rollout-judged input within = read-judged input (document_in input) refl within

pub short-rollout : (input : List ℕ) → length input ≤ MOST_INPUT → rollout_to input ≡ rollout_in input
unfolding rollout_to
short-rollout input short = rw (le-ltb MOST_INPUT (length input) short) refl

pub long-rollout : (input : List ℕ) → MOST_INPUT < length input → rollout_to input ≡ Err AboveLimit
unfolding rollout_to
long-rollout input long = rw (lt-ltb MOST_INPUT (length input) long) refl

-- ---- what an ending says

late-status : (answer : Result (List ℕ) CommandEnd) (e : CommandEnd) (out now : Option (List ℕ)) → IsLate answer → EndsWith answer e out now → status_of e ≡ 3 → ⊥
late-status (Ok text) e out now late (inl done) three = omega (arith, ap status_of done.0, three)
late-status (Ok text) e out now late (inr cut) three = omega (arith, ap status_of cut.0, three)
late-status (Err (Refused f)) e out now late h three = omega (arith, ap status_of h.0, three)
late-status (Err (NotFinished u)) e out now late h three = late
late-status (Err Done) e out now late h three = late
late-status (Err Usage) e out now late h three = late
late-status (Err AboveLimit) e out now late h three = late
late-status (Err (Input f)) e out now late h three = late
late-status (Err (NotValid p b)) e out now late h three = late
late-status (Err (NoPlan u)) e out now late h three = late
late-status (Err (Unshown u)) e out now late h three = late
late-status (Err ReadFault) e out now late h three = late
late-status (Err WriteFault) e out now late h three = late
late-status (Err DiskFault) e out now late h three = late
late-status (Err GuestFault) e out now late h three = late
late-status (Err OutOfMemory) e out now late h three = late

unwritten : (answer : Result (List ℕ) CommandEnd) (e : CommandEnd) (out now : Option (List ℕ)) → EndsWith answer e out now → (status_of e ≡ 0 → ⊥) → (status_of e ≡ 7 → ⊥) → now ≡ out
unwritten (Ok text) e out now (inl done) zero seven = absurd (zero (ap status_of done.0))
unwritten (Ok text) e out now (inr cut) zero seven = absurd (seven (ap status_of cut.0))
unwritten (Err x) e out now h zero seven = h.1

module _ (m : ℕ) (told out out_now : Option (List ℕ)) (input : List ℕ) (e : CommandEnd) where
  refused-exactly : (r : Result Rollout CommandEnd) → IsJudgedAs input r → EndsReport m r told e out out_now → (e ≡ OutOfMemory → ⊥)
      → (status_of e ≡ 3 → IsValidDocument input → ⊥) × ((IsValidDocument input → ⊥) → status_of e ≡ 3)
  refused-exactly (Ok o) valid ends some = (λ three _. late-status ends.answer e out out_now ends.late ends.ends three, λ n. absurd (n valid))
  refused-exactly (Err x) (inl memory) ends some = absurd (some (ends.0 ∙ memory))
  refused-exactly (Err x) (inr judged) ends some = (λ _. judged.0, λ _. ap status_of ends.0 ∙ judged.1)

  ends-silent : (r : Result Rollout CommandEnd) → EndsReport m r told e out out_now → (status_of e ≡ 0 → ⊥) → (status_of e ≡ 7 → ⊥) → out_now ≡ out
  ends-silent (Ok o) ends zero seven = unwritten ends.answer e out out_now ends.ends zero seven
  ends-silent (Err x) ends zero seven = ends.1

-- a source of which no more than the limit was read was read to its end
read-to-end : (source source_now : SourceTrace) (input : List ℕ) → IsInput source source_now input → length input ≤ MOST_INPUT → IsReadToEnd source source_now input
read-to-end source source_now input is within = elim is.read [
  | inl end ↦ end
  | inr far ↦ absurd (omega (arith, within, far.goes.beyond, ap length far.parts, length-append far.goes.bytes far.behind))
]

-- the input of a rollout is within the limit
pub rolled-within : (input : List ℕ) (o : Rollout) → rollout_to input ≡ Ok o → length input ≤ MOST_INPUT
rolled-within input o is = elim (cases_lt MOST_INPUT (length input)) [
  | inr within ↦ within
  | inl long ↦ absurd (let no : Err AboveLimit ≡ Ok o = sym (long-rollout input long) ∙ is in cc)
]

-- a rollout's input is a document with a valid plan, and was read to its end
pub reads-document : (source source_now : SourceTrace) (input : List ℕ) (o : Rollout) → IsInput source source_now input → rollout_to input ≡ Ok o → ReadsDocument source source_now
reads-document source source_now input o read is =
    let within = rolled-within input o is in
    record {
      input = input;
      whole = read.whole;
      read = read-to-end source source_now input read within;
      valid = subst (IsJudgedAs input) (sym (short-rollout input within) ∙ is) (rollout-judged input within);
    }

-- ---- a source that was read to its end, and one that wasn't

module _ (m : ℕ) (source source_now : SourceTrace) (told out out_now : Option (List ℕ)) (input : List ℕ) where
  follows-report : (e : CommandEnd) → IsShortInput source source_now input → EndsReport m (rollout_in input) told e out out_now → (e ≡ OutOfMemory → ⊥) → FollowsReport m source source_now told e out out_now
  follows-report e s ends some = record {
    input = input;
    read = s.input;
    ends = subst (λ r. EndsReport m r told e out out_now) (sym (short-rollout input s.within)) ends;
    refused = refused-exactly m told out out_now input e (rollout_in input) (rollout-judged input s.within) ends some;
    silent = ends-silent m told out out_now input e (rollout_in input) ends;
  }

  pub short-reports : (e : CommandEnd) → IsShortInput source source_now input → FollowsReported m (rollout_in input) told e out out_now → RunsReport m source source_now told e out out_now
  short-reports Done s h = follows-report Done s h (λ e. cc)
  short-reports Usage s h = follows-report Usage s h (λ e. cc)
  short-reports AboveLimit s h = follows-report AboveLimit s h (λ e. cc)
  short-reports (Input f) s h = follows-report (Input f) s h (λ e. cc)
  short-reports (NotValid p b) s h = follows-report (NotValid p b) s h (λ e. cc)
  short-reports (NoPlan u) s h = follows-report (NoPlan u) s h (λ e. cc)
  short-reports (Unshown u) s h = follows-report (Unshown u) s h (λ e. cc)
  short-reports ReadFault s h = ends-silent m told out out_now input ReadFault (rollout_in input) h (λ e. omega (arith, e)) (λ e. omega (arith, e))
  short-reports WriteFault s h = follows-report WriteFault s h (λ e. cc)
  short-reports DiskFault s h = (reads-document source source_now input h.0.0 s.input (short-rollout input s.within ∙ h.0.1), h.1)
  short-reports GuestFault s h = follows-report GuestFault s h (λ e. cc)
  short-reports (Refused f) s h = follows-report (Refused f) s h (λ e. cc)
  short-reports (NotFinished u) s h = follows-report (NotFinished u) s h (λ e. cc)
  short-reports OutOfMemory s h = h

long-reports : (m : ℕ) (before now : SourceTrace) (told out : Option (List ℕ)) (input : List ℕ) → IsInput before now input → MOST_INPUT < length input → FollowsReport m before now told AboveLimit out out
long-reports m before now told out input read long = record {
  input = input;
  read = read;
  ends = subst (λ r. EndsReport m r told AboveLimit out out) (sym (long-rollout input long)) (refl, refl);
  refused = (λ _ t. omega (arith, long, t.within), λ _. refl);
  silent = λ zero seven. refl;
}

pub beyond-reports : (m : ℕ) (before now : SourceTrace) (told out : Option (List ℕ)) → GoesBeyond MOST_INPUT before now → FollowsReport m before now told AboveLimit out out
beyond-reports m before now told out g =
    let i = beyond-input before now g in
    long-reports m before now told out i.input i.is i.long

pub cut-reports : (m : ℕ) (source source_now : SourceTrace) (told out : Option (List ℕ)) (e : CommandEnd) → IsCut source e source_now → RunsReport m source source_now told e out out
cut-reports m source source_now told out Done r = absurd r
cut-reports m source source_now told out Usage r = absurd r
cut-reports m source source_now told out AboveLimit r = beyond-reports m source source_now told out r
cut-reports m source source_now told out (Input f) r = absurd r
cut-reports m source source_now told out (NotValid p b) r = absurd r
cut-reports m source source_now told out (NoPlan u) r = absurd r
cut-reports m source source_now told out (Unshown u) r = absurd r
cut-reports m source source_now told out ReadFault r = refl
cut-reports m source source_now told out WriteFault r = absurd r
cut-reports m source source_now told out DiskFault r = absurd r
cut-reports m source source_now told out GuestFault r = absurd r
cut-reports m source source_now told out (Refused f) r = absurd r
cut-reports m source source_now told out (NotFinished u) r = absurd r
cut-reports m source source_now told out OutOfMemory r = refl

-- ---- what a journal comes to

module _ (m : ℕ) (o : Rollout) (image : List ℕ) (out : Option (List ℕ)) where
  reported-text : (text : List ℕ) (e : CommandEnd) (now : Option (List ℕ)) → Tells (Ok text) (journal_report o m image) → EndsWith (Ok text) e out now → FollowsReported m (Ok o) (Some image) e out now
  reported-text text e now tells (inl done) =
      subst (λ x. FollowsReported m (Ok o) (Some image) x out now) (sym done.0)
      (record { image = image; stored = refl; answer = Ok text; late = tt; is = ap or_journal tells; ends = inl (refl, done.1) })
  reported-text text e now tells (inr cut) =
      subst (λ x. FollowsReported m (Ok o) (Some image) x out now) (sym cut.0)
      (record { image = image; stored = refl; answer = Ok text; late = tt; is = ap or_journal tells; ends = inr (refl, cut.1) })

  reported-fault : (cause : JournalFault) → Tells (Err cause) (journal_report o m image) → FollowsReported m (Ok o) (Some image) (ending_of_journal cause) out out
  reported-fault journal.Disk tells = ((o, refl), refl)
  reported-fault journal.Memory tells = refl
  reported-fault (journal.NotJournal first) tells =
      record { image = image; stored = refl; answer = Err (Refused (journal.NotJournal first)); late = tt; is = ap or_journal tells; ends = (refl, refl) }
  reported-fault (journal.OtherPlan kept wanted) tells =
      record { image = image; stored = refl; answer = Err (Refused (journal.OtherPlan kept wanted)); late = tt; is = ap or_journal tells; ends = (refl, refl) }
  reported-fault (journal.Illegal place) tells =
      record { image = image; stored = refl; answer = Err (Refused (journal.Illegal place)); late = tt; is = ap or_journal tells; ends = (refl, refl) }
  reported-fault journal.BadStart tells =
      record { image = image; stored = refl; answer = Err (Refused journal.BadStart); late = tt; is = ap or_journal tells; ends = (refl, refl) }

pub reported : (m : ℕ) (o : Rollout) (told out now : Option (List ℕ)) (answer : Result (List ℕ) JournalFault) (e : CommandEnd) → IsTold told → IfSome told (λ image. Tells answer (journal_report o m image))
    → EndsJournal answer e out now → FollowsReported m (Ok o) told e out now
reported m o None out now answer e some tells ends = absurd (cc some)
reported m o (Some image) out now (Ok text) e some tells ends = reported-text m o image out text e now tells ends
reported m o (Some image) out now (Err cause) e some tells ends =
    subst (λ x. FollowsReported m (Ok o) (Some image) x out now) (sym ends.0)
    (subst (λ w. FollowsReported m (Ok o) (Some image) (ending_of_journal cause) out w) (sym ends.1) (reported-fault m o image out cause tells))

-- a report of a rollout never ends as if its input were refused
pub reported-late : (m : ℕ) (o : Rollout) (told out now : Option (List ℕ)) (e : CommandEnd) → FollowsReported m (Ok o) told e out now → status_of e ≡ 3 → ⊥
reported-late m o told out now Done h three = late-status h.answer Done out now h.late h.ends three
reported-late m o told out now Usage h three = late-status h.answer Usage out now h.late h.ends three
reported-late m o told out now AboveLimit h three = late-status h.answer AboveLimit out now h.late h.ends three
reported-late m o told out now (Input f) h three = late-status h.answer (Input f) out now h.late h.ends three
reported-late m o told out now (NotValid p b) h three = late-status h.answer (NotValid p b) out now h.late h.ends three
reported-late m o told out now (NoPlan u) h three = late-status h.answer (NoPlan u) out now h.late h.ends three
reported-late m o told out now (Unshown u) h three = late-status h.answer (Unshown u) out now h.late h.ends three
reported-late m o told out now ReadFault h three = late-status h.answer ReadFault out now h.late h.ends three
reported-late m o told out now WriteFault h three = late-status h.answer WriteFault out now h.late h.ends three
reported-late m o told out now DiskFault h three = omega (arith, three)
reported-late m o told out now GuestFault h three = late-status h.answer GuestFault out now h.late h.ends three
reported-late m o told out now (Refused f) h three = late-status h.answer (Refused f) out now h.late h.ends three
reported-late m o told out now (NotFinished u) h three = late-status h.answer (NotFinished u) out now h.late h.ends three
reported-late m o told out now OutOfMemory h three = omega (arith, three)

-- the ending is that of the disk exactly where the disk failed, and never another device's
pub fault-of-disk : (cause : JournalFault) → ending_of_journal cause ≡ DiskFault → cause ≡ journal.Disk
fault-of-disk journal.Disk h = refl
fault-of-disk journal.Memory h = cc
fault-of-disk (journal.NotJournal first) h = cc
fault-of-disk (journal.OtherPlan kept wanted) h = cc
fault-of-disk (journal.Illegal place) h = cc
fault-of-disk journal.BadStart h = cc

-- ---- an input that is refused

module _ (m : ℕ) (told out : Option (List ℕ)) (r : Result Rollout CommandEnd) where
  refused-by : (e : CommandEnd) → r ≡ Err e → EndsReport m r told e out out
  refused-by e is = subst (λ x. EndsReport m x told e out out) (sym is) (refl, refl)

  pub input-refused : (e : CommandEnd) → (r ≡ Err DiskFault → ⊥) → Gives {A = Rollout} (Err e) r → FollowsReported m r told e out out
  input-refused Done never g = refused-by Done g
  input-refused Usage never g = refused-by Usage g
  input-refused AboveLimit never g = refused-by AboveLimit g
  input-refused (Input f) never g = refused-by (Input f) g
  input-refused (NotValid p b) never g = refused-by (NotValid p b) g
  input-refused (NoPlan u) never g = refused-by (NoPlan u) g
  input-refused (Unshown u) never g = refused-by (Unshown u) g
  input-refused ReadFault never g = refused-by ReadFault g
  input-refused WriteFault never g = refused-by WriteFault g
  input-refused DiskFault never g = absurd (never g)
  input-refused GuestFault never g = refused-by GuestFault g
  input-refused (Refused f) never g = refused-by (Refused f) g
  input-refused (NotFinished u) never g = refused-by (NotFinished u) g
  input-refused OutOfMemory never g = refl

pub input-no-disk : (input : List ℕ) (e : CommandEnd) → Gives {A = Rollout} (Err e) (rollout_in input) → e ≡ DiskFault → ⊥
input-no-disk input e g is = let no : is_answer DiskFault ≡ true = ap is_answer (sym is) ∙ rollout-gives input e g in cc

pub input-no-write : (input : List ℕ) (e : CommandEnd) → Gives {A = Rollout} (Err e) (rollout_in input) → e ≡ WriteFault → ⊥
input-no-write input e g is = let no : is_answer WriteFault ≡ true = ap is_answer (sym is) ∙ rollout-gives input e g in cc

-- ---- no report ends as if nothing had been read

late-ends : (answer : Result (List ℕ) CommandEnd) (e : CommandEnd) (out now : Option (List ℕ)) → IsLate answer → EndsWith answer e out now → (status_of e ≡ 0) ⊎ ((status_of e ≡ 7) ⊎ (status_of e ≡ 10))
late-ends (Ok text) e out now late (inl done) = inl (ap status_of done.0)
late-ends (Ok text) e out now late (inr cut) = inr (inl (ap status_of cut.0))
late-ends (Err (Refused f)) e out now late h = inr (inr (ap status_of h.0))
late-ends (Err (NotFinished u)) e out now late h = absurd late
late-ends (Err Done) e out now late h = absurd late
late-ends (Err Usage) e out now late h = absurd late
late-ends (Err AboveLimit) e out now late h = absurd late
late-ends (Err (Input f)) e out now late h = absurd late
late-ends (Err (NotValid p b)) e out now late h = absurd late
late-ends (Err (NoPlan u)) e out now late h = absurd late
late-ends (Err (Unshown u)) e out now late h = absurd late
late-ends (Err ReadFault) e out now late h = absurd late
late-ends (Err WriteFault) e out now late h = absurd late
late-ends (Err DiskFault) e out now late h = absurd late
late-ends (Err GuestFault) e out now late h = absurd late
late-ends (Err OutOfMemory) e out now late h = absurd late

module _ (m : ℕ) (told out now : Option (List ℕ)) where
  no-fault : (r : Result Rollout CommandEnd) → ((x : CommandEnd) → r ≡ Err x → is_answer x ≡ true) → EndsReport m r told ReadFault out now → ⊥
  no-fault (Ok o) answers ends = elim (late-ends ends.answer ReadFault out now ends.late ends.ends) [ inl h ↦ omega (arith, h) | inr more ↦ elim more [ inl h ↦ omega (arith, h) | inr h ↦ omega (arith, h) ] ]
  no-fault (Err x) answers ends = let no : is_answer ReadFault ≡ true = ap is_answer ends.0 ∙ answers x refl in cc

  no-words : (r : Result Rollout CommandEnd) → ((x : CommandEnd) → r ≡ Err x → is_answer x ≡ true) → EndsReport m r told Usage out now → ⊥
  no-words (Ok o) answers ends = elim (late-ends ends.answer Usage out now ends.late ends.ends) [ inl h ↦ omega (arith, h) | inr more ↦ elim more [ inl h ↦ omega (arith, h) | inr h ↦ omega (arith, h) ] ]
  no-words (Err x) answers ends = let no : is_answer Usage ≡ true = ap is_answer ends.0 ∙ answers x refl in cc

  no-guests : (r : Result Rollout CommandEnd) → ((x : CommandEnd) → r ≡ Err x → is_answer x ≡ true) → EndsReport m r told GuestFault out now → ⊥
  no-guests (Ok o) answers ends = elim (late-ends ends.answer GuestFault out now ends.late ends.ends) [ inl h ↦ omega (arith, h) | inr more ↦ elim more [ inl h ↦ omega (arith, h) | inr h ↦ omega (arith, h) ] ]
  no-guests (Err x) answers ends = let no : is_answer GuestFault ≡ true = ap is_answer ends.0 ∙ answers x refl in cc

  no-rollouts : (u : Unfinished) (r : Result Rollout CommandEnd) → ((x : CommandEnd) → r ≡ Err x → is_answer x ≡ true) → EndsReport m r told (NotFinished u) out now → ⊥
  no-rollouts u (Ok o) answers ends = elim (late-ends ends.answer (NotFinished u) out now ends.late ends.ends) [ inl h ↦ not-status 0 refl u h | inr more ↦ elim more [ inl h ↦ not-status 7 refl u h | inr h ↦ not-status 10 refl u h ] ]
  no-rollouts u (Err x) answers ends = let no : is_answer (NotFinished u) ≡ true = ap is_answer ends.0 ∙ answers x refl in cc

  pub report-no-rollout : (u : Unfinished) (input : List ℕ) (e : CommandEnd) → FollowsReported m (rollout_in input) told e out now → e ≡ NotFinished u → ⊥
  report-no-rollout u input e h is = no-rollouts u (rollout_in input) (rollout-answers input) (subst (λ x. FollowsReported m (rollout_in input) told x out now) is h)

  pub report-no-read : (input : List ℕ) (e : CommandEnd) → FollowsReported m (rollout_in input) told e out now → e ≡ ReadFault → ⊥
  report-no-read input e h is = no-fault (rollout_in input) (rollout-answers input) (subst (λ x. FollowsReported m (rollout_in input) told x out now) is h)

  pub report-no-usage : (input : List ℕ) (e : CommandEnd) → FollowsReported m (rollout_in input) told e out now → e ≡ Usage → ⊥
  report-no-usage input e h is = no-words (rollout_in input) (rollout-answers input) (subst (λ x. FollowsReported m (rollout_in input) told x out now) is h)

  pub report-no-guest : (input : List ℕ) (e : CommandEnd) → FollowsReported m (rollout_in input) told e out now → e ≡ GuestFault → ⊥
  report-no-guest input e h is = no-guests (rollout_in input) (rollout-answers input) (subst (λ x. FollowsReported m (rollout_in input) told x out now) is h)
