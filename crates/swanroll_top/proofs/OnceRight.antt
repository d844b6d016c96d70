-- What a live report has written was right once, and when it is written.
use Rattle.std.proofs.Common.{◌≡◌, ◌≢◌, inl, inr, ℕ, List, [], ◌∷◌, length, true, Option, Some, None, IfSome, Result, Ok, Err, IsOk, refl, sym, ap, subst, ◌∙◌, arith}
use Rattle.std.proofs.lemmas.Bool.{cases_lt}
use Rattle.rollout_rules.specs.Wan.{Rollout}
use Rattle.rollout_rules.specs.declared.limits.TheConstants.{MOST_INPUT}
use Rattle.wan_edge.specs.Streams.{Appends, SinkTrace, SourceTrace, no_sink}
use Rattle.intent_journal.specs.States.{Home}
use Rattle.intent_journal.specs.declared.fault.JournalFault.{JournalFault}
use Rattle.rollout_report.specs.Journals.{journal_report}
use Rattle.rollout_report.specs.Kept.{AreOneJournal}
use Rattle.rollout_report.specs.Watching.{AreMoments, AreReadFrom, HeldOnce, Moment}
use Rattle.rollout_report.proofs.Watched.{there_once}
use Rattle.text_commands.specs.CommandEnds.{status_of}
use Rattle.swanroll_top.specs.Live.{LiveTold, WroteOnce, plain}
use Rattle.text_commands.specs.Program.{Streams}
use Rattle.text_commands.specs.Answers.{rollout_to}
use Rattle.swanroll_top.specs.Reports.{EndsReport, FollowsReport, IsLate, RunsReport, or_journal}
use Rattle.text_commands.specs.Runs.{EndsWith, IsTold, TellsInput}
use Rattle.text_commands.specs.declared.command_end.CommandEnd.{CommandEnd}
use Rattle.text_commands.specs.declared.command_end.CommandEnd.TheVariants.{Done, Usage, AboveLimit, Input, NotValid, NoPlan, Unshown, ReadFault, WriteFault, DiskFault, GuestFault, Refused, NotFinished, OutOfMemory}
use Rattle.swanroll_top.specs.declared.live.LiveEnd.{LiveEnd}
use Rattle.swanroll_top.specs.declared.live.LiveEnd.TheVariants.{Ended, InUse}
use Rattle.text_commands.proofs.Answering.{is_answer, rollout-answers}
use Rattle.swanroll_top.proofs.Complete.{reported}
use Rattle.text_commands.proofs.Inputs.{told-within}
use Rattle.swanroll_top.proofs.Leaving.{told-status}
use Rattle.swanroll_top.proofs.Reporting.{long-rollout, rolled-within, short-rollout}
use Rattle.text_commands.proofs.Statuses.{is-done}

-- a refused input comes to no ending that a command has after it
to-answers : (input : List ℕ) (x : CommandEnd) → rollout_to input ≡ Err x → is_answer x ≡ true
to-answers input x is = elim (cases_lt MOST_INPUT (length input)) as (λ _. is_answer x ≡ true) [
  | inl long ↦ let same : AboveLimit ≡ x = cc (long-rollout input long, is) in ap is_answer (sym same)
  | inr short ↦ rollout-answers input x (sym (short-rollout input short) ∙ is)
]

not-done : (x : CommandEnd) → Done ≡ x → is_answer x ≡ true → ⊥
not-done x is answer = let no : is_answer Done ≡ true = ap is_answer is ∙ answer in cc

abbrev as_text : List ℕ → Result (List ℕ) JournalFault
as_text text = Ok text

told-ok : (r : Result (List ℕ) JournalFault) (text : List ℕ) → or_journal r ≡ Ok text → r ≡ as_text text
told-ok (Ok told) text is = let same : told ≡ text = cc is in ap as_text same
told-ok (Err e) text is = absurd (cc is)

-- the answer was written that is the report of this image
abbrev HasWritten : ℕ → Rollout → List ℕ → Option (List ℕ) → Option (List ℕ) → Type 0
HasWritten m o image out now = (text : List ℕ) × (journal_report o m image ≡ as_text text) × Appends out text now

has-written : (m : ℕ) (o : Rollout) (image : List ℕ) (out now : Option (List ℕ)) (answer : Result (List ℕ) CommandEnd) → or_journal (journal_report o m image) ≡ answer → IsLate answer → EndsWith answer Done out now
    → HasWritten m o image out now
has-written m o image out now (Ok text) is late (inl done) = (text, told-ok (journal_report o m image) text is, done.1)
has-written m o image out now (Ok text) is late (inr cut) = let no : Done ≡ WriteFault = cut.0 in absurd (cc no)
has-written m o image out now (Err e) is late ends = absurd (subst (λ (x : CommandEnd). IsLate (Err x)) (sym ends.0) late)

-- what is reported alike at a moment was told there
told-once : (m : ℕ) (o : Rollout) (image text : List ℕ) (moments : List Moment) → journal_report o m image ≡ as_text text → HeldOnce (AreOneJournal image) moments
    → HeldOnce (λ stood. journal_report o m stood ≡ as_text text) moments
told-once m o image text [] told held = absurd held
told-once m o image text (now ∷ later) told (inl one) = inl (sym (one.reported o m) ∙ told)
told-once m o image text (now ∷ later) told (inr more) = inr (told-once m o image text later told more)

module _ (m : ℕ) (source source_now : SourceTrace) (seen out now : Option (List ℕ)) (home : Home) (moments : List Moment) (are : AreMoments home moments) (read : IfSome seen (AreReadFrom 0 moments)) where
  follows-once : (follows : FollowsReport m source source_now seen Done out now) (r : Result Rollout CommandEnd) → rollout_to follows.input ≡ r → EndsReport m r seen Done out now → WroteOnce m source source_now moments out now
  follows-once follows (Err x) is ends = absurd (not-done x ends.0 (to-answers follows.input x is))
  follows-once follows (Ok o) is ends =
      let found = has-written m o ends.image out now ends.answer ends.is ends.late ends.ends in
      let was_read = subst (λ (s : Option (List ℕ)). IfSome s (AreReadFrom 0 moments)) ends.stored read in
      record {
        input = follows.input;
        read = follows.read;
        o = o;
        is = is;
        text = found.0;
        once = told-once m o ends.image found.0 moments found.1 (there_once home moments ends.image are was_read);
        written = found.2;
      }

  pub once-wrote : (ending : LiveEnd) (status : ℕ) (notes notes_now : SinkTrace) → LiveTold ending status notes notes_now → status ≡ 0 → RunsReport m source source_now seen (plain ending) out now
      → WroteOnce m source source_now moments out now
  once-wrote InUse status notes notes_now told zero runs = absurd (omega (arith, told.0, zero))
  once-wrote (Ended e) status notes notes_now told zero runs =
      let done : e ≡ Done = is-done e (told-status e status _ _ _ _ told 0 (λ n. omega (arith, n)) zero) in
      let follows : FollowsReport m source source_now seen Done out now = subst (λ (x : CommandEnd). RunsReport m source source_now seen x out now) done runs in
      follows-once follows (rollout_to follows.input) refl follows.ends

-- ---- when it is written

-- the status is that of the ending, or of lack of memory for its line
told-as : (e : CommandEnd) (status : ℕ) (before now : Option (List ℕ)) (faults faults_now : ℕ) → IsTold e status before now faults faults_now → status ≢ 12 → status ≡ status_of e
told-as e status before now faults faults_now told memory = elim told.is [
  | inl same ↦ told.is_status ∙ ap status_of same
  | inr short ↦ absurd (memory (told.is_status ∙ ap status_of short.0))
]

-- streams of which only this is told
abbrev only : SourceTrace → Option (List ℕ) → Option (List ℕ) → Streams
only source written stored = record {
  source = source;
  sink = record { written = written; faults = 0 };
  notes = no_sink;
  stored = stored;
  disk_faults = 0;
  fleet_faults = 0;
}

module _ (m : ℕ) (source source_now : SourceTrace) (out now : Option (List ℕ)) (input image : List ℕ) (o : Rollout) (tells : TellsInput source source_now input) (is : rollout_to input ≡ Ok o) (ok : IsOk (journal_report o m image)) where
  follows-well : (e : CommandEnd) → FollowsReport m source source_now (Some image) e out now → status_of e ≢ 7 → status_of e ≡ 0
  follows-well e follows cut =
      reported m (only source out (Some image)) (only source_now now None) 0 input image o (rollout_to follows.input) e
      (subst (λ (i : List ℕ). rollout_to i ≡ Ok o) (told-within source source_now follows.input input follows.read (rolled-within input o is) tells) is)
      refl ok follows.ends cut

  runs-well : (e : CommandEnd) → RunsReport m source source_now (Some image) e out now → status_of e ≢ 6 → status_of e ≢ 7 → status_of e ≢ 8 → status_of e ≢ 12 → status_of e ≡ 0
  runs-well Done runs six seven eight twelve = follows-well Done runs seven
  runs-well Usage runs six seven eight twelve = follows-well Usage runs seven
  runs-well AboveLimit runs six seven eight twelve = follows-well AboveLimit runs seven
  runs-well (Input f) runs six seven eight twelve = follows-well (Input f) runs seven
  runs-well (NotValid p b) runs six seven eight twelve = follows-well (NotValid p b) runs seven
  runs-well (NoPlan u) runs six seven eight twelve = follows-well (NoPlan u) runs seven
  runs-well (Unshown u) runs six seven eight twelve = follows-well (Unshown u) runs seven
  runs-well ReadFault runs six seven eight twelve = absurd (six refl)
  runs-well WriteFault runs six seven eight twelve = follows-well WriteFault runs seven
  runs-well DiskFault runs six seven eight twelve = absurd (eight refl)
  runs-well GuestFault runs six seven eight twelve = follows-well GuestFault runs seven
  runs-well (Refused f) runs six seven eight twelve = follows-well (Refused f) runs seven
  runs-well (NotFinished u) runs six seven eight twelve = follows-well (NotFinished u) runs seven
  runs-well OutOfMemory runs six seven eight twelve = absurd (twelve refl)

  pub live-written : (seen : Option (List ℕ)) (ending : LiveEnd) (status : ℕ) (notes notes_now : SinkTrace) → LiveTold ending status notes notes_now → RunsReport m source source_now seen (plain ending) out now → seen ≡ Some image
      → status ≢ 6 → status ≢ 7 → status ≢ 8 → status ≢ 12 → status ≡ 0
  live-written seen InUse status notes notes_now told runs stored six seven eight twelve = absurd (eight told.0)
  live-written seen (Ended e) status notes notes_now told runs stored six seven eight twelve =
      let same : status ≡ status_of e = told-as e status notes.written notes_now.written notes.faults notes_now.faults told twelve in
      same
      ∙ runs-well e (subst (λ (s : Option (List ℕ)). RunsReport m source source_now s e out now) stored runs) (λ x. six (same ∙ x)) (λ x. seven (same ∙ x)) (λ x. eight (same ∙ x)) (λ x. twelve (same ∙ x))
