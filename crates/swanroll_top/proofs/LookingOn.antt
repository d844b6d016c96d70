-- What looks in a row come to.
use Rattle.std.proofs.Common.{◌≡◌, inl, inr, ◌<◌, ◌^◌, ℕ, Bool, true, false, List, [], ◌∷◌, ◌++◌, if◌then◌else◌, Option, Result, Ok, Err, refl, sym, ap, subst, ◌∙◌}
use Rattle.std.specs.Prelude.{bytes_eq}
use Rattle.std.proofs.lemmas.List.{append-nil, append_assoc}
use Rattle.rollout_rules.specs.Wan.{Rollout}
use Rattle.disk_model.specs.Memory.{Storing}
use Rattle.wan_edge.specs.Streams.{Appends, SourceTrace}
use Rattle.wan_edge.proofs.Chains.{Appends-chain, Appends-nothing}
use Rattle.intent_journal.specs.declared.fault.JournalFault.{JournalFault}
use Rattle.intent_journal.specs.declared.fault.JournalFault.TheVariants as journal
use Rattle.file_sight.specs.Sights.{Looks}
use Rattle.file_sight.specs.declared.unseen.Unseen.{Unseen}
use Rattle.file_sight.specs.declared.unseen.Unseen.TheVariants as unseen
use Rattle.rollout_report.specs.Journals.{Tells, journal_report}
use Rattle.retarget_service.specs.JournalRoom.{journal_room}
use Rattle.swanroll_top.specs.Live.{Sees, ending_of_unseen}
use Rattle.text_commands.specs.Answers.{rollout_in}
use Rattle.text_commands.specs.Runs.{EndsWith, Gives}
use Rattle.swanroll_top.specs.Watches.{AreReported, Differ, EndsLooking, HasNoText, ImageText, IsReported, TextOr, TurnOf, Writes, WritesAnew, Wrote, all_of, ends_finished, last_of, or_live, turn_after, turn_of}
use Rattle.text_commands.specs.declared.command_end.CommandEnd.{CommandEnd}
use Rattle.text_commands.specs.declared.command_end.CommandEnd.TheVariants.{Done, Usage, AboveLimit, Input, NotValid, NoPlan, Unshown, ReadFault, WriteFault, DiskFault, GuestFault, Refused, NotFinished, OutOfMemory}
use Rattle.swanroll_top.specs.declared.live.LiveEnd.{LiveEnd}
use Rattle.swanroll_top.specs.declared.live.LiveEnd.TheVariants.{Ended, InUse}
use Rattle.swanroll_top.specs.declared.turning.Turn.{Turn}
use Rattle.swanroll_top.specs.declared.turning.Turn.TheVariants.{Goes, Ends}
use Rattle.text_commands.proofs.Answering.{is_answer, rollout-gives}

-- ---- the text of an image, and of what was seen

image-by : (report answer : Result (List ℕ) JournalFault) → Tells answer report → ImageText report (or_live answer)
image-by report (Ok text) tells = tells
image-by report (Err journal.Disk) tells = tt
image-by report (Err journal.Memory) tells = tt
image-by report (Err (journal.NotJournal first)) tells = tells
image-by report (Err (journal.OtherPlan kept wanted)) tells = tells
image-by report (Err (journal.Illegal place)) tells = tells
image-by report (Err journal.BadStart) tells = tells

-- over a disk in memory whose bytes are these
pub image-text : (m : ℕ) (o : Rollout) (disk : Storing) (image : List ℕ) (answer : Result (List ℕ) JournalFault) (result : Result (List ℕ) LiveEnd) → disk.timeline.medium.bytes ≡ image
    → Tells answer (journal_report o m disk.timeline.medium.bytes) → result ≡ or_live answer → ImageText (journal_report o m image) result
image-text m o disk image answer result bytes tells is =
    subst (λ (r : Result (List ℕ) LiveEnd). ImageText (journal_report o m image) r) (sym is)
    (image-by (journal_report o m image) answer (subst (λ (b : List ℕ). Tells answer (journal_report o m b)) bytes tells))

module _ {W : Type 0} (trace : W → SourceTrace) (m : ℕ) where
  module _ (o : Rollout) (before now : W) where
    pub seen-text : (image : List ℕ) (result : Result (List ℕ) LiveEnd) → Sees trace before now image → ImageText (journal_report o m image) result → TextOr trace m (Ok o) result
    seen-text image (Ok text) sees is = record { o = o; is = refl; before = before; now = now; image = image; sees = sees; text_is = is }
    seen-text image (Err InUse) sees is = tt
    seen-text image (Err (Ended Done)) sees is = absurd is
    seen-text image (Err (Ended Usage)) sees is = absurd is
    seen-text image (Err (Ended AboveLimit)) sees is = absurd is
    seen-text image (Err (Ended (Input f))) sees is = absurd is
    seen-text image (Err (Ended (NotValid p b))) sees is = absurd is
    seen-text image (Err (Ended (NoPlan u))) sees is = absurd is
    seen-text image (Err (Ended (Unshown u))) sees is = absurd is
    seen-text image (Err (Ended ReadFault)) sees is = absurd is
    seen-text image (Err (Ended WriteFault)) sees is = absurd is
    seen-text image (Err (Ended DiskFault)) sees is = absurd is
    seen-text image (Err (Ended GuestFault)) sees is = absurd is
    seen-text image (Err (Ended (Refused why))) sees is = record { o = o; is = refl; before = before; now = now; image = image; sees = sees; refused = is }
    seen-text image (Err (Ended (NotFinished u))) sees is = absurd is
    seen-text image (Err (Ended OutOfMemory)) sees is = tt

    module _ (limit : ℕ) (tie : journal_room o < 2 ^ 62 → limit ≡ journal_room o) where
      unseen-by : (why : Unseen) → Looks trace limit before (Err why) now → TextOr trace m (Ok o) (Err (ending_of_unseen why))
      unseen-by unseen.Failed unread = record { before = before; now = now; fails = record { rollout = o; limit = limit; is = tie; unread = unread } }
      unseen-by unseen.InUse moved = tt
      unseen-by unseen.Memory any = tt

      pub unseen-text : (why : Unseen) (ending : LiveEnd) → ending ≡ ending_of_unseen why → Looks trace limit before (Err why) now → TextOr trace m (Ok o) (Err ending)
      unseen-text why ending is looks = subst (λ (e : LiveEnd). TextOr trace m (Ok o) (Err e)) (sym is) (unseen-by why looks)

  -- an input that is refused
  pub refused-text : (input : List ℕ) (e : CommandEnd) → Gives {A = Rollout} (Err e) (rollout_in input) → HasNoText trace m (rollout_in input) e
  refused-text input Done g = let no : is_answer Done ≡ true = rollout-gives input Done g in cc
  refused-text input Usage g = g
  refused-text input AboveLimit g = g
  refused-text input (Input f) g = g
  refused-text input (NotValid p b) g = g
  refused-text input (NoPlan u) g = g
  refused-text input (Unshown u) g = g
  refused-text input ReadFault g = g
  refused-text input WriteFault g = let no : is_answer WriteFault ≡ true = rollout-gives input WriteFault g in cc
  refused-text input DiskFault g = let no : is_answer DiskFault ≡ true = rollout-gives input DiskFault g in cc
  refused-text input GuestFault g = g
  refused-text input (Refused why) g = let no : is_answer (Refused why) ≡ true = rollout-gives input (Refused why) g in cc
  refused-text input (NotFinished u) g = g
  refused-text input OutOfMemory g = tt

-- ---- a text that is written

finished-or : (text : List ℕ) (out now : Option (List ℕ)) (ends : Bool) → ends_finished text ≡ ends → Appends out text now → Writes text out (if ends then Ends (Ended Done) else Goes text) now
finished-or text out now true is all = (is, all)
finished-or text out now false is all = (refl, all)

pub written-turn : (text : List ℕ) (out now : Option (List ℕ)) (e : CommandEnd) (turn : Turn) → EndsWith (Ok text) e out now → turn ≡ turn_after e text → Writes text out turn now
written-turn text out now e turn (inl done) is =
    subst (λ (t : Turn). Writes text out t now) (sym (is ∙ ap (λ (x : CommandEnd). turn_after x text) done.0)) (finished-or text out now (ends_finished text) refl done.1)
written-turn text out now e turn (inr cut) is =
    subst (λ (t : Turn). Writes text out t now) (sym (is ∙ ap (λ (x : CommandEnd). turn_after x text) cut.0)) cut.1

pub anew : (text last : List ℕ) (out now : Option (List ℕ)) (turn : Turn) (same : Bool) → same ≡ bytes_eq text last → same ≡ false → Writes text out turn now → WritesAnew text last out turn now
anew text last out now turn same is other writes = inr (sym is ∙ other, writes)

-- ---- one look

module _ {W : Type 0} (trace : W → SourceTrace) (m : ℕ) (rollout : Result Rollout CommandEnd) where
  module _ (text last : List ℕ) (out now : Option (List ℕ)) (seen : IsReported trace m rollout text) (other : bytes_eq text last ≡ false) where
    new-turn : (turn : Turn) → Writes text out turn now → TurnOf trace m rollout last out turn now
    new-turn (Goes again) writes =
        inr (subst (λ (t : List ℕ). IsReported trace m rollout t × (bytes_eq t last ≡ false) × Appends out t now) (sym writes.0) (seen, other, writes.1))
    new-turn (Ends InUse) writes = absurd writes
    new-turn (Ends (Ended Done)) writes = (text, seen, writes.0, writes.1)
    new-turn (Ends (Ended Usage)) writes = absurd writes
    new-turn (Ends (Ended AboveLimit)) writes = absurd writes
    new-turn (Ends (Ended (Input f))) writes = absurd writes
    new-turn (Ends (Ended (NotValid p b))) writes = absurd writes
    new-turn (Ends (Ended (NoPlan u))) writes = absurd writes
    new-turn (Ends (Ended (Unshown u))) writes = absurd writes
    new-turn (Ends (Ended ReadFault)) writes = absurd writes
    new-turn (Ends (Ended WriteFault)) writes = (text, seen, writes)
    new-turn (Ends (Ended DiskFault)) writes = absurd writes
    new-turn (Ends (Ended GuestFault)) writes = absurd writes
    new-turn (Ends (Ended (Refused why))) writes = absurd writes
    new-turn (Ends (Ended (NotFinished u))) writes = absurd writes
    new-turn (Ends (Ended OutOfMemory)) writes = absurd writes

  pub text-turn : (text last : List ℕ) (out now : Option (List ℕ)) (turn : Turn) → IsReported trace m rollout text → WritesAnew text last out turn now → TurnOf trace m rollout last out turn now
  text-turn text last out now turn seen (inl same) = subst (λ (t : Turn). TurnOf trace m rollout last out t now) (sym same.0) (inl (refl, same.1))
  text-turn text last out now turn seen (inr other) = new-turn text last out now seen other.0 turn other.1

  module _ (last : List ℕ) (out : Option (List ℕ)) where
    no-turn : (e : CommandEnd) → HasNoText trace m rollout e → EndsLooking trace m rollout out (Ended e) out
    no-turn Done why = absurd why
    no-turn Usage why = (why, refl)
    no-turn AboveLimit why = (why, refl)
    no-turn (Input f) why = (why, refl)
    no-turn (NotValid p b) why = (why, refl)
    no-turn (NoPlan u) why = (why, refl)
    no-turn (Unshown u) why = (why, refl)
    no-turn ReadFault why = (why, refl)
    no-turn WriteFault why = absurd why
    no-turn DiskFault why = (why, refl)
    no-turn GuestFault why = (why, refl)
    no-turn (Refused f) why = (why, refl)
    no-turn (NotFinished u) why = (why, refl)
    no-turn OutOfMemory why = (why, refl)

    by-why : (why : LiveEnd) → TextOr trace m rollout (Err why) → TurnOf trace m rollout last out (turn_of why last) out
    by-why InUse any = inl (refl, refl)
    by-why (Ended e) why = no-turn e why

    pub textless-turn : (why : LiveEnd) (turn : Turn) → turn ≡ turn_of why last → TextOr trace m rollout (Err why) → TurnOf trace m rollout last out turn out
    textless-turn why turn is text = subst (λ (t : Turn). TurnOf trace m rollout last out t out) (sym is) (by-why why text)

  -- ---- a row of looks

  are-more : (texts : List (List ℕ)) (text : List ℕ) → AreReported trace m rollout texts → IsReported trace m rollout text → AreReported trace m rollout (texts ++ text ∷ [])
  are-more [] text are is = (is, tt)
  are-more (first ∷ later) text are is = (are.0, are-more later text are.1 is)

  pub wrote-none : (out : Option (List ℕ)) → Wrote trace m rollout out [] out
  wrote-none out = record { texts = []; reported = tt; differ = tt; is_last = refl; written = Appends-nothing out }

differ-more : (last : List ℕ) (texts : List (List ℕ)) (text : List ℕ) → Differ last texts → bytes_eq text (last_of last texts) ≡ false → Differ last (texts ++ text ∷ [])
differ-more last [] text differ other = (other, tt)
differ-more last (first ∷ later) text differ other = (differ.0, differ-more first later text differ.1 other)

last-more : (last : List ℕ) (texts : List (List ℕ)) (text : List ℕ) → last_of last (texts ++ text ∷ []) ≡ text
last-more last [] text = refl
last-more last (first ∷ later) text = last-more first later text

all-more : (texts : List (List ℕ)) (text : List ℕ) → all_of (texts ++ text ∷ []) ≡ all_of texts ++ text
all-more [] text = append-nil text
all-more (first ∷ later) text = ap (λ (l : List ℕ). first ++ l) (all-more later text) ∙ sym (append_assoc first (all_of later) text)

module _ {W : Type 0} (trace : W → SourceTrace) (m : ℕ) (rollout : Result Rollout CommandEnd) (first out now : Option (List ℕ)) (last : List ℕ) (wrote : Wrote trace m rollout first last out) where
  pub wrote-more : (text : List ℕ) → TurnOf trace m rollout last out (Goes text) now → Wrote trace m rollout first text now
  wrote-more text (inl same) =
      subst (λ (l : List ℕ). Wrote trace m rollout first l now) (sym same.0) (subst (λ (w : Option (List ℕ)). Wrote trace m rollout first last w) (sym same.1) wrote)
  wrote-more text (inr more) = record {
    texts = wrote.texts ++ text ∷ [];
    reported = are-more trace m rollout wrote.texts text wrote.reported more.0;
    differ = differ-more [] wrote.texts text wrote.differ (ap (bytes_eq text) wrote.is_last ∙ more.1);
    is_last = last-more [] wrote.texts text;
    written = subst (λ (l : List ℕ). Appends first l now) (sym (all-more wrote.texts text)) (Appends-chain first out now (all_of wrote.texts) text wrote.written more.2);
  }
