-- An answer of a rollout, and an ending, a text and a sink as those of a run that so ended: what is said of a run by its ending can then be said of a takeover.
use Rattle.std.proofs.Common.{◌≡◌, ◌⊎◌, ℕ, List, [], ◌∷◌, true, Option, Some, None, Result, Ok, Err, refl, sym, ap, ◌∙◌, subst, inl, inr, arith}
use Rattle.rollout_rules.specs.Wan.{Rollout}
use Rattle.intent_journal.specs.declared.fault.JournalFault.{JournalFault}
use Rattle.intent_journal.specs.declared.fault.JournalFault.TheVariants as fault
use Rattle.shared_book.specs.declared.note.Cause.{Cause}
use Rattle.shared_book.specs.declared.note.Cause.TheVariants as cause
use Rattle.controller_run.specs.declared.end.RunEnd.{RunEnd}
use Rattle.controller_run.specs.declared.end.RunEnd.TheVariants as run
use Rattle.controller_run.specs.declared.outcome.RunOutcome.{RunOutcome}
use Rattle.wan_edge.specs.Streams.{Appends}
use Rattle.text_commands.specs.CommandEnds.{ending_of_journal, status_of}
use Rattle.text_commands.specs.Runs.{EndsWith, Follows, Gives}
use Rattle.text_commands.specs.declared.command_end.CommandEnd.{CommandEnd}
use Rattle.text_commands.specs.declared.command_end.CommandEnd.TheVariants.{Done}
use Rattle.text_commands.proofs.Programs.{follows-ends}
use Rattle.swanroll_top.specs.Rollouts.{by_answer, ending_at, ending_of_rollout, ending_of_stop, finished_line, line_at, line_or_ending}
use Rattle.swanroll_top.specs.Targets.{IsOfBegun}
use Rattle.swanroll_top.proofs.Outcomes.{given-or-memory, stop-not-done}
use Rattle.takeover_top.specs.Endings.{taken_at, taken_or_ending}
use Rattle.takeover_top.specs.Lines.{taken_line}
use Rattle.takeover_top.specs.TakenTargets.{IsOfTaken}

-- ---- an ending in place of a text

-- it is a run's as well
err-at : (total : ℕ) (end : RunEnd) (o : RunOutcome) (e : CommandEnd) → Gives {A = List ℕ} (Err e) (taken_at total end o) → Gives {A = List ℕ} (Err e) (line_at end o)
err-at total run.Finished o e h = elim (given-or-memory (taken_at total run.Finished o) e h) [
  | inl is ↦ absurd (cc is)
  | inr memory ↦ subst (λ (x : CommandEnd). Gives {A = List ℕ} (Err x) (line_at run.Finished o)) (sym memory) tt
]
err-at total run.Held o e h = h
err-at total (run.Stopped halt) o e h = h
err-at total (run.NoPort switch) o e h = h
err-at total run.Memory o e h = h

pub err-same : (total : ℕ) (o : RunOutcome) (e : CommandEnd) → Gives {A = List ℕ} (Err e) (taken_or_ending total o) → Gives {A = List ℕ} (Err e) (line_or_ending o)
err-same total o e h = err-at total o.end o e h

-- ---- how a run with this answer ends, and its text

abbrev pub ending_as : Result RunOutcome JournalFault → CommandEnd
ending_as (Ok o) = ending_of_rollout o
ending_as (Err why) = ending_of_journal why

abbrev text_at : RunEnd → RunOutcome → List ℕ
text_at run.Finished o = finished_line o.operations o.found
text_at run.Held o = []
text_at (run.Stopped halt) o = []
text_at (run.NoPort switch) o = []
text_at run.Memory o = []

abbrev pub text_as : Result RunOutcome JournalFault → List ℕ
text_as (Ok o) = text_at o.end o
text_as (Err why) = []

stop-follows : (r : Rollout) (why : Cause) (out : Option (List ℕ)) → Follows (Err (ending_of_stop r why)) (ending_of_stop r why) out out
stop-follows r (cause.Spent rounds item number) out = (refl, refl)
stop-follows r (cause.Port switch) out = (refl, refl)
stop-follows r (cause.Above item held begun) out = (refl, refl)
stop-follows r (cause.NotMine switch item) out = (refl, refl)
stop-follows r (cause.NoAnswer switch byte) out = (refl, refl)
stop-follows r cause.Disk out = (refl, refl)
stop-follows r cause.Memory out = refl

journal-follows : (why : JournalFault) (out : Option (List ℕ)) → Follows (Err (ending_of_journal why)) (ending_of_journal why) out out
journal-follows (fault.NotJournal first) out = (refl, refl)
journal-follows (fault.OtherPlan kept wanted) out = (refl, refl)
journal-follows (fault.Illegal place) out = (refl, refl)
journal-follows fault.BadStart out = (refl, refl)
journal-follows fault.Disk out = (refl, refl)
journal-follows fault.Memory out = refl

follows-at : (end : RunEnd) (o : RunOutcome) → Follows (line_at end o) (ending_at end o) (Some []) (Some (text_at end o))
follows-at run.Finished o = inl (refl, refl)
follows-at run.Held o = (refl, refl)
follows-at (run.Stopped halt) o = stop-follows o.plan halt.cause (Some [])
follows-at (run.NoPort switch) o = (refl, refl)
follows-at run.Memory o = refl

pub follows-as : (a : Result RunOutcome JournalFault) → Follows (by_answer line_or_ending a) (ending_as a) (Some []) (Some (text_as a))
follows-as (Ok o) = follows-at o.end o
follows-as (Err why) = journal-follows why (Some [])

-- ---- by the status of the takeover

taken-memory : (e : CommandEnd) → IsOfTaken (status_of e) → status_of e ≡ 12 → ⊥
taken-memory e of twelve = let no : IsOfTaken 12 = subst IsOfTaken twelve of in cc

not-stop : (r : Rollout) (why : Cause) → IsOfTaken (status_of (ending_of_stop r why)) → ⊥
not-stop r (cause.Spent rounds item number) of = cc
not-stop r (cause.Port switch) of = cc
not-stop r (cause.Above item held begun) of = cc
not-stop r (cause.NotMine switch item) of = cc
not-stop r (cause.NoAnswer switch byte) of = cc
not-stop r cause.Disk of = cc
not-stop r cause.Memory of = cc

pub not-journal : (why : JournalFault) → IsOfTaken (status_of (ending_of_journal why)) → ⊥
not-journal (fault.NotJournal first) of = cc
not-journal (fault.OtherPlan kept wanted) of = cc
not-journal (fault.Illegal place) of = cc
not-journal fault.BadStart of = cc
not-journal fault.Disk of = cc
not-journal fault.Memory of = cc

module _ (total : ℕ) (e : CommandEnd) (out now : Option (List ℕ)) where
  begun-at : (end : RunEnd) (o : RunOutcome) → IsOfTaken (status_of e) → EndsWith (taken_at total end o) e out now → IsOfBegun (status_of (ending_at end o))
  begun-at run.Finished o of ends = refl
  begun-at run.Held o of ends = refl
  begun-at (run.Stopped halt) o of ends = absurd (not-stop o.plan halt.cause (subst (λ (x : CommandEnd). IsOfTaken (status_of x)) ends.0 of))
  begun-at (run.NoPort switch) o of ends = absurd (let no : IsOfTaken 9 = subst (λ (x : CommandEnd). IsOfTaken (status_of x)) ends.0 of in cc)
  begun-at run.Memory o of ends = absurd (let no : IsOfTaken 12 = subst (λ (x : CommandEnd). IsOfTaken (status_of x)) ends.0 of in cc)

  by-answer : (a : Result RunOutcome JournalFault) → IsOfTaken (status_of e) → EndsWith (by_answer (taken_or_ending total) a) e out now → IsOfBegun (status_of (ending_as a))
  by-answer (Ok o) of ends = begun-at o.end o of ends
  by-answer (Err why) of ends = absurd (not-journal why (subst (λ (x : CommandEnd). IsOfTaken (status_of x)) ends.0 of))

  -- a takeover that is finished or held back, or whose line was cut, is one that was begun
  pub begun-as : (a : Result RunOutcome JournalFault) → IsOfTaken (status_of e) → Follows (by_answer (taken_or_ending total) a) e out now → IsOfBegun (status_of (ending_as a))
  begun-as a of follows = by-answer a of (follows-ends (by_answer (taken_or_ending total) a) e out now follows (taken-memory e of))

-- and one whose line was written is finished
pub record IsFinishedAs (total : ℕ) (a : Result RunOutcome JournalFault) (out now : Option (List ℕ)) : Type 0 where
  pub outcome : RunOutcome
  pub is : a ≡ Ok outcome
  pub end_is : outcome.end ≡ run.Finished
  pub line : Appends out (taken_line outcome.operations total) now

journal-done : (why : JournalFault) → Done ≡ ending_of_journal why → ⊥
journal-done (fault.NotJournal first) h = cc
journal-done (fault.OtherPlan kept wanted) h = cc
journal-done (fault.Illegal place) h = cc
journal-done fault.BadStart h = cc
journal-done fault.Disk h = cc
journal-done fault.Memory h = cc

done-at : (total : ℕ) (o : RunOutcome) (out now : Option (List ℕ)) (end : RunEnd) → o.end ≡ end → EndsWith (taken_at total end o) Done out now → IsFinishedAs total (Ok o) out now
done-at total o out now run.Finished is (inl done) = record { outcome = o; is = refl; end_is = is; line = done.1 }
done-at total o out now run.Finished is (inr cut) = absurd (cc cut.0)
done-at total o out now run.Held is h = absurd (cc h.0)
done-at total o out now (run.Stopped halt) is h = absurd (stop-not-done o.plan halt.cause h.0)
done-at total o out now (run.NoPort switch) is h = absurd (cc h.0)
done-at total o out now run.Memory is h = absurd (cc h.0)

pub done-as : (total : ℕ) (a : Result RunOutcome JournalFault) (out now : Option (List ℕ)) → Follows (by_answer (taken_or_ending total) a) Done out now → IsFinishedAs total a out now
done-as total (Ok o) out now h = done-at total o out now o.end refl h
done-as total (Err why) out now h = absurd (journal-done why h.0)
