-- What a round makes of the parts of a book.
use Rattle.std.proofs.Common.{◌≡◌, inl, inr, ℕ, ◌+◌, ◌*◌, ◌≤◌, true, false, List, ◌++◌, length, length-append, Option, Some, None, IfSome, sym, subst, ap, ◌∙◌, arith}
use mathlib.Core.List.{map-append}
use Rattle.rollout_rules.specs.Wan.{Rollout}
use Rattle.rollout_rules.specs.History.{History, with_entries}
use Rattle.rollout_rules.specs.Legal.{is_legal}
use Rattle.rollout_rules.specs.declared.op.Entry.{Entry}
use Rattle.disk_model.specs.Traces.{DiskTrace}
use Rattle.disk_model.specs.Moments.{LeavesOnly}
use Rattle.disk_model.proofs.Running.{LeavesOnly-durable, LeavesOnly-weaker}
use Rattle.dependency_graph.specs.Graph.{op_total}
use Rattle.intent_journal.specs.Entries.{entry_rows, row_of}
use Rattle.intent_journal.specs.Images.{journal_in}
use Rattle.intent_journal.specs.Opened.{HasAdded, Opened}
use Rattle.intent_journal.specs.States.{IsBeforeOrAfter, added, with_more}
use Rattle.wan_edge.specs.Streams.{KeepsTelling}
use Rattle.update_scheduler.specs.Rounds.{Turning}
use Rattle.rollout_book.specs.JournaledRounds.{AreJournaledRounds}
use Rattle.rollout_book.specs.Lists.{HasList, HasBeforeOrAfter, IsKeptList}
use Rattle.rollout_book.proofs.Short.{legal-short}

-- a batch after a legal history has room where there is room for two entries of each operation
pub batch-fits : (r : Rollout) (h : History) (es : List Entry) → is_legal r.problem r.plan (with_entries h es) ≡ true → length h.entries + length es ≤ 2 * op_total r
batch-fits r h es legal = omega (arith, legal-short r (with_entries h es) legal, length-append h.entries es)

module _ (start : List ℕ) (entries batch : List Entry) (image : List ℕ) (has : HasList start entries image) where
  -- an image that keeps the same has the list, and one that keeps the batch with it has both
  pub has-still : (c : List ℕ) → journal_in c ≡ journal_in image → HasList start entries c
  has-still c same = record { kept = has.kept; is = same ∙ has.is; starts = has.starts; rows = has.rows }

  pub has-more : (c : List ℕ) → journal_in c ≡ added (journal_in image) (entry_rows batch) → HasList start (entries ++ batch) c
  has-more c more = record {
    kept = with_more has.kept (entry_rows batch);
    is = more ∙ ap (λ k. added k (entry_rows batch)) has.is;
    starts = has.starts;
    rows = ap (λ rows. rows ++ entry_rows batch) has.rows ∙ sym (map-append row_of entries batch);
  }

  pub has-either : (c : List ℕ) → IsBeforeOrAfter (journal_in image) (entry_rows batch) c → HasBeforeOrAfter start entries batch c
  has-either c (inl same) = inl (has-still c same)
  has-either c (inr more) = inr (has-more c more)

module _ {D : Type 0} (trace : D → DiskTrace) (start : List ℕ) (entries batch : List Entry) where
  -- nothing was written
  pub run-still : (told : Option (List ℕ)) (old new : D) → ((c : List ℕ) → (trace old).left_since (trace old).moment c → (trace old).may_leave c) → new ≡ old → IfSome told (IsKeptList start entries (trace old).may_leave)
      → IfSome told (λ _. LeavesOnly trace old new (HasBeforeOrAfter start entries batch))
  run-still None old new now same kept = tt
  run-still (Some image) old new now same kept =
      subst (λ (d : D). LeavesOnly trace old d (HasBeforeOrAfter start entries batch)) (sym same)
      (LeavesOnly-durable trace (trace old).may_leave old image (HasBeforeOrAfter start entries batch) now kept.only (inl kept.has))

  -- the batch was written, wholly or in part
  pub run-appended : (told : Option (List ℕ)) (old new : D) → IfSome told (IsKeptList start entries (trace old).may_leave)
      → IfSome told (λ image. LeavesOnly trace old new (IsBeforeOrAfter (journal_in image) (entry_rows batch)))
      → IfSome told (λ _. LeavesOnly trace old new (HasBeforeOrAfter start entries batch))
  run-appended None old new kept run = tt
  run-appended (Some image) old new kept run =
      LeavesOnly-weaker trace old new (IsBeforeOrAfter (journal_in image) (entry_rows batch)) (HasBeforeOrAfter start entries batch) run (has-either start entries batch image kept.has)

  -- and is there
  pub kept-appended : (told told_new : Option (List ℕ)) (left left_new : List ℕ → Type 0) → KeepsTelling told told_new → IfSome told (IsKeptList start entries left)
      → IfSome told (λ image. HasAdded batch image told_new left_new) → IfSome told_new (IsKeptList start (entries ++ batch) left_new)
  kept-appended None None left left_new keeps kept done = tt
  kept-appended None (Some now) left left_new keeps kept done = absurd (cc keeps)
  kept-appended (Some image) told_new left left_new keeps kept done =
      subst (λ (t : Option (List ℕ)). IfSome t (IsKeptList start (entries ++ batch) left_new)) (sym done.is_told)
      record { only = done.durable; has = has-more start entries batch image kept.has done.now done.keeps }

  -- the parts after a round: the batch is there, or the disk failed, or there was none
  module _ (t t' : Turning) (j j' : Opened D) (es' : List Entry) (room room' : ℕ) (was : AreJournaledRounds trace t j entries room) (rollout-is : t'.rollout ≡ t.rollout) (history-is : t'.history ≡ with_entries t.history batch)
      (most-is : j'.most ≡ j.most) (more : room ≤ room') where
    most-now : j'.most ≡ 2 * op_total t'.rollout
    most-now = most-is ∙ was.most ∙ ap (λ (r : Rollout). 2 * op_total r) (sym rollout-is)

    enough-now : 2 * op_total t'.rollout ≤ room'
    enough-now = omega (arith, was.enough, more, ap op_total rollout-is)

    pub chronicle-lost : j'.live ≡ false → AreJournaledRounds trace t' j' es' room'
    chronicle-lost dead = record {
      most = most-now;
      enough = enough-now;
      same = λ live. absurd (cc (live, dead));
      count = λ live. absurd (cc (live, dead));
      kept = λ live. absurd (cc (live, dead));
    }

    pub chronicle-written : j.live ≡ true → es' ≡ entries ++ batch → j'.entries ≡ j.entries + length batch → IfSome (trace j'.disk).bytes (IsKeptList t.history.start (entries ++ batch) (trace j'.disk).may_leave)
        → AreJournaledRounds trace t' j' es' room'
    chronicle-written live es-is count kept = record {
      most = most-now;
      enough = enough-now;
      same = λ _. es-is ∙ ap (λ es. es ++ batch) (was.same live) ∙ sym (ap (λ (h : History). h.entries) history-is);
      count = λ _. omega (arith, count, was.count live, ap length es-is, length-append entries batch);
      kept = λ _. rw (history-is, es-is) kept;
    }
