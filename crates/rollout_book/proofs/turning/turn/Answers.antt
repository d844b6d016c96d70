use Rattle.std.proofs.Common.{◌≡◌, ◌∙◌, [], true, List, length, vec_capacity, IfSome, sym, ap, subst, refl, arith, eqb-true, append-nil}
use Rattle.lists.proofs.Rows.{none_of_length_0}
use Rattle.rollout_rules.specs.History.{with_entries}
use Rattle.rollout_rules.specs.Legal.{is_legal}
use Rattle.rollout_rules.specs.declared.op.Entry.{Entry}
use Rattle.disk_model.specs.Moments.{LeavesOnly}
use Rattle.order_policy.specs.Answers.{rank_by}
use Rattle.update_scheduler.specs.Rounds.{Turning, batch_of}
use Rattle.rollout_book.specs.Lists.{HasBeforeOrAfter, IsKeptList}
use Rattle.intent_journal.specs.Entries.{entry_rows}
use Rattle.rollout_book.proofs.Owners.{owner-appended, owner-still}
use Rattle.rollout_book.proofs.Turned.{batch-fits, chronicle-written, kept-appended, run-appended, run-still}
use Rattle.rollout_book.proofs.turning.turn.Goals.{then-not-is_empty+in_ok-write_batch, else-not-is_empty}
use Rattle.rollout_book.proofs.turning.turn.Goals as goal

pub write_batch-requires-clause-room : goal.write_batch-requires-clause-room
write_batch-requires-clause-room g c =
    let t = c.args.rounds.now in
    let own = c.requires.own in
    let legal = subst (λ (u : Turning). is_legal u.rollout.problem u.rollout.plan u.history ≡ true) c.round.ensures.next c.graph.ensures.legal in
    let is = c.batch-batch.ensures ∙ ap (λ (u : Turning). u.batch) c.round.ensures.next in
    omega (arith, batch-fits t.rollout t.history (batch_of t (rank_by c.args.policy.now.answers)) legal, own.count c.requires.live, ap length (own.same c.requires.live), own.most, ap length is)

pub write_batch-requires-clause-capacity : goal.write_batch-requires-clause-capacity
write_batch-requires-clause-capacity g c =
    let t = c.args.rounds.now in
    let own = c.requires.own in
    let legal = subst (λ (u : Turning). is_legal u.rollout.problem u.rollout.plan u.history ≡ true) c.round.ensures.next c.graph.ensures.legal in
    let is = c.batch-batch.ensures ∙ ap (λ (u : Turning). u.batch) c.round.ensures.next in
    omega (arith, batch-fits t.rollout t.history (batch_of t (rank_by c.args.policy.now.answers)) legal, ap length (own.same c.requires.live), own.enough, c.args.entries.now.ok.0, ap length is)

pub returns-in_err-write_batch-clause-any_moment : goal.returns-in_err-write_batch-clause-any_moment
returns-in_err-write_batch-clause-any_moment g c =
    let start = c.args.rounds.now.history.start in
    let es = c.args.entries.now.items in
    let old = c.args.journal.now.disk in
    let is = c.batch-batch.ensures ∙ ap (λ (u : Turning). u.batch) c.round.ensures.next in
    subst (λ (batch : List Entry). IfSome (g.D.Disk.told old).bytes (λ _. LeavesOnly g.D.Disk.told old c.write_batch.new.journal.disk (HasBeforeOrAfter start es batch))) is
    (run-appended g.D.Disk.told start es c.batch-batch.result.now (g.D.Disk.told old).bytes old c.write_batch.new.journal.disk (c.requires.own.kept c.requires.live) c.write_batch.ensures.any_moment)

pub returns-clause-own : goal.returns-clause-own
returns-clause-own g c =
    let t = c.args.rounds.now in
    let j = c.args.journal.now in
    let es = c.args.entries.now.items in
    let batch = c.batch-batch.result.now in
    let own = c.requires.own in
    let live = c.requires.live in
    let is = c.batch-batch.ensures ∙ ap (λ (u : Turning). u.batch) c.round.ensures.next in
    let rollout-is = ap (λ (u : Turning). u.rollout) c.round.ensures.next in
    let history-is = ap (λ (u : Turning). u.history) c.round.ensures.next ∙ ap (with_entries t.history) (sym is) in
    elim c.if-not-is_empty.branch [
      | then-not-is_empty+in_ok-write_batch w ↦
          let j' = w.write_batch.new.journal in
          let kept = kept-appended g.D.Disk.told t.history.start es batch (g.D.Disk.told j.disk).bytes (g.D.Disk.told j'.disk).bytes (g.D.Disk.told j.disk).may_leave
          (g.D.Disk.told j'.disk).may_leave w.write_batch.ensures.told (own.kept live) w.in_ok-write_batch.ensures.done in
          rw (w.journal-is, w.entries-is)
          (chronicle-written g.D.Disk.told t.history.start es batch t c.round.new.self j j' w.write_batch.new.entries.items (vec_capacity c.args.entries.now) (vec_capacity w.write_batch.new.entries)
          own rollout-is history-is w.write_batch.ensures.most w.write_batch.ensures.room live w.in_ok-write_batch.ensures.added w.in_ok-write_batch.ensures.count kept)
      | else-not-is_empty w ↦
          let none = none_of_length_0 batch (eqb-true (length batch) 0 (sym c.is_empty.ensures ∙ w.if-not-is_empty.false)) in
          let kept = subst (λ (all : List Entry). IfSome (g.D.Disk.told j.disk).bytes (IsKeptList t.history.start all (g.D.Disk.told j.disk).may_leave)) (sym (append-nil es)) (own.kept live) in
          rw (w.journal-is, w.entries-is)
          (chronicle-written g.D.Disk.told t.history.start es [] t c.round.new.self j j es (vec_capacity c.args.entries.now) (vec_capacity c.args.entries.now)
          own rollout-is (history-is ∙ ap (with_entries t.history) none) refl (omega arith) live (sym (append-nil es)) (omega arith) kept)
    ]

pub returns-clause-any_moment : goal.returns-clause-any_moment
returns-clause-any_moment g c =
    let start = c.args.rounds.now.history.start in
    let es = c.args.entries.now.items in
    let old = c.args.journal.now.disk in
    let is = c.batch-batch.ensures ∙ ap (λ (u : Turning). u.batch) c.round.ensures.next in
    elim c.if-not-is_empty.branch [
      | then-not-is_empty+in_ok-write_batch w ↦
          rw (w.journal-is)
          (subst (λ (batch : List Entry). IfSome (g.D.Disk.told old).bytes (λ _. LeavesOnly g.D.Disk.told old w.write_batch.new.journal.disk (HasBeforeOrAfter start es batch))) is
          (run-appended g.D.Disk.told start es c.batch-batch.result.now (g.D.Disk.told old).bytes old w.write_batch.new.journal.disk (c.requires.own.kept c.requires.live) w.write_batch.ensures.any_moment))
      | else-not-is_empty w ↦
          rw (w.journal-is)
          (run-still g.D.Disk.told start es (batch_of c.args.rounds.now (rank_by c.args.policy.now.answers)) (g.D.Disk.told old).bytes old old (g.met.D.Disk.only_now old) refl (c.requires.own.kept c.requires.live))
    ]

pub returns-in_err-write_batch-clause-owner : goal.returns-in_err-write_batch-clause-owner
returns-in_err-write_batch-clause-owner g c =
    let old = c.args.journal.now.disk in
    owner-appended g.D.Disk.told (g.D.Disk.told old).bytes old c.write_batch.new.journal.disk (entry_rows c.batch-batch.result.now) c.write_batch.ensures.any_moment

pub returns-clause-owner : goal.returns-clause-owner
returns-clause-owner g c =
    let old = c.args.journal.now.disk in
    elim c.if-not-is_empty.branch [
      | then-not-is_empty+in_ok-write_batch w ↦
          rw (w.journal-is)
          (owner-appended g.D.Disk.told (g.D.Disk.told old).bytes old w.write_batch.new.journal.disk (entry_rows c.batch-batch.result.now) w.write_batch.ensures.any_moment)
      | else-not-is_empty w ↦
          rw (w.journal-is)
          (owner-still g.D.Disk.told (g.D.Disk.told old).bytes old old c.args.rounds.now.history.start c.args.entries.now.items (g.met.D.Disk.only_now old) refl (c.requires.own.kept c.requires.live))
    ]
