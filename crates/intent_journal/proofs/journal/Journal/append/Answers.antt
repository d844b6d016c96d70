use Rattle.std.proofs.Common.{rules, ◌≡◌, ◌+◌, ◌≤◌, ◌++◌, [], ◌∷◌, true, length, IfSome, subst, ap, ◌∙◌}
use Rattle.disk_model.specs.Moments.{LeavesOnly}
use Rattle.intent_journal.specs.Entries.{entry_rows}
use Rattle.intent_journal.specs.Images.{journal_in}
use Rattle.intent_journal.specs.Opened.{HasAdded, Opened}
use Rattle.intent_journal.specs.Parts.{batch_body}
use Rattle.intent_journal.specs.States.{IsBeforeOrAfter}
use Rattle.intent_journal.proofs.Appends.{HasRoom-grows, added_after, at_home, kept_after, room_after, where_set}
use Rattle.intent_journal.proofs.journal.Journal.append.Goals as goal

pub returns-in_err-commit-clause-any_moment : goal.returns-in_err-commit-clause-any_moment
returns-in_err-commit-clause-any_moment g c =
    let j = c.self.inside in
    let live : j.live ≡ true = ap (λ (o : Opened _). o.live) c.self.view_is ∙ c.requires.live in
    let kept = where_set _ _ c.self.invariant.0 live in
    let fits : j.entries + length c.args.batch.now ≤ j.most = search rules in
    let is : c.as_slice.result.now ≡ batch_body (entry_rows c.args.batch.now) ++ 0 ∷ [] = search rules in
    subst (λ (o : Opened _). IfSome (g.D.Disk.told o.disk).bytes (λ image. LeavesOnly g.D.Disk.told o.disk c.commit.new.disk (IsBeforeOrAfter (journal_in image) (entry_rows c.args.batch.now))))
    c.self.view_is
    (at_home j.gate j.end j.entries j.most _ c.self.invariant.1 c.args.batch.now c.requires.some fits c.as_slice.result.now is (g.D.Disk.told j.disk).bytes (g.D.Disk.told j.disk).may_leave
    (λ image rows. LeavesOnly g.D.Disk.told j.disk c.commit.new.disk (IsBeforeOrAfter (journal_in image) rows)) kept c.commit.ensures.any_moment)

pub invariant_of-self-2 : goal.invariant_of-self-2
invariant_of-self-2 g c =
    let j = c.self.inside in
    let live : j.live ≡ true = ap (λ (o : Opened _). o.live) c.self.view_is ∙ c.requires.live in
    let kept = where_set _ _ c.self.invariant.0 live in
    let fits : j.entries + length c.args.batch.now ≤ j.most = search rules in
    let is : c.as_slice.result.now ≡ batch_body (entry_rows c.args.batch.now) ++ 0 ∷ [] = search rules in
    let long : length c.as_slice.result.now ≡ c.len.result = search rules in
    let room = HasRoom-grows _ _ _ _ _ _ (room_after j.gate j.end j.entries j.most _ c.self.invariant.1 c.args.batch.now c.requires.some fits c.as_slice.result.now is) c.fill.ensures.capacity in
    let rest = kept_after j.gate j.end j.entries j.most _ c.self.invariant.1 c.args.batch.now c.requires.some fits c.as_slice.result.now is (g.D.Disk.told j.disk).bytes (g.D.Disk.told c.commit.new.disk).bytes
    (g.D.Disk.told j.disk).may_leave (g.D.Disk.told c.commit.new.disk).may_leave kept c.commit.ensures.told c.in_ok-commit.ensures.durable c.in_ok-commit.ensures.done in
    rw (← long) (rest, room)

pub returns-clause-any_moment : goal.returns-clause-any_moment
returns-clause-any_moment g c =
    let j = c.self.inside in
    let live : j.live ≡ true = ap (λ (o : Opened _). o.live) c.self.view_is ∙ c.requires.live in
    let kept = where_set _ _ c.self.invariant.0 live in
    let fits : j.entries + length c.args.batch.now ≤ j.most = search rules in
    let is : c.as_slice.result.now ≡ batch_body (entry_rows c.args.batch.now) ++ 0 ∷ [] = search rules in
    subst (λ (o : Opened _). IfSome (g.D.Disk.told o.disk).bytes (λ image. LeavesOnly g.D.Disk.told o.disk c.commit.new.disk (IsBeforeOrAfter (journal_in image) (entry_rows c.args.batch.now))))
    c.self.view_is
    (at_home j.gate j.end j.entries j.most _ c.self.invariant.1 c.args.batch.now c.requires.some fits c.as_slice.result.now is (g.D.Disk.told j.disk).bytes (g.D.Disk.told j.disk).may_leave
    (λ image rows. LeavesOnly g.D.Disk.told j.disk c.commit.new.disk (IsBeforeOrAfter (journal_in image) rows)) kept c.commit.ensures.any_moment)

pub returns-clause-done : goal.returns-clause-done
returns-clause-done g c =
    let j = c.self.inside in
    let live : j.live ≡ true = ap (λ (o : Opened _). o.live) c.self.view_is ∙ c.requires.live in
    let kept = where_set _ _ c.self.invariant.0 live in
    let fits : j.entries + length c.args.batch.now ≤ j.most = search rules in
    let is : c.as_slice.result.now ≡ batch_body (entry_rows c.args.batch.now) ++ 0 ∷ [] = search rules in
    subst (λ (o : Opened _). IfSome (g.D.Disk.told o.disk).bytes (λ image. HasAdded c.args.batch.now image (g.D.Disk.told c.commit.new.disk).bytes (g.D.Disk.told c.commit.new.disk).may_leave))
    c.self.view_is
    (added_after j.gate j.end j.entries j.most _ c.self.invariant.1 c.args.batch.now c.requires.some fits c.as_slice.result.now is (g.D.Disk.told j.disk).bytes (g.D.Disk.told c.commit.new.disk).bytes
    (g.D.Disk.told j.disk).may_leave (g.D.Disk.told c.commit.new.disk).may_leave kept c.in_ok-commit.ensures.done)
