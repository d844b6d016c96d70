use Rattle.std.proofs.Common.{◌≡◌, ℕ, List, IfSome, sym, subst}
use Rattle.std.proofs.lemmas.Result.{err_from_is_err_and}
use Rattle.intent_journal.specs.Whole.{fault_of_read}
use Rattle.intent_journal.proofs.LeftGraphs.{leaves_read, leaves_unread}
use Rattle.intent_journal.proofs.Openings.{left_read, left_unread, opened_read}
use Rattle.intent_journal.proofs.ReadFaults.{of_read}
use Rattle.intent_journal.proofs.Recoveries.{err_as, err_of_three, holds_read, ok_as, ok_both}
use Rattle.intent_journal.proofs.recovering.open.Goals as goal

pub returns-in_err-image-clause-left : goal.returns-in_err-image-clause-left
returns-in_err-image-clause-left g c =
    let p = err_from_is_err_and c.from_residual.result c.from_residual.ensures.1 in
    rw (p.1, p.2) (left_unread g.D.Disk.told c.args.digest.now c.args.graph.now.rollout (fault_of_read c.in_err-image.field-0.0) c.args.disk.now c.read_synced.new.disk
    c.read_synced.ensures.quiet (of_read c.in_err-image.field-0.0 _ _ c.in_err-image.ensures.cause) c.read_synced.ensures.count)

pub open_read-requires-clause-image : goal.open_read-requires-clause-image
open_read-requires-clause-image g c =
    let read = subst (λ (image : List ℕ). IfSome (g.D.Disk.told c.args.disk.now).bytes (λ all. image ≡ all)) (sym c.as_slice.ensures) c.in_ok-image.ensures.read in
    holds_read (g.D.Disk.told c.args.disk.now).bytes (g.D.Disk.told c.read_synced.new.disk).bytes (g.D.Disk.told c.read_synced.new.disk).may_leave c.as_slice.result.now c.read_synced.ensures.quiet.same read c.in_ok-image.ensures.durable

pub returns-clause-opened : goal.returns-clause-opened
returns-clause-opened g c =
    let read = subst (λ (image : List ℕ). IfSome (g.D.Disk.told c.args.disk.now).bytes (λ all. image ≡ all)) (sym c.as_slice.ensures) c.in_ok-image.ensures.read in
    ok_as _ _ c.open_read.result c.open_read.ensures.ok
    (λ ready is. opened_read g.D.Disk.told c.args.digest.now c.as_slice.result.now c.args.graph.now c.open_read.new.graph ready.list
    c.args.disk.now c.read_synced.new.disk c.open_read.new.disk c.requires.empty read c.read_synced.ensures.quiet c.read_synced.ensures.count is.brought is.keeps c.open_read.ensures.any_moment
    c.open_read.ensures.told c.open_read.ensures.count)

pub returns-clause-ready : goal.returns-clause-ready
returns-clause-ready g c =
    ok_both c.open_read.result _ _ _ c.open_read.ensures.ok c.open_read.ensures.most (λ ready is most. record { at_rest = is.at_rest; room = is.room; most = most })

pub returns-clause-left : goal.returns-clause-left
returns-clause-left g c =
    let read = subst (λ (image : List ℕ). IfSome (g.D.Disk.told c.args.disk.now).bytes (λ all. image ≡ all)) (sym c.as_slice.ensures) c.in_ok-image.ensures.read in
    err_of_three c.open_read.result _ _ _ _ c.open_read.ensures.cause c.open_read.ensures.refusal c.open_read.ensures.unwritten
    (λ cause rose is unwritten. left_read g.D.Disk.told c.args.digest.now c.args.graph.now.rollout c.as_slice.result.now cause
    c.args.disk.now c.read_synced.new.disk c.open_read.new.disk read c.read_synced.ensures.quiet c.read_synced.ensures.count c.open_read.ensures.any_moment is rose unwritten
    c.open_read.ensures.told c.open_read.ensures.count)

pub returns-in_err-image-clause-graph : goal.returns-in_err-image-clause-graph
returns-in_err-image-clause-graph g c =
    let p = err_from_is_err_and c.from_residual.result c.from_residual.ensures.1 in
    rw (p.1, p.2) (leaves_unread (g.D.Disk.told c.args.disk.now).bytes (fault_of_read c.in_err-image.field-0.0) _ _ c.args.graph.now (of_read c.in_err-image.field-0.0 _ _ c.in_err-image.ensures.cause))

pub returns-clause-graph : goal.returns-clause-graph
returns-clause-graph g c =
    let read = subst (λ (image : List ℕ). IfSome (g.D.Disk.told c.args.disk.now).bytes (λ all. image ≡ all)) (sym c.as_slice.ensures) c.in_ok-image.ensures.read in
    err_as _ _ c.open_read.result c.open_read.ensures.graph
    (λ cause left. leaves_read (g.D.Disk.told c.args.disk.now).bytes c.as_slice.result.now cause c.args.graph.now c.open_read.new.graph read left)
