use Rattle.std.proofs.Common.{rules, ◌≡◌, ℕ, List, IfSome, sym, subst}
use Rattle.std.proofs.lemmas.Result.{err_from_is_err_and}
use Rattle.intent_journal.specs.Placements.{IsStoodOrPlaced, placed_kept}
use Rattle.intent_journal.specs.Whole.{fault_of_read}
use Rattle.intent_journal.proofs.Placings.{cause_of_reading, left_run, read_holds, read_may, read_run}
use Rattle.intent_journal.proofs.ReadFaults.{of_read}
use Rattle.intent_journal.proofs.Recoveries.{err_as, quiet_since, refused_as}
use Rattle.intent_journal.proofs.placing.place.Goals as goal

pub write_over-requires-clause-read : goal.write_over-requires-clause-read
write_over-requires-clause-read g c =
    read_holds _ (g.D.Disk.told c.read_synced.new.disk).bytes (g.D.Disk.told c.args.disk.now).bytes (g.D.Disk.told c.read_synced.new.disk).may_leave c.read_synced.ensures.quiet.same
    (search rules) c.in_ok-image.ensures.durable

pub returns-in_err-image-clause-any_moment : goal.returns-in_err-image-clause-any_moment
returns-in_err-image-clause-any_moment g c =
    left_run g.D.Disk.told (g.D.Disk.told c.args.disk.now).may_leave (IsStoodOrPlaced (placed_kept c.args.digest.now c.args.graph.now)) (g.D.Disk.told c.args.disk.now).bytes
    c.args.disk.now c.read_synced.new.disk c.read_synced.ensures.quiet.run

pub returns-in_err-image-clause-cause : goal.returns-in_err-image-clause-cause
returns-in_err-image-clause-cause g c =
    let p = err_from_is_err_and c.from_residual.result c.from_residual.ensures.1 in
    rw (p.1, p.2) (cause_of_reading (fault_of_read c.in_err-image.field-0.0) (g.D.Disk.told c.args.disk.now).bytes _ _ (of_read c.in_err-image.field-0.0 _ _ c.in_err-image.ensures.cause))

pub returns-in_err-part-clause-any_moment : goal.returns-in_err-part-clause-any_moment
returns-in_err-part-clause-any_moment g c =
    left_run g.D.Disk.told (g.D.Disk.told c.args.disk.now).may_leave (IsStoodOrPlaced (placed_kept c.args.digest.now c.args.graph.now)) (g.D.Disk.told c.args.disk.now).bytes
    c.args.disk.now c.read_synced.new.disk c.read_synced.ensures.quiet.run

pub returns-clause-any_moment : goal.returns-clause-any_moment
returns-clause-any_moment g c =
    let kept = c.in_ok-part.ensures.part in
    rw (← kept) (read_run g.D.Disk.told (g.D.Disk.told c.args.disk.now).may_leave (IsStoodOrPlaced c.in_ok-part.part.kept) (g.D.Disk.told c.read_synced.new.disk).bytes (g.D.Disk.told c.args.disk.now).bytes
    c.args.disk.now c.read_synced.new.disk c.write_over.new.disk c.read_synced.ensures.quiet.same c.read_synced.ensures.quiet.run c.write_over.ensures.any_moment)

pub returns-clause-may : goal.returns-clause-may
returns-clause-may g c =
    let read = subst (λ (image : List ℕ). IfSome (g.D.Disk.told c.args.disk.now).bytes (λ all. image ≡ all)) (sym c.as_slice.ensures) c.in_ok-image.ensures.read in
    read_may c.write_over.result c.as_slice.result.now (g.D.Disk.told c.args.disk.now).bytes read c.write_over.ensures.may

pub returns-clause-unwritten : goal.returns-clause-unwritten
returns-clause-unwritten g c =
    err_as _ _ c.write_over.result c.write_over.ensures.unwritten
    (λ fault. refused_as fault _ _ (quiet_since g.D.Disk.told c.args.disk.now c.read_synced.new.disk c.write_over.new.disk c.read_synced.ensures.quiet))
