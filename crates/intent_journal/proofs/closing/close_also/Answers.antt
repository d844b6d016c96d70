use Rattle.std.proofs.Common.{[], ◌∷◌, refl}
use Rattle.intent_journal.specs.Images.{journal_in}
use Rattle.intent_journal.specs.Phases.{IsFound, IsOld}
use Rattle.intent_journal.specs.Renewals.{IsCut}
use Rattle.intent_journal.proofs.Closings.{also_done, also_torn, found_closed}
use Rattle.disk_model.proofs.Passages.{holds_still, still_run, write_holds, write_run}
use Rattle.intent_journal.proofs.closing.close_also.Goals as goal

pub returns-in_err-put-clause-any_moment : goal.returns-in_err-put-clause-any_moment
returns-in_err-put-clause-any_moment g c =
    let found = c.args.found.now in
    write_run g.D.Disk.told (IsFound found) (λ image. IsOld (journal_in image)) (g.D.Disk.told c.args.disk.now).bytes c.args.disk.now c.put.new.disk
    found.other 1 (g.met.D.Disk.only_now c.args.disk.now) c.requires.found c.put.ensures.time (λ image b is torn. also_torn found image is c.if-found.true b torn)

pub returns-in_ok-put-clause-any_moment : goal.returns-in_ok-put-clause-any_moment
returns-in_ok-put-clause-any_moment g c =
    let found = c.args.found.now in
    write_run g.D.Disk.told (IsFound found) (λ image. IsOld (journal_in image)) (g.D.Disk.told c.args.disk.now).bytes c.args.disk.now c.put.new.disk
    found.other 1 (g.met.D.Disk.only_now c.args.disk.now) c.requires.found c.put.ensures.time (λ image b is torn. also_torn found image is c.if-found.true b torn)

pub returns-in_ok-put-clause-done : goal.returns-in_ok-put-clause-done
returns-in_ok-put-clause-done g c =
    let found = c.args.found.now in
    write_holds (IsFound found) (IsCut found) found.other (0 ∷ []) (g.D.Disk.told c.args.disk.now).bytes (g.D.Disk.told c.put.new.disk).bytes (g.D.Disk.told c.args.disk.now).may_leave (g.D.Disk.told c.put.new.disk).may_leave
    (λ image is. also_done found image is) c.requires.found c.in_ok-put.ensures.written c.in_ok-put.ensures.durable

pub returns-else-found-clause-any_moment : goal.returns-else-found-clause-any_moment
returns-else-found-clause-any_moment g c =
    still_run g.D.Disk.told (IsFound c.args.found.now) (λ image. IsOld (journal_in image)) (g.D.Disk.told c.args.disk.now).bytes c.args.disk.now
    (g.met.D.Disk.only_now c.args.disk.now) c.requires.found (λ image is. refl)

pub returns-else-found-clause-done : goal.returns-else-found-clause-done
returns-else-found-clause-done g c =
    holds_still (IsFound c.args.found.now) (IsCut c.args.found.now) (g.D.Disk.told c.args.disk.now).bytes (g.D.Disk.told c.args.disk.now).may_leave
    (λ image is. found_closed c.args.found.now image is c.if-found.false) c.requires.found
