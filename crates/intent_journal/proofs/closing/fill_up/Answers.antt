use Rattle.std.proofs.Common.{rules, ◌-◌, ◌<◌, ◌≤◌, [], ◌∷◌, refl}
use Rattle.intent_journal.specs.Images.{journal_in}
use Rattle.intent_journal.specs.Phases.{IsOld, end_of}
use Rattle.intent_journal.specs.Renewals.{IsClosed, IsFilled}
use Rattle.intent_journal.proofs.Closings.{fill_done, fill_torn, reaches}
use Rattle.disk_model.proofs.Passages.{holds_still, still_run, write_holds, write_run}
use Rattle.intent_journal.proofs.closing.fill_up.Goals as goal

pub returns-in_err-put-clause-any_moment : goal.returns-in_err-put-clause-any_moment
returns-in_err-put-clause-any_moment g c =
    let found = c.args.found.now in
    let short : found.length < end_of found = search rules in
    write_run g.D.Disk.told (IsClosed found) (λ image. IsOld (journal_in image)) (g.D.Disk.told c.args.disk.now).bytes c.args.disk.now c.put.new.disk
    (end_of found - 1) 1 (g.met.D.Disk.only_now c.args.disk.now) c.requires.found (rw (← c.end-end.ensures) c.put.ensures.time) (λ image b is torn. fill_torn found image is short b torn)

pub returns-in_ok-put-clause-any_moment : goal.returns-in_ok-put-clause-any_moment
returns-in_ok-put-clause-any_moment g c =
    let found = c.args.found.now in
    let short : found.length < end_of found = search rules in
    write_run g.D.Disk.told (IsClosed found) (λ image. IsOld (journal_in image)) (g.D.Disk.told c.args.disk.now).bytes c.args.disk.now c.put.new.disk
    (end_of found - 1) 1 (g.met.D.Disk.only_now c.args.disk.now) c.requires.found (rw (← c.end-end.ensures) c.put.ensures.time) (λ image b is torn. fill_torn found image is short b torn)

pub returns-in_ok-put-clause-done : goal.returns-in_ok-put-clause-done
returns-in_ok-put-clause-done g c =
    let found = c.args.found.now in
    let short : found.length < end_of found = search rules in
    write_holds (IsClosed found) (IsFilled found) (end_of found - 1) (0 ∷ []) (g.D.Disk.told c.args.disk.now).bytes (g.D.Disk.told c.put.new.disk).bytes (g.D.Disk.told c.args.disk.now).may_leave (g.D.Disk.told c.put.new.disk).may_leave
    (λ image is. fill_done found image is short) c.requires.found (rw (← c.end-end.ensures) c.in_ok-put.ensures.written) c.in_ok-put.ensures.durable

pub returns-else-found-end-clause-any_moment : goal.returns-else-found-end-clause-any_moment
returns-else-found-end-clause-any_moment g c =
    still_run g.D.Disk.told (IsClosed c.args.found.now) (λ image. IsOld (journal_in image)) (g.D.Disk.told c.args.disk.now).bytes c.args.disk.now
    (g.met.D.Disk.only_now c.args.disk.now) c.requires.found (λ image is. refl)

pub returns-else-found-end-clause-done : goal.returns-else-found-end-clause-done
returns-else-found-end-clause-done g c =
    let long : end_of c.args.found.now ≤ c.args.found.now.length = search rules in
    holds_still (IsClosed c.args.found.now) (IsFilled c.args.found.now) (g.D.Disk.told c.args.disk.now).bytes (g.D.Disk.told c.args.disk.now).may_leave
    (λ image is. reaches c.args.found.now image is long) c.requires.found
