use Rattle.intent_journal.specs.Images.{journal_in}
use Rattle.intent_journal.specs.Phases.{IsOld}
use Rattle.intent_journal.specs.Renewals.{IsFilled, IsLaid, new_start}
use Rattle.intent_journal.proofs.Laying.{lay_done, lay_torn}
use Rattle.disk_model.proofs.Passages.{write_ok, write_run}
use Rattle.intent_journal.proofs.renewing.lay_part.Goals as goal

pub returns-clause-any_moment : goal.returns-clause-any_moment
returns-clause-any_moment g c =
    let found = c.args.found.now in
    let part = c.args.part.now in
    write_run g.D.Disk.told (IsFilled found) (λ image. IsOld (journal_in image)) (g.D.Disk.told c.args.disk.now).bytes c.args.disk.now c.put.new.disk
    (new_start found part.size) _ (g.met.D.Disk.only_now c.args.disk.now) c.requires.filled (rw (← c.place_of.ensures) c.put.ensures.time)
    (λ image b is torn. lay_torn found part image is c.bytes.result.now c.bytes.ensures c.requires.small b torn)

pub returns-clause-done : goal.returns-clause-done
returns-clause-done g c =
    let found = c.args.found.now in
    let part = c.args.part.now in
    write_ok (IsFilled found) (IsLaid found part) (new_start found part.size) c.bytes.result.now (g.D.Disk.told c.args.disk.now).bytes (g.D.Disk.told c.put.new.disk).bytes (g.D.Disk.told c.args.disk.now).may_leave (g.D.Disk.told c.put.new.disk).may_leave c.put.result
    (λ image is. lay_done found part image is c.bytes.result.now c.bytes.ensures c.requires.small) c.requires.filled (rw (← c.place_of.ensures) c.put.ensures.written) c.put.ensures.durable
