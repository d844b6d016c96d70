use Rattle.std.proofs.Common.{rules, ◌≡◌, ◌+◌, ◌≤◌, length, ap, ◌∙◌, arith}
use Rattle.intent_journal.specs.Images.{journal_in}
use Rattle.intent_journal.specs.Phases.{IsOld}
use Rattle.intent_journal.specs.Renewals.{IsLaid, IsNamed}
use Rattle.intent_journal.proofs.Laying.{long_name, name_bytes, name_done, name_torn, start_small}
use Rattle.disk_model.proofs.Passages.{write_ok, write_run}
use Rattle.intent_journal.proofs.renewing.name_part.Goals as goal

pub returns-clause-any_moment : goal.returns-clause-any_moment
returns-clause-any_moment g c =
    let found = c.args.found.now in
    let part = c.args.part.now in
    let is : c.name_bytes-name.result ≡ name_bytes found part = search rules in
    let long : length c.name_bytes-name.result ≡ 16 = ap length is ∙ long_name found part in
    write_run g.D.Disk.told (IsLaid found part) (λ image. IsOld (journal_in image)) (g.D.Disk.told c.args.disk.now).bytes c.args.disk.now c.put.new.disk
    (found.other + 1) 16 (g.met.D.Disk.only_now c.args.disk.now) c.requires.laid (rw (← long) c.put.ensures.time) (λ image b is torn. name_torn found part image is b torn)

pub returns-clause-done : goal.returns-clause-done
returns-clause-done g c =
    let found = c.args.found.now in
    let part = c.args.part.now in
    let is : c.name_bytes-name.result ≡ name_bytes found part = search rules in
    let few : part.size ≤ 1000000000 = search rules in
    let low = start_small found part.size c.requires.small in
    write_ok (IsLaid found part) (IsNamed found part) (found.other + 1) (name_bytes found part) (g.D.Disk.told c.args.disk.now).bytes (g.D.Disk.told c.put.new.disk).bytes (g.D.Disk.told c.args.disk.now).may_leave (g.D.Disk.told c.put.new.disk).may_leave c.put.result
    (λ image is. name_done found part image is (omega (arith, low)) few) c.requires.laid (rw (← is) c.put.ensures.written) c.put.ensures.durable
