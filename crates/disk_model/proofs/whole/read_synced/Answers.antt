use Rattle.std.proofs.Common.{◌≡◌, ℕ, List, Option, IfSome, subst}
use Rattle.disk_model.proofs.Durable.{durable_still}
use Rattle.disk_model.proofs.Quiet.{more_calls, one_call}
use Rattle.disk_model.proofs.whole.read_synced.Goals as goal

pub returns-in_err-sync-clause-quiet : goal.returns-in_err-sync-clause-quiet
returns-in_err-sync-clause-quiet g c =
    one_call g.D.Disk.told c.args.disk.now c.sync.new.self (g.met.D.Disk.only_now c.args.disk.now) c.sync.ensures.nothing.same c.sync.ensures.nothing.crash c.sync.ensures.nothing.time

pub returns-in_err-image-clause-quiet : goal.returns-in_err-image-clause-quiet
returns-in_err-image-clause-quiet g c =
    more_calls g.D.Disk.told c.args.disk.now c.sync.new.self c.read_whole.new.disk
    (one_call g.D.Disk.told c.args.disk.now c.sync.new.self (g.met.D.Disk.only_now c.args.disk.now) c.sync.ensures.nothing.same c.sync.ensures.nothing.crash c.sync.ensures.nothing.time)
    c.read_whole.ensures.quiet

pub returns-clause-quiet : goal.returns-clause-quiet
returns-clause-quiet g c =
    more_calls g.D.Disk.told c.args.disk.now c.sync.new.self c.read_whole.new.disk
    (one_call g.D.Disk.told c.args.disk.now c.sync.new.self (g.met.D.Disk.only_now c.args.disk.now) c.sync.ensures.nothing.same c.sync.ensures.nothing.crash c.sync.ensures.nothing.time)
    c.read_whole.ensures.quiet

pub returns-clause-durable : goal.returns-clause-durable
returns-clause-durable g c =
    durable_still (g.D.Disk.told c.sync.new.self).bytes (g.D.Disk.told c.read_whole.new.disk).bytes (g.D.Disk.told c.sync.new.self).may_leave (g.D.Disk.told c.read_whole.new.disk).may_leave c.read_whole.ensures.quiet.same
    c.read_whole.ensures.quiet.crash c.in_ok-sync.ensures.durable

pub returns-clause-read : goal.returns-clause-read
returns-clause-read g c =
    subst (λ (told : Option (List ℕ)). IfSome told (λ all. c.in_ok-image.image ≡ all)) c.sync.ensures.nothing.same c.in_ok-image.ensures.read
