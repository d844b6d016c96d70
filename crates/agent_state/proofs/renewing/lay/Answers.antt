use Rattle.std.proofs.Common.{inl, [], ◌∷◌, length}
use Rattle.agent_state.specs.Renewals.{IsLaid}
use Rattle.agent_state.specs.States.{IsAtRest, IsEither}
use Rattle.agent_state.specs.Stored.{home_of}
use Rattle.agent_state.proofs.Heads.{rest_reads}
use Rattle.disk_model.proofs.Passages.{write_holds, write_run}
use Rattle.agent_state.proofs.Renewed.{laid, torn_aside}
use Rattle.agent_state.proofs.renewing.lay.Goals as goal

pub returns-in_err-put-clause-any_moment : goal.returns-in_err-put-clause-any_moment
returns-in_err-put-clause-any_moment g c = λ kept batch holds.
    let home = home_of c.args.place in
    write_run g.D.Disk.told (IsAtRest home c.args.place.gate kept) (λ image. IsEither kept (batch ∷ [])) (g.D.Disk.told c.args.disk.now).bytes c.args.disk.now c.put.new.disk
    c.args.to (length c.args.bytes.now) (g.met.D.Disk.only_now c.args.disk.now) holds c.put.ensures.time
    (λ image b rest torn. inl (rest_reads home c.args.place.gate kept b (torn_aside home c.args.place.gate kept image rest c.args.to (length c.args.bytes.now) b c.requires.low c.requires.apart torn)))

pub returns-clause-any_moment : goal.returns-clause-any_moment
returns-clause-any_moment g c = λ kept batch holds.
    let home = home_of c.args.place in
    write_run g.D.Disk.told (IsAtRest home c.args.place.gate kept) (λ image. IsEither kept (batch ∷ [])) (g.D.Disk.told c.args.disk.now).bytes c.args.disk.now c.put.new.disk
    c.args.to (length c.args.bytes.now) (g.met.D.Disk.only_now c.args.disk.now) holds c.put.ensures.time
    (λ image b rest torn. inl (rest_reads home c.args.place.gate kept b (torn_aside home c.args.place.gate kept image rest c.args.to (length c.args.bytes.now) b c.requires.low c.requires.apart torn)))

pub returns-clause-done : goal.returns-clause-done
returns-clause-done g c = λ kept batch holds few is.
    let home = home_of c.args.place in
    write_holds (IsAtRest home c.args.place.gate kept) (IsLaid home c.args.place.gate kept c.args.to batch) c.args.to c.args.bytes.now
    (g.D.Disk.told c.args.disk.now).bytes (g.D.Disk.told c.put.new.disk).bytes (g.D.Disk.told c.args.disk.now).may_leave (g.D.Disk.told c.put.new.disk).may_leave
    (λ image rest. laid home c.args.place.gate kept image rest c.args.to batch c.args.bytes.now c.requires.low c.requires.apart few is) holds c.in_ok-put.ensures.written c.in_ok-put.ensures.durable
