use Rattle.std.proofs.Common.{[], ◌∷◌}
use Rattle.agent_state.specs.Renewals.{IsNamed, new_gate, new_home}
use Rattle.agent_state.specs.States.{IsAtRest, IsEither}
use Rattle.agent_state.specs.Stored.{home_of}
use Rattle.disk_model.proofs.Passages.{write_holds, write_run}
use Rattle.agent_state.proofs.Renewed.{switch_torn, switched_at}
use Rattle.agent_state.proofs.renewing.switch.Goals as goal

pub returns-in_err-put-clause-any_moment : goal.returns-in_err-put-clause-any_moment
returns-in_err-put-clause-any_moment g c = λ kept to batch holds.
    let home = home_of c.args.place in
    write_run g.D.Disk.told (IsNamed home c.args.place.gate kept to batch) (λ image. IsEither kept (batch ∷ [])) (g.D.Disk.told c.args.disk.now).bytes c.args.disk.now c.put.new.disk
    1 1 (g.met.D.Disk.only_now c.args.disk.now) holds c.put.ensures.time
    (λ image b is torn. switch_torn home c.args.place.gate kept to batch image is b torn)

pub returns-clause-any_moment : goal.returns-clause-any_moment
returns-clause-any_moment g c = λ kept to batch holds.
    let home = home_of c.args.place in
    write_run g.D.Disk.told (IsNamed home c.args.place.gate kept to batch) (λ image. IsEither kept (batch ∷ [])) (g.D.Disk.told c.args.disk.now).bytes c.args.disk.now c.put.new.disk
    1 1 (g.met.D.Disk.only_now c.args.disk.now) holds c.put.ensures.time
    (λ image b is torn. switch_torn home c.args.place.gate kept to batch image is b torn)

pub returns-clause-done : goal.returns-clause-done
returns-clause-done g c = λ kept to batch holds.
    let home = home_of c.args.place in
    write_holds (IsNamed home c.args.place.gate kept to batch) (IsAtRest (new_home home to) (new_gate to batch) (batch ∷ [])) 1 (c.side_byte-side.result ∷ [])
    (g.D.Disk.told c.args.disk.now).bytes (g.D.Disk.told c.put.new.disk).bytes (g.D.Disk.told c.args.disk.now).may_leave (g.D.Disk.told c.put.new.disk).may_leave
    (λ image is. switched_at home c.args.place.gate kept to batch image c.side_byte-side.result c.side_byte-side.ensures is) holds c.in_ok-put.ensures.written c.in_ok-put.ensures.durable
