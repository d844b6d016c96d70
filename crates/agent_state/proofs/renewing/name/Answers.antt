use Rattle.std.proofs.Common.{[], ◌∷◌, length, ap, ◌∙◌}
use Rattle.disk_model.proofs.FourBytes.{length-bytes_4}
use Rattle.agent_state.specs.Renewals.{IsLaid, IsNamed}
use Rattle.agent_state.specs.States.{IsEither}
use Rattle.agent_state.specs.Stored.{home_of}
use Rattle.disk_model.proofs.Passages.{write_holds, write_run}
use Rattle.agent_state.proofs.Renewed.{named_at, torn_laid_at}
use Rattle.agent_state.proofs.renewing.name.Goals as goal

pub returns-in_err-put-clause-any_moment : goal.returns-in_err-put-clause-any_moment
returns-in_err-put-clause-any_moment g c = λ kept batch holds.
    let home = home_of c.args.place in
    write_run g.D.Disk.told (IsLaid home c.args.place.gate kept c.args.to batch) (λ image. IsEither kept (batch ∷ [])) (g.D.Disk.told c.args.disk.now).bytes c.args.disk.now c.put.new.disk
    c.idle_place-at.result (length c.number_bytes-number.result) (g.met.D.Disk.only_now c.args.disk.now) holds c.put.ensures.time
    (λ image b laid torn. torn_laid_at home c.args.place.gate kept c.args.to batch image b c.idle_place-at.result (length c.number_bytes-number.result) c.idle_place-at.ensures (ap length c.number_bytes-number.ensures ∙ length-bytes_4 c.args.to) laid torn)

pub returns-clause-any_moment : goal.returns-clause-any_moment
returns-clause-any_moment g c = λ kept batch holds.
    let home = home_of c.args.place in
    write_run g.D.Disk.told (IsLaid home c.args.place.gate kept c.args.to batch) (λ image. IsEither kept (batch ∷ [])) (g.D.Disk.told c.args.disk.now).bytes c.args.disk.now c.put.new.disk
    c.idle_place-at.result (length c.number_bytes-number.result) (g.met.D.Disk.only_now c.args.disk.now) holds c.put.ensures.time
    (λ image b laid torn. torn_laid_at home c.args.place.gate kept c.args.to batch image b c.idle_place-at.result (length c.number_bytes-number.result) c.idle_place-at.ensures (ap length c.number_bytes-number.ensures ∙ length-bytes_4 c.args.to) laid torn)

pub returns-clause-done : goal.returns-clause-done
returns-clause-done g c = λ kept batch holds.
    let home = home_of c.args.place in
    write_holds (IsLaid home c.args.place.gate kept c.args.to batch) (IsNamed home c.args.place.gate kept c.args.to batch) c.idle_place-at.result c.number_bytes-number.result
    (g.D.Disk.told c.args.disk.now).bytes (g.D.Disk.told c.put.new.disk).bytes (g.D.Disk.told c.args.disk.now).may_leave (g.D.Disk.told c.put.new.disk).may_leave
    (λ image laid. named_at home c.args.place.gate kept c.args.to batch image c.number_bytes-number.result c.idle_place-at.result c.idle_place-at.ensures c.number_bytes-number.ensures c.requires laid) holds c.in_ok-put.ensures.written c.in_ok-put.ensures.durable
