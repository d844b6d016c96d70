use Rattle.agent_state.proofs.Committing.{done_run, first_run, second_run}
use Rattle.agent_state.proofs.appending.commit.Goals as goal

pub returns-in_err-put-clause-any_moment : goal.returns-in_err-put-clause-any_moment
returns-in_err-put-clause-any_moment g c =
    first_run g.D.Disk.told (g.D.Disk.told c.args.disk.now).bytes c.args.disk.now c.put.new.disk c.args.gate c.args.body.now
    (g.met.D.Disk.only_now c.args.disk.now) c.put.ensures.time

pub returns-clause-any_moment : goal.returns-clause-any_moment
returns-clause-any_moment g c =
    second_run g.D.Disk.told (g.D.Disk.told c.args.disk.now).bytes (g.D.Disk.told c.put.new.disk).bytes c.args.disk.now c.put.new.disk c.put-2.new.disk
    c.args.gate c.args.body.now (g.met.D.Disk.only_now c.args.disk.now) c.put.ensures.time c.in_ok-put.ensures.written c.in_ok-put.ensures.durable c.put-2.ensures.time

pub returns-clause-done : goal.returns-clause-done
returns-clause-done g c =
    done_run (g.D.Disk.told c.args.disk.now).bytes (g.D.Disk.told c.put.new.disk).bytes (g.D.Disk.told c.put-2.new.disk).bytes (g.D.Disk.told c.put-2.new.disk).may_leave c.args.gate c.args.body.now c.put-2.result
    c.in_ok-put.ensures.written c.put-2.ensures.written c.put-2.ensures.durable
