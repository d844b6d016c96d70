use Rattle.std.proofs.Common.{◌-◌, ◌≤◌, arith, length, take}
use Rattle.std.proofs.lemmas.List.{length-take-le}
use Rattle.host_edge.proofs.Sorting.{put_behind}
use Rattle.host_edge.proofs.inbox.read_behind.Goals as goal

pub returns-clause-taken : goal.returns-clause-taken
returns-clause-taken g c =
    let n = c.in_ok-n.n in
    let into = c.read_noted.new.into in
    let few : n ≤ length into = omega (arith, c.in_ok-n.ensures.within, c.read_noted.auto.into) in
    (take n into, length-take-le n into few, c.in_ok-n.ensures.taken, put_behind c.args.bytes.now into c.args.front (length c.args.bytes.now - c.args.front) n c.requires few, c.in_ok-n.ensures.noted)
