use Rattle.std.proofs.Common.{inl, refl}
use Rattle.dependency_graph.proofs.FirstFaults.{behind-needs}
use Rattle.dependency_graph.proofs.soundness.first_of_places.Goals as goal

pub returns-in-Some : goal.returns-in-Some
returns-in-Some c = inl (record { number = c.in-Some.op.item; operation = c.in-Some.op.number; is = refl; first = c.in-Some.ensures })

pub returns-in-None : goal.returns-in-None
returns-in-None c = behind-needs c.args.plan.now c.args.progress.now c.first_without_room.result c.in-None.ensures c.first_without_room.ensures
