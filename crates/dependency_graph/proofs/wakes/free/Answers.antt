use Rattle.dependency_graph.proofs.Waking.{pop-less}
use Rattle.dependency_graph.proofs.wakes.free.Goals as goal

pub loop-item-smaller : goal.loop-item-smaller
loop-item-smaller c =
    pop-less c.loop-item.woken c.insert.new.self c.loop-item.kept c.pop.new.self c.in-Some.item c.args.resource c.loop-item.invariant.0 c.in-Some.ensures.none c.in-Some.ensures.own c.in-Some.ensures.some c.insert.ensures.items c.insert.ensures.row
