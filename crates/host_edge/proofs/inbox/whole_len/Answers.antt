use Rattle.std.proofs.Common.{arith, subst}
use Rattle.host_edge.specs.Inboxes.{Fronts}
use Rattle.host_edge.proofs.Sorting.{reads_whole, stops_alien, stops_cut, stops_whole}
use Rattle.host_edge.proofs.inbox.whole_len.Goals as goal

pub loop-done-preserved : goal.loop-done-preserved
loop-done-preserved c =
    let i = c.loop-done.invariant in
    reads_whole c.args.bytes.now c.loop-done.done i.within i.whole c.in-Whole.n (subst (Fronts _) c.in-Whole.is c.front_of.ensures)

pub returns-in-Cut-clause-sorted : goal.returns-in-Cut-clause-sorted
returns-in-Cut-clause-sorted c =
    let i = c.loop-done.invariant in
    stops_cut c.args.bytes.now c.loop-done.done i.within i.whole (subst (Fronts _) c.in-Cut.is c.front_of.ensures)

pub returns-in-Other-clause-sorted : goal.returns-in-Other-clause-sorted
returns-in-Other-clause-sorted c =
    let i = c.loop-done.invariant in
    stops_alien c.args.bytes.now c.loop-done.done i.within i.whole (subst (Fronts _) c.in-Other.is c.front_of.ensures)

pub returns-clause-sorted : goal.returns-clause-sorted
returns-clause-sorted c =
    let i = c.loop-done.invariant in
    stops_whole c.args.bytes.now c.loop-done.done i.within i.whole (omega (arith, c.loop-done-test.false))
