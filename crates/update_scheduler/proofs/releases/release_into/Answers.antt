use Rattle.std.proofs.Common.{◌∙◌, arith}
use Rattle.order_policy.specs.Answers.{rank_by}
use Rattle.update_scheduler.specs.Candidates.{rank_of, offered_among}
use Rattle.update_scheduler.proofs.Whole.{release-graph, release-ops, release-inside}
use Rattle.update_scheduler.proofs.releases.release_into.Goals as goal

pub try_each-requires-clause-items : goal.try_each-requires-clause-items
try_each-requires-clause-items g c =
    let policy = rank_by c.args.policy.now.answers in
    release-inside c.args.graph.now policy c.woken.result.now c.woken.ensures.woken c.woken.ensures.network c.woken.ensures.legal c.as_slice.result.now
    (c.as_slice.ensures.value ∙ c.put_in_order.ensures.order (rank_of c.args.graph.now policy) (offered_among c.args.graph.now policy c.woken.result.now) c.offer_each.ensures.offered)

pub try_each-requires-clause-room : goal.try_each-requires-clause-room
try_each-requires-clause-room g c = omega (arith, c.clear-2.ensures.len, c.clear-2.ensures.capacity, c.as_slice.ensures.len, c.put_in_order.ensures.len, c.offer_each.ensures.few, c.woken.ensures.woken.few, c.requires.begun)

pub returns-clause-graph : goal.returns-clause-graph
returns-clause-graph g c =
    let policy = rank_by c.args.policy.now.answers in
    release-graph c.args.graph.now policy c.woken.result.now c.woken.ensures.woken c.woken.ensures.network c.woken.ensures.legal c.as_slice.result.now
    (c.as_slice.ensures.value ∙ c.put_in_order.ensures.order (rank_of c.args.graph.now policy) (offered_among c.args.graph.now policy c.woken.result.now) c.offer_each.ensures.offered)
    c.try_each.new.graph c.try_each.ensures.graph

pub returns-clause-begun : goal.returns-clause-begun
returns-clause-begun g c =
    let policy = rank_by c.args.policy.now.answers in
    release-ops c.args.graph.now policy c.woken.result.now c.woken.ensures.woken c.woken.ensures.network c.woken.ensures.legal c.as_slice.result.now
    (c.as_slice.ensures.value ∙ c.put_in_order.ensures.order (rank_of c.args.graph.now policy) (offered_among c.args.graph.now policy c.woken.result.now) c.offer_each.ensures.offered)
    c.clear-2.new.self.items c.try_each.new.begun.items c.clear-2.ensures.items c.try_each.ensures.begun
