use Rattle.std.proofs.Common.{[]}
use Rattle.order_policy.specs.Answers.{rank_by}
use Rattle.update_scheduler.proofs.Offered.{offers-one, offers-none}
use Rattle.update_scheduler.proofs.offers.offer.Goals as goal

pub returns-in-Some-clause-offered : goal.returns-in-Some-clause-offered
returns-in-Some-clause-offered g c =
    offers-one c.args.graph.now (rank_by c.args.policy.now.answers) c.args.item c.args.candidates.now.items c.push_reserved.new.self.items c.view.result c.has_next.result c.rank_if_free.result
    c.has_next.ensures c.if-has_next.true c.view.ensures c.rank_if_free.ensures c.in-Some.rank c.in-Some.is c.push_reserved.ensures.items

pub returns-in_default-clause-offered : goal.returns-in_default-clause-offered
returns-in_default-clause-offered g c =
    offers-none c.args.graph.now (rank_by c.args.policy.now.answers) c.args.item c.args.candidates.now.items [] c.view.result c.has_next.result c.rank_if_free.result
    c.has_next.ensures c.if-has_next.true c.view.ensures c.rank_if_free.ensures c.in_default.is
