use Rattle.std.proofs.Common.{◌≡◌, ◌∙◌, ◌≤◌, length, slice_index, refl, ap, arith}
use Rattle.order_policy.specs.Answers.{rank_by}
use Rattle.update_scheduler.proofs.Offered.{offers-next, offers-all}
use Rattle.update_scheduler.proofs.offers.offer_each.Goals as goal

pub loop-k-preserved : goal.loop-k-preserved
loop-k-preserved g c = (
  offers-next c.args.graph.now (rank_by c.args.policy.now.answers) c.args.row.now c.loop-k.k c.loop-k.candidates.items c.offer.new.candidates.items c.loop-k.invariant.0 c.loop-k-test.true c.offer.ensures.offered,
  c.offer.ensures.capacity ∙ c.loop-k.invariant.1,
)

pub returns-clause-offered : goal.returns-clause-offered
returns-clause-offered g c =
    offers-all c.args.graph.now (rank_by c.args.policy.now.answers) c.args.row.now c.loop-k.k c.loop-k.candidates.items (omega (arith, c.loop-k-test.false)) c.loop-k.invariant.0
