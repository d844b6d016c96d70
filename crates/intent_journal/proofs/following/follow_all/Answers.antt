use Rattle.std.proofs.Common.{refl, arith}
use Rattle.intent_journal.proofs.Legality.{HasFollowed-kept, HasFollowed-next}
use Rattle.intent_journal.proofs.following.follow_all.Goals as goal

pub loop-place-preserved : goal.loop-place-preserved
loop-place-preserved c = record {
  within = omega (arith, c.loop-place-test.true);
  followed = HasFollowed-next _ _ _ _ c.loop-place.invariant.followed _ _ c.loop-place-test.true refl _ c.follow.result c.follow.ensures.may c.if-not-follow.false c.follow.ensures.graph;
}

pub returns-then-not-follow-clause-stopped : goal.returns-then-not-follow-clause-stopped
returns-then-not-follow-clause-stopped c = HasFollowed-kept _ _ _ _ c.loop-place.invariant.followed _ _ c.loop-place-test.true refl _ c.follow.result c.if-not-follow.true c.follow.ensures.graph
