use Rattle.std.proofs.Common.{◌∙◌}
use Rattle.lossy_link.proofs.Behind.{next_more, next_same}
use Rattle.lossy_link.proofs.faithful_port.skip_each.Goals as goal

pub loop-preserved : goal.loop-preserved
loop-preserved c = record {
  same = next_same _ _ _ c.next.ensures.given c.next.ensures.none ∙ c.loop.invariant.same;
  has = λ earlier has. next_more _ _ _ c.next.ensures.given c.next.ensures.none earlier (c.loop.invariant.has earlier has);
}

pub returns-clause-has : goal.returns-clause-has
returns-clause-has c earlier has =
    next_more _ _ _ c.next.ensures.given c.next.ensures.none earlier (c.loop.invariant.has earlier has)
