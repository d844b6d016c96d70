use Rattle.std.proofs.Common.{length, ap, arith}
use Rattle.intent_journal.specs.Phases.{Planned}
use Rattle.intent_journal.proofs.placing.settled_part.Goals as goal

pub returns-clause-few : goal.returns-clause-few
returns-clause-few c = omega (arith, c.in_ok-prepared.ensures.few, ap (λ (p : Planned). length p.kept.starts) c.in_ok-prepared.ensures.part)
