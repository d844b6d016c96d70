use Rattle.std.proofs.Common.{sym, subst, vec_capacity}
use Rattle.update_scheduler.specs.Endings.{Acks}
use Rattle.update_scheduler.specs.Turns.{IsTurning}
use Rattle.update_scheduler.proofs.Turning.{forgets}
use Rattle.update_scheduler.proofs.rounds.Rounds.forget.Goals as goal

pub invariant_of-self : goal.invariant_of-self
invariant_of-self c =
    let s = c.self.inside in
    subst (λ (told : Acks). IsTurning s.graph s.bench s.flights told s.batch.items (vec_capacity s.batch)) (sym c.forget.ensures) (forgets s.graph s.bench s.flights s.told s.batch.items (vec_capacity s.batch) c.self.invariant)
