use Rattle.std.proofs.Common.{◌<◌, sym, subst, vec_capacity}
use Rattle.rollout_rules.specs.Items.{item_count}
use Rattle.update_scheduler.specs.Endings.{Acks}
use Rattle.update_scheduler.specs.Rounds.{Turning}
use Rattle.update_scheduler.specs.Turns.{IsTurning}
use Rattle.update_scheduler.proofs.Turning.{hears}
use Rattle.update_scheduler.proofs.rounds.Rounds.hear.Goals as goal

pub invariant_of-self : goal.invariant_of-self
invariant_of-self c =
    let s = c.self.inside in
    let lt = subst (λ (t : Turning). c.args.answer.item < item_count t.rollout.problem) (sym c.self.view_is) c.requires in
    subst (λ (told : Acks). IsTurning s.graph s.bench s.flights told s.batch.items (vec_capacity s.batch)) (sym c.hear.ensures) (hears s.graph s.bench s.flights s.told s.batch.items (vec_capacity s.batch) c.self.invariant c.args.answer lt)
