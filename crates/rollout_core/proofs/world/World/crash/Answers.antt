use Rattle.std.proofs.Common.{◌≡◌, true, take, sym, subst}
use Rattle.rollout_rules.specs.Legal.{may_follow}
use Rattle.rollout_laws.proofs.Histories.{take_follows}
use Rattle.rollout_core.proofs.world.World.crash.Goals as goal

pub append-requires : goal.append-requires
append-requires c =
    let h = c.self.inside.history in
    subst (λ b. may_follow h.rollout.problem h.rollout.plan h.history (take c.args.kept b) ≡ true) (sym c.as_slice.ensures) (take_follows h.rollout.problem h.rollout.plan h.history c.self.inside.writing c.args.kept c.self.invariant.follows)
