use Rattle.std.proofs.Common.{sym, subst, ap}
use Rattle.rollout_laws.specs.Kept.{IsKept}
use Rattle.rollout_laws.proofs.Keeping.{first_world_is_kept}
use Rattle.rollout_core.specs.Worlds.{Standing}
use Rattle.takeover_core.proofs.two_worlds.TwoWorlds.new.Goals as goal

pub newer_world-requires-clause-own : goal.newer_world-requires-clause-own
newer_world-requires-clause-own c = ap (λ (s : Standing). s.rollout) c.in_ok-older.ensures

pub newer_world-requires-clause-kept : goal.newer_world-requires-clause-kept
newer_world-requires-clause-kept c =
    let r = c.args.plan.now in
    subst (λ (s : Standing). IsKept s.rollout.problem s.rollout.plan s.world) (sym c.in_ok-older.ensures)
    (first_world_is_kept r.problem r.plan c.args.start.now c.args.migration c.args.first.now c.requires.sound c.requires.first)
