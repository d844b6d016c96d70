use Rattle.std.proofs.Common.{ℕ, ap, ◌∙◌}
use Rattle.rollout_rules.specs.Agent.{pair_of}
use Rattle.rollout_rules.specs.World.{World, comes_late}
use Rattle.rollout_core.specs.Worlds.{Standing}
use Rattle.rollout_core.proofs.HeldPairs.{delivered-comes}
use Rattle.rollout_core.proofs.world.World.deliver.Goals as goal

pub returns-clause-ok : goal.returns-clause-ok
returns-clause-ok c =
    let s = c.args.self.now in
    let op = c.args.command in
    c.in_ok-receive.ensures.ok
    ∙ ap (λ (m : ℕ). record s { world = comes_late s.rollout.problem s.rollout.plan s.world op.item (pair_of m op.number) }) (ap (λ (v : Standing). v.world.migration) c.self.view_is)
    ∙ ap (λ (w : World). record s { world = w }) (delivered-comes s.rollout.problem s.rollout.plan s.world op)
