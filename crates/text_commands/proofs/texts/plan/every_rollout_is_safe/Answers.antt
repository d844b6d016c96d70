use Rattle.std.proofs.Common.{subst}
use Rattle.rollout_laws.proofs.SafeWorlds.{new_world_is_safe}
use Rattle.rollout_rules.specs.Network.{IsNetwork}
use Rattle.text_commands.proofs.texts.plan.every_rollout_is_safe.Goals as goal

pub returns-clause-safe : goal.returns-clause-safe
returns-clause-safe c = λ es. new_world_is_safe c.args.plan.now.problem c.args.plan.now.plan es (subst IsNetwork c.problem.ensures c.links.ensures.network) c.plan.ensures.valid
