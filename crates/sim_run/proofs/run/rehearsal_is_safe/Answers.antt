use Rattle.std.proofs.Common.{subst}
use Rattle.rollout_rules.specs.Network.{IsNetwork}
use Rattle.order_policy.specs.Answers.{rank_by}
use Rattle.sim_run.proofs.Schedules.{rehearsal-is_safe}
use Rattle.sim_run.proofs.run.rehearsal_is_safe.Goals as goal

pub returns : goal.returns
returns g c = rehearsal-is_safe c.args.plan.now.problem c.args.plan.now.plan (rank_by c.args.policy.now.answers) c.args.script.now (subst IsNetwork c.problem.ensures c.links.ensures.network) c.plan.ensures.valid
