use Rattle.std.proofs.Common.{◌<◌, ◌∙◌, length, sym, ap, subst}
use Rattle.rollout_rules.specs.Wan.{Problem, tunnel_at}
use Rattle.retarget_plan.specs.Units.{times}
use Rattle.retarget_plan.proofs.rows.scaled_target.Goals as goal

pub rate_on-rate-requires : goal.rate_on-rate-requires
rate_on-rate-requires c = subst (λ (p : Problem). c.args.tunnel < length p.tunnels) (sym c.problem-problem.ensures) c.requires.tunnel

pub returns : goal.returns
returns c = c.times.ensures ∙ ap (times c.args.factor) (c.rate_on-rate.ensures.value ∙ ap (λ (p : Problem). (tunnel_at p c.args.tunnel).new) c.problem-problem.ensures)
