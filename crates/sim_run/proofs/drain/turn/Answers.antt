use Rattle.std.proofs.Common.{ap, ◌∙◌}
use Rattle.rollout_rules.specs.declared.event.Act.TheVariants as act
use Rattle.order_policy.specs.Answers.{rank_by}
use Rattle.sim_run.specs.Acts.{after_act}
use Rattle.sim_run.specs.Rehearsing.{Rehearsing}
use Rattle.sim_run.proofs.drain.turn.Goals as goal

pub act-requires-2 : goal.act-requires-2
act-requires-2 g c = ap (λ (r : Rehearsing). r.live) c.in_ok-act.ensures.state ∙ c.requires

pub returns : goal.returns
returns g c =
    c.in_ok-act-2.ensures.state
    ∙ ap (λ (r : Rehearsing). record r { state = after_act r.rollout.problem r.rollout.plan (rank_by c.args.policy.now.answers) r.state act.Round }) c.in_ok-act.ensures.state
