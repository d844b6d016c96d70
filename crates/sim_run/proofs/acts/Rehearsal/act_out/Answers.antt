use Rattle.std.proofs.Common.{sym, ap, ◌∙◌}
use Rattle.rollout_rules.specs.declared.event.Act.{Act}
use Rattle.order_policy.specs.Answers.{rank_by}
use Rattle.sim_run.specs.Acts.{acted}
use Rattle.sim_run.proofs.acts.Rehearsal.act_out.Goals as goal

pub returns-in-CrashLost-clause-state : goal.returns-in-CrashLost-clause-state
returns-in-CrashLost-clause-state g c =
    let s = c.args.self.now in
    let policy = rank_by c.args.policy.now.answers in
    c.stop.ensures.lost policy ∙ ap (λ (a : Act). record s { state = acted s.rollout.problem s.rollout.plan policy s.state a }) (sym c.in-CrashLost.is)

pub returns-in-Stop-clause-state : goal.returns-in-Stop-clause-state
returns-in-Stop-clause-state g c =
    let s = c.args.self.now in
    let policy = rank_by c.args.policy.now.answers in
    c.stop-in-Stop.ensures.stop policy ∙ ap (λ (a : Act). record s { state = acted s.rollout.problem s.rollout.plan policy s.state a }) (sym c.in-Stop.is)
