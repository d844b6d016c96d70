use Rattle.std.proofs.Common.{ap}
use Rattle.order_policy.specs.Answers.{rank_by}
use Rattle.switch_ports.specs.Berths.{ports_of}
use Rattle.rollout_report.specs.Journals.{digest_for}
use Rattle.controller_run.proofs.RolloutEnds.{migration-is, rolled-from}
use Rattle.controller_run.proofs.rollouts.run_rollout.Goals as goal

pub returns-in-Ok-clause-rolled : goal.returns-in-Ok-clause-rolled
returns-in-Ok-clause-rolled g c =
    rolled-from g.D.Disk.told g.F.Port.Port.told
    c.args.plan (digest_for c.args.plan c.args.limits.migration) (rank_by c.args.policy.now.answers) (rank_by c.in-Ok.book.policy.now.answers) c.args.limits.migration c.args.limits.rounds c.args.disk c.in-Ok.book.chronicle
    (ports_of (g.F.Fleet.told c.args.fleet.now)) (ports_of (g.F.Fleet.told c.run_book.new.fleet)) c.run_book.result.disk c.run_book.result.outcome
    (ap (λ p. rank_by p.answers) c.in-Ok.ensures.policy) (migration-is c.args.plan c.args.limits.migration) c.in-Ok.ensures.opened c.in-Ok.ensures.book c.run_book.ensures.run
