use Rattle.std.proofs.Common.{◌∙◌, refl, sym, ap, subst}
use Rattle.rollback_service.specs.Levellings.{MayStart}
use Rattle.rollback_service.specs.declared.answer.LevelAnswer.{LevelAnswer}
use Rattle.swanroll_top.specs.Rollbacks.{Closes}
use Rattle.swanroll_top.specs.Rollouts.{may_end}
use Rattle.swanroll_top.proofs.Outcomes.{rollout-may, rollout-not-cut}
use Rattle.swanroll_top.proofs.rollback.close.Goals as goal

pub take_back-requires-clause-start : goal.take_back-requires-clause-start
take_back-requires-clause-start g c = subst MayStart c.in-Level.is c.requires.start

pub returns-in-Level-clause-closes : goal.returns-in-Level-clause-closes
returns-in-Level-clause-closes g c =
    subst (λ (a : LevelAnswer). Closes g.D.Disk.told c.args.migration a c.args.disk c.take_back.result.disk c.take_back.result.ending (g.K.Sink.told c.args.sink.now).written (g.K.Sink.told c.take_back.new.sink).written)
    (sym c.in-Level.is) c.take_back.ensures.takes

pub returns-in-Unlevel-clause-closes : goal.returns-in-Unlevel-clause-closes
returns-in-Unlevel-clause-closes g c =
    subst (λ (a : LevelAnswer). Closes g.D.Disk.told c.args.migration a c.args.disk c.args.disk c.ending_of_rollout.result (g.K.Sink.told c.args.sink.now).written (g.K.Sink.told c.args.sink.now).written)
    (sym c.in-Unlevel.is) (record { is = c.ending_of_rollout.ensures; disk_is = refl; silent = refl })

pub returns-in-Unlevel-clause-ends : goal.returns-in-Unlevel-clause-ends
returns-in-Unlevel-clause-ends g c = record { may = ap may_end c.ending_of_rollout.ensures ∙ rollout-may c.in-Unlevel.outcome; silent = λ zero seven. refl }

pub returns-in-Unlevel-clause-write_fault : goal.returns-in-Unlevel-clause-write_fault
returns-in-Unlevel-clause-write_fault g c = λ e. absurd (rollout-not-cut c.in-Unlevel.outcome (sym c.ending_of_rollout.ensures ∙ e))
